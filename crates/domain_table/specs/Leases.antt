-- what a participant has leased, by its rows
use Rattle.std.specs.Prelude.{◌≡◌, ℕ, suc, ◌+◌, slice_index_or, ◌<◌, ◌≤◌, ◌^◌, ◌++◌, Bool, true, false, ◌==◌, ◌&&◌, List, [], ◌∷◌, map, nat_lt, Option, None, Some}
use Rattle.parted.specs.declared.life.Life.{Life}
use Rattle.sdd_homes.specs.declared.Lease.{Lease}
use Rattle.atomic_table.specs.Table.{Me}
use Rattle.sdd_plain.specs.declared.sizes.Sizes.{Sizes}
use Rattle.sdd_steps.specs.declared.participant.Participant.{Participant}
use Rattle.sdd_steps.specs.declared.participant.Loaded.{Loaded}
use Rattle.sdd_steps.specs.State.{Has}
use Rattle.sdd_steps.specs.Steps.{is_ready}
use Rattle.sdd_homes.specs.declared.Owner.{Owner}
use Rattle.sdd_homes.specs.declared.Garbage.{Garbage}
use Rattle.sdd_homes.specs.Book.{Apart}
use Rattle.domain_table.specs.Contents.{IsIn, blanks}
use Rattle.domain_table.specs.Plays.{with_step, HasLeasedAt, HasLoaded, own_home, HasRoom, releasing_one}
use Rattle.domain_table.specs.Layout.{packed}
use Rattle.domain_table.specs.declared.board.Acting.{Acting}
use Rattle.domain_table.specs.declared.board.Home.{Home}
use Rattle.domain_table.specs.declared.board.Home.TheVariants.{Blank}
use Rattle.domain_table.specs.declared.row.Row.{Row}
use Rattle.domain_table.specs.Views.{of_participant}

-- the number of the life that open guards have tokens of, if any is open
abbrev pub life_number : Option Life → ℕ
life_number None = 0
life_number (Some f) = f.id

-- the slot of a row, the round of its item, how many parts it has, and the life that one is lent to
abbrev pub row_told : {T : Type 0} → Row T → ℕ × ℕ × ℕ × ℕ
row_told r = (r.slot, r.lent.pledge.id, r.count, r.lent.pledge.until)

-- the same of a lease under this life
abbrev pub lease_told : ℕ → Lease → ℕ × ℕ × ℕ × ℕ
lease_told life l = (l.slot, l.round, l.count, life)

-- where the participant's homes of what is leased lie
abbrev pub leased_homes : Acting → List Lease → List ℕ
leased_homes d ls = map (λ (l : Lease). own_home d l.slot) ls

-- whether just these slots are out with a seat, in this order, with values that pass a test
abbrev pub has_all : {S : Type 0} → (S → Bool) → List ℕ → List (ℕ × S) → Bool
has_all test [] [] = true
has_all test [] (x ∷ xs) = false
has_all test (k ∷ ks) [] = false
has_all test (k ∷ ks) (x ∷ xs) = ((x.0 == k) && test x.1) && has_all test ks xs

-- where the rows' items are
abbrev pub row_slots : {T : Type 0} → List (Row T) → List ℕ
row_slots = map (λ r. r.slot)

-- whether all numbers are below n
abbrev pub all_below : ℕ → List ℕ → Bool
all_below n [] = true
all_below n (k ∷ ks) = nat_lt k n && all_below n ks

-- the rows are those of the leases, under this life, all in slots of the place, and there is room for a row of each slot
abbrev pub HasRows : {T : Type 0} → ℕ → ℕ → List Lease → List (Row T) → ℕ → Type 0
HasRows life slots ls rows room = (map row_told rows ≡ map (lease_told life) ls) × (all_below slots (row_slots rows) ≡ true) × (slots ≤ room)

-- they are still those of the leases, and the room is what it was
abbrev pub KeepsRows : {T : Type 0} → ℕ → ℕ → List Lease → List (Row T) → ℕ → ℕ → Type 0
KeepsRows life slots ls rows before after = (map row_told rows ≡ map (lease_told life) ls) × (all_below slots (row_slots rows) ≡ true) × (after ≡ before)

-- the rows are those of the leases, under some life, all in slots of the place
abbrev pub AreRowsOf : {T : Type 0} → ℕ → List Lease → List (Row T) → Type 0
AreRowsOf slots ls rows = ((life : ℕ) × (map row_told rows ≡ map (lease_told life) ls)) × (all_below slots (row_slots rows) ≡ true)

-- where the rows were those of the leases, under any life, the new rows are those of the new leases
abbrev pub StayRowsOf : {T : Type 0} → List Lease → List (Row T) → List Lease → List (Row T) → Type 0
StayRowsOf ls rows ls' rows' = (life : ℕ) → map row_told rows ≡ map (lease_told life) ls → map row_told rows' ≡ map (lease_told life) ls'

-- and they are in the slots that they were in, with as much room
abbrev pub StayInPlace : {T : Type 0} → List Lease → List (Row T) → ℕ → List Lease → List (Row T) → ℕ → Type 0
StayInPlace ls rows room ls' rows' room' = StayRowsOf ls rows ls' rows' × (room' ≡ room) × (row_slots rows' ≡ row_slots rows)

-- this is the life of the leases whose rows these are
abbrev pub IsLifeOf : {T : Type 0} → List (Row T) → ℕ → Type 0
IsLifeOf rows n = (life : ℕ) (ls : List Lease) → map row_told rows ≡ map (lease_told life) ls → n ≡ life

-- the leases are in the slots that they were in
abbrev pub AreAt : List Lease → List Lease → Type 0
AreAt ls ls' = map (λ (l : Lease). l.slot) ls' ≡ map (λ (l : Lease). l.slot) ls

-- the lease of the first owner's slot has few parts, of the owner's round, and both bags have room for one more item
abbrev pub HasFew : Acting → Type 0
HasFew d = (l : Lease) (o : Owner) (os : List Owner) → Has d.leases l → o.slot ≡ l.slot → d.hand ≡ o ∷ os → (l.count < 2 ^ 63) × HasRoom d × Apart d.leases × (o.round ≡ l.round)

-- the first owner in hand is released, where this many were found
abbrev pub ReleasesOne : {S : Type 0} → (Participant → Option ℕ) → Me S Acting → ℕ → Me S Acting → Type 0
ReleasesOne to m n m' = (l : Lease) (o : Owner) (os : List Owner) → Has m.0.leases l → o.slot ≡ l.slot → m.0.hand ≡ o ∷ os → m' ≡ (releasing_one (to m.0.known) n l os m.0, m.1)

-- the first owner in hand is of an item in this slot and of this round
abbrev pub IsFirst : Acting → ℕ → ℕ → Type 0
IsFirst d k r = (o : Owner) × (os : List Owner) × (d.hand ≡ o ∷ os) × (o.slot ≡ k) × (o.round ≡ r)

-- an item that has lost its last owner waits, with age 0, or is in the private bag, with its note
abbrev pub first_age : Option ℕ → ℕ
first_age None = 0
first_age (Some note) = note

abbrev pub gone_to : Option ℕ → Garbage → Acting → Acting
gone_to None w d = record d { waits = w ∷ d.waits }
gone_to (Some note) w d = record d { collected = w ∷ d.collected }

-- the first owner in hand was released, and this many others are left: with the last one its item, in slot k, is retired or put into a private bag, as `to` says; the leases are these now
abbrev pub HasReleased : {S : Type 0} → (Participant → Option ℕ) → ℕ → ℕ → Me S Acting → List Lease → Me S Acting → Type 0
HasReleased to k left m ls m' = (o : Owner) (os : List Owner) → m.0.hand ≡ o ∷ os
    → (0 < left → m' ≡ (record m.0 { hand = os; leases = ls }, m.1)) × (left ≡ 0 → (w : Garbage) × (w.slot ≡ k) × (w.age ≡ first_age (to m.0.known)) × (m' ≡ (gone_to (to m.0.known) w (record m.0 { hand = os; leases = ls }), m.1)))

-- the same, where the leases are in the slots that they were in
abbrev pub HasReleasedOne : {S : Type 0} → (Participant → Option ℕ) → ℕ → ℕ → Me S Acting → Me S Acting → Type 0
HasReleasedOne to k left m m' = (ls : List Lease) × AreAt m.0.leases ls × HasReleased to k left m ls m'

-- something may have been loaded under the open guard, and leased
abbrev pub HasLeased : {S : Type 0} → Me S Acting → Me S Acting → Type 0
HasLeased m m' = (hs : List Loaded) × (ls : List Lease) × (m'.0 ≡ record m.0 { known = record m.0.known { loaded = hs }; leases = ls })

-- something may have been loaded under the open guard, and these are leased besides: their homes are out behind the others, and empty
abbrev pub HasNoted : {T : Type 0} → Me (Home T) Acting → Me (Home T) Acting → Type 0
HasNoted m m' = (hs : List Loaded) × (ls : List Lease) × (m' ≡ (record m.0 { known = record m.0.known { loaded = hs }; leases = m.0.leases ++ ls }, m.1 ++ blanks (leased_homes m.0 ls)))

-- this participant has loaded the item in slot k; until then the rows were those of its leases
abbrev pub WasLeased : {T : Type 0} → (T → List (ℕ × ℕ)) → ℕ → ℕ → Sizes → ℕ → List (Row T) → Me (Home T) Acting → Type 0
WasLeased holds k number sizes life rows m' = (m : Me (Home _) Acting) × HasLeasedAt (IsIn holds) m k m' × (m.0.number ≡ number) × (m.0.sizes ≡ sizes) × (map row_told rows ≡ map (lease_told life) m.0.leases)

-- this participant has loaded the cell's word; until then the rows were those of its leases
abbrev pub WasLoaded : {T : Type 0} → (T → List (ℕ × ℕ)) → ℕ → ℕ → Sizes → ℕ → List (Row T) → Me (Home T) Acting → Type 0
WasLoaded holds word number sizes life rows m' = (m : Me (Home _) Acting) × HasLoaded (IsIn holds) m word m' × (m.0.number ≡ number) × (m.0.sizes ≡ sizes) × (map row_told rows ≡ map (lease_told life) m.0.leases)

-- what was loaded is noted: the item in slot k, or the one that the cell's word names, if until then the rows were those of the leases
abbrev pub NotesLeased : {T : Type 0} → (T → List (ℕ × ℕ)) → ℕ → ℕ → List (Row T) → Me (Home T) Acting → Me (Home T) Acting → Type 0
NotesLeased holds k life rows m' m'' = (m : Me (Home _) Acting) → HasLeasedAt (IsIn holds) m k m' → map row_told rows ≡ map (lease_told life) m.0.leases → HasNoted m m''

abbrev pub NotesLoaded : {T : Type 0} → (T → List (ℕ × ℕ)) → ℕ → ℕ → List (Row T) → Me (Home T) Acting → Me (Home T) Acting → Type 0
NotesLoaded holds word life rows m' m'' = (m : Me (Home _) Acting) → HasLoaded (IsIn holds) m word m' → map row_told rows ≡ map (lease_told life) m.0.leases → HasNoted m m''

-- the home of an item that is cloned, where its lease is the last one, is in front of what is out with the seat, and is empty
abbrev pub HasEmptied : {T : Type 0} → Me (Home T) Acting → ℕ → Lease → List Lease → List (ℕ × Home T) → Type 0
HasEmptied m at l ls tail = (m.0.leases ≡ ls ++ l ∷ []) × (m.0.releasing ≡ suc l.item) × (at ≡ own_home m.0 l.slot) × (m.1 ≡ (at, Blank) ∷ tail)

-- the first owner in hand, of an item of the round r, is there twice now; the leases are these now
abbrev pub HasCloned : {S : Type 0} → Me S Acting → ℕ → List Lease → Me S Acting → Type 0
HasCloned m r ls m' = (o : Owner) (os : List Owner) → m.0.hand ≡ o ∷ os → (o.round ≡ r) × (m' ≡ (record m.0 { hand = o ∷ o ∷ os; leases = ls }, m.1))

-- the same, where the leases are in the slots that they were in
abbrev pub HasClonedOne : {S : Type 0} → Me S Acting → ℕ → Me S Acting → Type 0
HasClonedOne m r m' = (ls : List Lease) × AreAt m.0.leases ls × HasCloned m r ls m'

-- one more owner, of the item of the round r in slot k, is first in hand: the one that was first, if that is of the slot; the leases are in the slots that they were in
abbrev pub HasOwned : {S : Type 0} → ℕ → ℕ → Me S Acting → Me S Acting → Type 0
HasOwned k r m m' = (o : Owner) × (ls : List Lease) × (o.slot ≡ k) × (o.round ≡ r) × AreAt m.0.leases ls × (m' ≡ (record m.0 { hand = o ∷ m.0.hand; leases = ls }, m.1))
    × ((first : Owner) (os : List Owner) → m.0.hand ≡ first ∷ os → first.slot ≡ k → o ≡ first)

-- the seat acts for p, which has nothing leased and releases nothing, and may make steps on items
abbrev pub IsAtRest : ℕ → Acting → Type 0
IsAtRest p d = (d.kind ≡ of_participant) × (d.number ≡ p) × (is_ready d.known ≡ true) × (d.releasing ≡ 0) × (d.leases ≡ [])

-- the code of what a row is of, or that of nothing
abbrev pub HasCode : {T : Type 0} → List (Row T) → Option ℕ → ℕ → Type 0
HasCode rows None k = k ≡ 0
HasCode {T} rows (Some at) k = (d : Row T) → (slice_index_or rows at d).slot + 1 ≡ k

-- the word was found with this tag, and names what this row is of
abbrev pub IsFoundAs : {T : Type 0} → ℕ → ℕ → List (Row T) → Option ℕ → Type 0
IsFoundAs w t rows at = (y : ℕ) × (c : ℕ) × (y < 2 ^ 31) × (t < 4) × (w ≡ packed y t c) × HasCode rows at c

-- the cell with this word was loaded in one step: it had this tag, and what it names is leased, with this row
abbrev pub HasLeasedFound : {T : Type 0} → ℕ → ℕ → List (Row T) → Option ℕ → Me (Home T) Acting → Me (Home T) Acting → Type 0
HasLeasedFound i t rows at m m' = (w : ℕ) × HasLeased (with_step i w w m) m' × IsFoundAs w t rows at

-- this row is of the round of the first owner in hand
abbrev pub IsRowOfFirst : {T : Type 0} → Acting → List (Row T) → ℕ → Type 0
IsRowOfFirst {T} d rows at = (o : Owner) (os : List Owner) → d.hand ≡ o ∷ os → (r : Row T) → (slice_index_or rows at r).lent.pledge.id ≡ o.round

-- the code of a slot, if there is one
abbrev pub code_told : {X : Type 0} → Option (ℕ × X) → ℕ
code_told None = 0
code_told (Some t) = t.0 + 1
