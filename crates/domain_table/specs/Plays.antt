-- what the seat that makes a step on a word knows then
use Rattle.std.specs.Prelude.{◌≡◌, ◌≢◌, ◌⊎◌, ℕ, suc, ◌+◌, ◌-◌, ◌^◌, ◌<◌, ◌≤◌, List, [], ◌∷◌, ◌++◌, length, take, drop, Option, None, Some, ◌==◌, cond, true}
use mathlib.Core.Option.{some}
use Rattle.atomic_table.specs.Table.{Me, Step, rest}
use Rattle.atomic_table.specs.declared.shared.Seat.{Seat}
use Rattle.sdd_plain.specs.declared.sizes.Sizes.{Sizes}
use Rattle.sdd_steps.specs.declared.participant.Phase.TheVariants.{HasRead, Opened}
use Rattle.sdd_steps.specs.declared.participant.Participant.{Participant}
use Rattle.sdd_steps.specs.declared.participant.Loaded.{Loaded}
use Rattle.sdd_steps.specs.State.{Has}
use Rattle.sdd_steps.specs.Steps.{is_inside}
use Rattle.sdd_homes.specs.declared.Lease.{Lease}
use Rattle.sdd_homes.specs.declared.Owner.{Owner}
use Rattle.sdd_homes.specs.declared.Filling.{Filling}
use Rattle.sdd_homes.specs.declared.Garbage.{Garbage}
use Rattle.sdd_homes.specs.Book.{Content, part, home, lease, Lends, Apart, recounted, blank, room, deed}
use Rattle.domain_table.specs.Views.{of_owner, of_participant, spent, gathering, registered, reading, rereading, publishing, rotated, looking, settling, closing}
use Rattle.domain_table.specs.Layout.{state_word, claim_word, slot_word, link_word, all_homes, Tells, shown}
use Rattle.domain_table.specs.Chains.{is_threaded, left_code, AllBelow}
use Rattle.domain_table.specs.Owners.{slot_code, part_of, besides}
use Rattle.domain_table.specs.declared.board.Acting.{Acting}

-- the seat's step is recorded: on which word it was, what it found there, and what it left
abbrev pub with_step : {S : Type 0} → ℕ → ℕ → ℕ → Me S Acting → Me S Acting
with_step i found left m = (record m.0 { cell_steps = m.0.cell_steps ++ record { word = i; found = found; left = left } ∷ [] }, m.1)

module _ {S : Type 0} where
  -- all stays with the seat but what it knows of the participant; or but whom it has looked at
  abbrev pub with_known : Participant → Me S Acting → Me S Acting
  with_known x m = (record m.0 { known = x }, m.1)

  abbrev pub with_looks : List ℕ → Me S Acting → Me S Acting
  with_looks ls m = (record m.0 { known = record m.0.known { looked = ls } }, m.1)

  -- or but the owners in hand; what waits in the participant's bags; what is in the private bag
  abbrev pub with_hand : List Owner → Me S Acting → Me S Acting
  with_hand os m = (record m.0 { hand = os }, m.1)

  abbrev pub with_waits : List Garbage → Me S Acting → Me S Acting
  with_waits ws m = (record m.0 { waits = ws }, m.1)

  abbrev pub with_collected : List Garbage → Me S Acting → Me S Acting
  with_collected ws m = (record m.0 { collected = ws }, m.1)

module _ {S : Type 0} where
  -- the count is read
  abbrev pub read_then : Step S → Me S Acting → ℕ → Me S Acting → Type 0
  read_then t m n m' = m' ≡ (record m.0 { known = reading n m.0.known }, m.1)

  -- the number read is published, at a count that isn't below it
  abbrev pub publish_then : Step S → Me S Acting → ℕ → Me S Acting → Type 0
  publish_then t m n m' = (e : ℕ) → m.0.known.phase ≡ HasRead e → (b : ℕ) × (e ≤ b) × (m' ≡ (record m.0 { known = publishing e m.0.known; born = b; waits = rotated e m.0.known.found m.0.waits }, m.1))

  -- under an open guard the count is read: it was raised at most once since the publication
  abbrev pub count_then : Step S → Me S Acting → ℕ → Me S Acting → Type 0
  count_then t m n m' = (m' ≡ m) × (m.0.born ≤ n) × (n ≤ m.0.born + 1)

  -- under an open guard the count is read again, and known from then on: it was raised at most once since the publication
  abbrev pub reread_then : Step S → Me S Acting → ℕ → Me S Acting → Type 0
  reread_then t m n m' = (m' ≡ (record m.0 { known = rereading n m.0.known }, m.1)) × (m.0.born ≤ n) × (n ≤ m.0.born + 1) × ((w : Garbage) → Has m.0.collected w → w.age ≤ n)

  -- a closed word, or that of the published count, is noted
  abbrev pub look_then : Step S → Me S Acting → ℕ → Me S Acting → Type 0
  look_then t m n m' = (q e : ℕ) → t.word ≡ state_word q → m.0.known.phase ≡ Opened e
      → ((n ≡ 0) ⊎ (n ≡ shown (Opened e)) → m' ≡ (record m.0 { known = looking q m.0.known }, m.1)) × (n ≢ 0 → n ≢ shown (Opened e) → m' ≡ m)

  -- the count is found to be the published one, or another
  abbrev pub agree_then : Step S → Me S Acting → ℕ → Me S Acting → Type 0
  agree_then t m n m' = (e : ℕ) → m.0.known.phase ≡ Opened e → (n ≡ e → m' ≡ (record m.0 { scan = 2 }, m.1)) × (n ≢ e → m' ≡ m)

  -- a word that shows no open guard is noted
  abbrev pub shut_then : Step S → Me S Acting → ℕ → Me S Acting → Type 0
  shut_then t m n m' = (q : ℕ) → t.word ≡ state_word q → (n ≡ 0 → m' ≡ (record m.0 { known = looking q m.0.known }, m.1)) × (n ≢ 0 → m' ≡ m)

  -- all that the participant retired is due
  abbrev pub settle_then : Step S → Me S Acting → ℕ → Me S Acting → Type 0
  settle_then t m n m' = (e : ℕ) → m.0.known.phase ≡ HasRead e → m' ≡ (settling e m.0, m.1)

  abbrev pub raise_then : Step S → Me S Acting → ℕ → Me S Acting → Type 0
  raise_then t m n m' = m' ≡ (record m.0 { scan = 1 }, m.1)

  -- the scan lock is taken where it was free
  abbrev pub lock_then : Step S → Me S Acting → ℕ → Me S Acting → Type 0
  lock_then t m n m' = (n ≡ 0 → m' ≡ (record m.0 { scan = 1 }, m.1)) × (n ≢ 0 → m' ≡ m)

  abbrev pub unlock_then : Step S → Me S Acting → ℕ → Me S Acting → Type 0
  unlock_then t m n m' = m' ≡ (record m.0 { scan = 0 }, m.1)

  -- a new seat acts for nobody
  abbrev pub sit_then : Step S → Me S Acting → ℕ → Me S Acting → Type 0
  sit_then t m n m' = m'.0 ≡ spent

  -- the slot that was in front of what was out with the seat is put back
  abbrev pub end_then : Step S → Me S Acting → ℕ → Me S Acting → Type 0
  end_then t m n m' = m' ≡ (spent, rest m.1)

-- what is announced with the step, how large the place is, is so
abbrev pub learn_then : {S : Type 0} → (S → Sizes → Type 0) → Step S → Me S Acting → ℕ → Me S Acting → Type 0
learn_then Announces t m n m' = (m' ≡ m) × ((x : _) (z : Sizes) → t.said ≡ some x → Announces x z → m.0.sizes ≡ z)

-- a scan leaves alone all but what it notes of the participant itself
abbrev pub Steady : {S : Type 0} → Me S Acting → Me S Acting → Type 0
Steady m m' = (m'.0.kind ≡ m.0.kind) × (m'.0.number ≡ m.0.number) × (m'.0.born ≡ m.0.born) × (m'.0.sizes ≡ m.0.sizes) × (m'.0.spare ≡ m.0.spare) × (m'.0.hand ≡ m.0.hand) × (m'.0.leases ≡ m.0.leases) × (m'.0.releasing ≡ m.0.releasing) × (m'.0.slot ≡ m.0.slot)
    × (m'.0.filling ≡ m.0.filling) × (m'.0.waits ≡ m.0.waits) × (m'.0.left ≡ m.0.left) × (m'.1 ≡ m.1)
    × (m'.0.cell_steps ≡ m.0.cell_steps)

-- and but for what it takes over
abbrev pub SteadyButWaits : {S : Type 0} → Me S Acting → Me S Acting → Type 0
SteadyButWaits m m' = Steady (record m.0 { waits = m'.0.waits }, m.1) m'

-- the seat acts for p, whose guard is open with the count e, at this stage of a scan
abbrev pub Scans : {S : Type 0} → Seat S Acting → ℕ → ℕ → ℕ → Type 0
Scans s p e stage = (s.me.0.kind ≡ of_participant) × (s.me.0.number ≡ p) × (s.me.0.known.phase ≡ Opened e) × (s.me.0.known.found ≡ e) × (s.me.0.scan ≡ stage)

-- where the participant's home of a slot lies
abbrev pub own_home : Acting → ℕ → ℕ
own_home d k = home d.sizes.slots k d.number

-- the view has loaded something more, and has these leases
abbrev pub loading : Loaded → List Lease → Acting → Acting
loading h ls d = record d { known = record d.known { loaded = d.known.loaded ++ h ∷ [] }; leases = ls }

-- what was loaded is leased already
abbrev pub IsLeased : List Lease → ℕ → Loaded → Type 0
IsLeased ls k h = (l : Lease) × Has ls l × (l.slot ≡ k) × (l.item ≡ h.item) × (l.round ≡ h.value)

-- what is leased in the owner's slot is of its round
abbrev pub HasRound : List Lease → Owner → Type 0
HasRound ls o = (l : Lease) → Has ls l → l.slot ≡ o.slot → l.round ≡ o.round

module _ {S : Type 0} (IsIn : Content → S → Type 0) where
  -- the participant's home of the slot k is taken out with its parts of the item; not all slots were leased
  abbrev pub takes_home : Me S Acting → ℕ → Loaded → Me S Acting → Type 0
  takes_home m k h m' = ¬ Lends m.0.leases k × (k < m.0.sizes.slots) × (length m.0.leases < m.0.sizes.slots) × ((c : ℕ) × (u : S) × IsIn (part h.value c) u × (c ≤ 2 ^ 63) × (m' ≡ (loading h (m.0.leases ++ lease k h.item c h.value ∷ []) m.0, (own_home m.0 k, u) ∷ m.1)))

  -- the item in slot k was leased already, or the participant's home of it is taken out
  abbrev pub HasLeasedAs : Me S Acting → ℕ → Loaded → Me S Acting → Type 0
  HasLeasedAs m k h m' = (IsLeased m.0.leases k h × (m' ≡ (loading h m.0.leases m.0, m.1))) ⊎ takes_home m k h m'

  abbrev pub HasLeasedAt : Me S Acting → ℕ → Me S Acting → Type 0
  HasLeasedAt m k m' = (h : Loaded) × HasLeasedAs m k h m'

  -- the cell is empty; or the item that it names is leased
  abbrev pub HasLoaded : Me S Acting → ℕ → Me S Acting → Type 0
  HasLoaded m w m' = (y : ℕ) × (y < 2 ^ 31) × ((Tells w y 0 × (m' ≡ m)) ⊎ ((k : ℕ) × Tells w y (suc k) × HasLeasedAt m k m'))

  abbrev pub load_then : Step S → Me S Acting → ℕ → Me S Acting → Type 0
  load_then t m w m' = HasLoaded (with_step t.word w w m) w m'

  -- the item of the first owner in hand is leased, and what is leased in its slot is of the owner's round
  abbrev pub load_own_then : Step S → Me S Acting → ℕ → Me S Acting → Type 0
  load_own_then t m w m' = (o : Owner) (os : List Owner) → m.0.hand ≡ o ∷ os → HasLeasedAt m o.slot m' × HasRound m'.0.leases o

  -- the slots of these leases are in front of what is out with the seat, each with its parts again
  abbrev pub Refilled : Acting → List Lease → List (ℕ × S) → List (ℕ × S) → Type 0
  Refilled d [] carried tail = carried ≡ tail
  Refilled d (l ∷ ls) carried tail = (u : S) × (others : List (ℕ × S)) × IsIn (part l.round l.count) u × (carried ≡ (own_home d l.slot, u) ∷ others) × Refilled d ls others tail

  -- all homes that are leased can go back
  abbrev pub CanClose : Me S Acting → Type 0
  CanClose m = (tail : List (ℕ × S)) × Refilled m.0 m.0.leases m.1 tail

-- the guard is closed, and all leases have ended
abbrev pub ending : Acting → Acting
ending d = record d { known = closing d.known; leases = [] }

abbrev pub end_all_then : {S : Type 0} → Step S → Me S Acting → ℕ → Me S Acting → Type 0
end_all_then t m n m' = m' ≡ (ending m.0, drop (length m.0.leases) m.1)

-- where a spare slot lies
abbrev pub own_spare : Acting → ℕ → ℕ
own_spare d y = all_homes d.sizes + y

module _ {S : Type 0} (IsIn : Content → S → Type 0) where
  -- the participant's spare slot is in front of what is out with the seat, and is empty
  abbrev pub HasSpare : Me S Acting → List (ℕ × S) → Type 0
  HasSpare m tail = (u : S) × IsIn blank u × (m.1 ≡ (own_spare m.0 m.0.spare, u) ∷ tail)

  -- the seat acts for the participant q from now on, whose spare slot y was taken out
  abbrev pub HasRegistered : Me S Acting → ℕ → ℕ → Me S Acting → Type 0
  HasRegistered m q y m' = (sizes : Sizes) × (m'.0 ≡ registered sizes y q) × HasSpare m' m.1

  -- a participant for which nobody acts is claimed: its word names its spare slot
  abbrev pub claim_then : Step S → Me S Acting → ℕ → Me S Acting → Type 0
  claim_then t m n m' = (q : ℕ) → t.word ≡ claim_word q → (n ≡ 0 → m' ≡ m) × ((y : ℕ) → n ≡ suc y → (y < 2 ^ 31) × HasRegistered m q y m')

  -- the participant's spare slot is in front of what is out with the seat, with the part of an owner in hand, or empty; and w is its word for a cell
  abbrev pub Brings : Me S Acting → Option Owner → List Owner → ℕ → List (ℕ × S) → Type 0
  Brings m new os w tail = (m.0.hand ≡ besides new os) × Tells w m.0.spare (slot_code new) × ((u : S) × IsIn (part_of new) u × (m.1 ≡ (own_spare m.0 m.0.spare, u) ∷ tail))

  -- in its place there is what the cell had, by its word w
  abbrev pub GetsBack : Me S Acting → List Owner → ℕ → List (ℕ × S) → Me S Acting → Type 0
  GetsBack m os w tail m' = (y : ℕ) × (y < 2 ^ 31) × ((old : Option Owner) × Tells w y (slot_code old) × ((u : S) × IsIn (part_of old) u × (m' ≡ (record m.0 { spare = y; hand = besides old os }, (own_spare m.0 y, u) ∷ tail))))

  abbrev pub swap_then : Step S → Me S Acting → ℕ → Me S Acting → Type 0
  swap_then t m w m' = (new : Option Owner) (os : List Owner) (tail : List (ℕ × S)) → Brings m new os t.first tail → GetsBack (with_step t.word w t.first m) os w tail m'

-- the owner that a lease of its item makes
abbrev pub owner_of : Lease → Owner
owner_of l = record { item = l.item; slot = l.slot; round = l.round }

-- one part of the lease is an owner's, which is in hand
abbrev pub cloning : Lease → Acting → Acting
cloning l d = record d { leases = recounted l.slot (l.count - 1) d.leases; hand = owner_of l ∷ d.hand }

-- the first owner in hand is the one that the lease makes, if it is of the same slot
abbrev pub IsAlike : Lease → Acting → Type 0
IsAlike l d = (o : Owner) (os : List Owner) → d.hand ≡ o ∷ os → o.slot ≡ l.slot → owner_of l ≡ o

-- where the word of a slot was the one given, its item has one more owner
abbrev pub clone_then : {S : Type 0} → Step S → Me S Acting → ℕ → Me S Acting → Type 0
clone_then t m n m' = (l : Lease) → Has m.0.leases l → t.word ≡ slot_word m.0.sizes l.slot → (n ≡ t.first → m' ≡ (cloning l m.0, m.1)) × (n ≢ t.first → m' ≡ m) × Apart m.0.leases × IsAlike l m.0

-- with the last owner the item waits, with age 0, or it is put into the private bag with a note, where there is one; 3 is the word of an item with one owner
abbrev pub retiring : Option ℕ → ℕ → Lease → List Garbage → List Garbage
retiring None n l ws = cond (n == 3) (record { item = l.item; slot = l.slot; round = l.round; age = 0; next = 0 } ∷ ws) ws
retiring (Some note) n l ws = ws

abbrev pub collecting : Option ℕ → ℕ → Lease → List Garbage → List Garbage
collecting None n l ws = ws
collecting (Some note) n l ws = cond (n == 3) (record { item = l.item; slot = l.slot; round = l.round; age = note; next = 0 } ∷ ws) ws

-- a note is the count that was read again under the open guard
abbrev pub MayNote : Option ℕ → Participant → Type 0
MayNote None x = Unit {0}
MayNote (Some note) x = (is_inside x ≡ true) × (x.reread ≡ Some note)

-- the part of an owner in hand is joined to the lease of its item
abbrev pub releasing_one : Option ℕ → ℕ → Lease → List Owner → Acting → Acting
releasing_one to n l os d = record d { leases = recounted l.slot (l.count + 1) d.leases; hand = os; waits = retiring to n l d.waits; collected = collecting to n l d.collected }

-- both bags have room for one more item
abbrev pub HasRoom : Acting → Type 0
HasRoom d = (length d.waits < d.sizes.slots) × (length d.collected < d.sizes.slots)

-- the first owner in hand is released, and its item is retired or put into a private bag, as `to` says
abbrev pub release_then : {S : Type 0} → (Participant → Option ℕ) → Step S → Me S Acting → ℕ → Me S Acting → Type 0
release_then to t m n m' = (l : Lease) (o : Owner) (os : List Owner) → Has m.0.leases l → o.slot ≡ l.slot → m.0.hand ≡ o ∷ os → (2 < n) × (l.count < 2 ^ 63) × HasRoom m.0 × Apart m.0.leases × (o.round ≡ l.round) × (m' ≡ (releasing_one (to m.0.known) n l os m.0, m.1))

-- a release of the owner o begins: the participant's home of its item is taken out
abbrev pub HasBegun : {S : Type 0} → (Content → S → Type 0) → Me S Acting → Owner → Me S Acting → Type 0
HasBegun IsIn m o m' = (c : ℕ) × (u : _) × IsIn (part o.round c) u × (c < 2 ^ 63) × (o.slot < m.0.sizes.slots) × (m' ≡ (record m.0 { leases = m.0.leases ++ lease o.slot o.item c o.round ∷ []; releasing = suc o.item }, (own_home m.0 o.slot, u) ∷ m.1))

-- the owner is the first in hand
abbrev pub begin_then : {S : Type 0} → (Content → S → Type 0) → Step S → Me S Acting → ℕ → Me S Acting → Type 0
begin_then IsIn t m n m' = (o : Owner) (os : List Owner) → m.0.hand ≡ o ∷ os → HasBegun IsIn m o m'

-- the participant's home is put back, and the owner is released
abbrev pub ended_release : Option ℕ → ℕ → Lease → List Lease → List Owner → Acting → Acting
ended_release to n l ls os d = record d { leases = ls; hand = os; releasing = 0; waits = retiring to n l d.waits; collected = collecting to n l d.collected }

module _ {S : Type 0} (IsIn : Content → S → Type 0) where
  -- the release of the first owner in hand began: the participant's home of its item is out as the last lease, and in front of what is out with the seat, the owner's part joined to its own
  abbrev pub CanEnd : Me S Acting → Lease → List Lease → Owner → List Owner → List (ℕ × S) → Type 0
  CanEnd m l ls o os tail = (m.0.leases ≡ ls ++ l ∷ []) × (m.0.hand ≡ o ∷ os) × (o.slot ≡ l.slot) × (m.0.releasing ≡ suc o.item) × ((u : S) × IsIn (part l.round (l.count + 1)) u × (m.1 ≡ (own_home m.0 l.slot, u) ∷ tail))

  abbrev pub end_release_then : (Participant → Option ℕ) → Step S → Me S Acting → ℕ → Me S Acting → Type 0
  end_release_then to t m n m' = (l : Lease) (ls : List Lease) (o : Owner) (os : List Owner) (tail : List (ℕ × S)) → CanEnd m l ls o os tail → (2 < n) × HasRoom m.0 × (m' ≡ (ended_release (to m.0.known) n l ls os m.0, tail))

module _ {S : Type 0} (IsIn : Content → S → Type 0) where
  -- the participant's home of an item that it releases or clones is out as the last lease, and in front of what is out with the seat, with all parts of the lease
  abbrev pub CanKeep : Me S Acting → Lease → List Lease → List (ℕ × S) → Type 0
  CanKeep m l ls tail = (m.0.leases ≡ ls ++ l ∷ []) × (m.0.releasing ≡ suc l.item) × ((u : S) × IsIn (part l.round l.count) u × (m.1 ≡ (own_home m.0 l.slot, u) ∷ tail))

  -- the home is put back, and the owners in hand stay
  abbrev pub keep_then : Step S → Me S Acting → ℕ → Me S Acting → Type 0
  keep_then t m n m' = (l : Lease) (ls : List Lease) (tail : List (ℕ × S)) → CanKeep m l ls tail → m' ≡ (record m.0 { leases = ls; releasing = 0 }, tail)

  -- a cell with the word given is swapped; another one is loaded
  abbrev pub exchange_then : Step S → Me S Acting → ℕ → Me S Acting → Type 0
  exchange_then t m w m' = (w ≡ t.first → (new : Option Owner) (os : List Owner) (tail : List (ℕ × S)) → Brings IsIn m new os t.second tail → GetsBack IsIn (with_step t.word w t.second m) os w tail m') × (w ≢ t.first → HasLoaded IsIn (with_step t.word w w m) w m')

-- a cell with the word given gets the other word, which has another tag; else it stays
abbrev pub retag_then : {S : Type 0} → Step S → Me S Acting → ℕ → Me S Acting → Type 0
retag_then t m n m' = (n ≡ t.first → m' ≡ with_step t.word n t.second m) × (n ≢ t.first → m' ≡ with_step t.word n n m)

-- the word of a cell is read, and has some spare slot, tag and item
abbrev pub read_cell_then : {S : Type 0} → Step S → Me S Acting → ℕ → Me S Acting → Type 0
read_cell_then t m w m' = (y : ℕ) × (k : ℕ) × (y < 2 ^ 31) × Tells w y k × (m' ≡ with_step t.word w w m)

-- where the item's own home in slot k lies, which has its deed
abbrev pub deed_home : Acting → ℕ → ℕ
deed_home d k = home d.sizes.slots k d.sizes.participants

-- the view fills slot k, as far as this
abbrev pub filling_at : ℕ → Filling → Acting → Acting
filling_at k f d = record d { slot = k; filling = Some f }

-- a slot that was just claimed: the item's own home is out, and all parts are to be made
abbrev pub claimed_by : Acting → Filling
claimed_by d = record { by = d.number; filled = 0; round = 0; left = 2 ^ 63; out = d.sizes.participants }

-- the next home is out; it is put back, with a parts of the round c
abbrev pub next_out : Filling → Filling
next_out f = record f { out = f.filled }

abbrev pub next_filled : Acting → ℕ → ℕ → Filling → Filling
next_filled d c a f = record f { filled = suc f.filled; round = c; left = f.left - a; out = d.sizes.participants }

module _ {S : Type 0} (IsIn : Content → S → Type 0) where
  -- slot k was vacant, and is claimed: its room is in hand
  abbrev pub HasClaimed : Me S Acting → ℕ → Me S Acting → Type 0
  HasClaimed m k m' = (u : S) × IsIn room u × (m' ≡ (filling_at k (claimed_by m.0) m.0, (deed_home m.0 k, u) ∷ m.1))

  -- slot k was claimed, and nothing else was done since
  abbrev pub IsJustClaimed : Me S Acting → ℕ → Type 0
  IsJustClaimed m k = (m.0.filling ≡ Some (claimed_by m.0)) × (m.0.slot ≡ k) × ((u : S) × IsIn room u × (m.1 ≡ (deed_home m.0 k, u) ∷ rest m.1))

  abbrev pub claim_slot_then : Step S → Me S Acting → ℕ → Me S Acting → Type 0
  claim_slot_then t m n m' = (k : ℕ) → t.word ≡ slot_word m.0.sizes k → (n ≡ 0 → HasClaimed m k m') × (n ≢ 0 → m' ≡ m)

  -- the next home is taken out, empty
  abbrev pub HasTaken : Me S Acting → Filling → Me S Acting → Type 0
  HasTaken m f m' = (u : S) × IsIn blank u × (m' ≡ (filling_at m.0.slot (next_out f) m.0, (home m.0.sizes.slots m.0.slot f.filled, u) ∷ m.1))

  abbrev pub fill_takes_then : Step S → Me S Acting → ℕ → Me S Acting → Type 0
  fill_takes_then t m n m' = (f : Filling) → m.0.filling ≡ Some f → HasTaken m f m'

  -- the home that is out is in front, with a parts of the round c, which is that of the homes that are filled
  abbrev pub CanFill : Me S Acting → Filling → ℕ → ℕ → List (ℕ × S) → Type 0
  CanFill m f c a tail = (m.0.filling ≡ Some f) × (f.out ≡ f.filled) × (f.filled < m.0.sizes.participants) × (a ≤ f.left) × ((f.filled ≡ 0) ⊎ (c ≡ f.round)) × ((u : S) × IsIn (part c a) u × (m.1 ≡ (home m.0.sizes.slots m.0.slot f.filled, u) ∷ tail))

  abbrev pub fill_gives_then : Step S → Me S Acting → ℕ → Me S Acting → Type 0
  fill_gives_then t m n m' = (f : Filling) (c a : ℕ) (tail : List (ℕ × S)) → CanFill m f c a tail → m' ≡ (filling_at m.0.slot (next_filled m.0 c a f) m.0, tail)

  -- a value is a number of parts of one round only
  abbrev pub AreTold : Type 0
  AreTold = (c a c' a' : ℕ) (u : S) → IsIn (part c a) u → IsIn (part c' a') u → (c ≡ c') × (a ≡ a')

-- the owners in hand but the first; the view of a seat that has the first one
abbrev pub others_in : Acting → Acting
others_in d = record d { hand = drop 1 d.hand }

abbrev pub first_in : Acting → Acting
first_in d = record spent { kind = of_owner; hand = take 1 d.hand }

-- the owners of another seat come into the hand
abbrev pub joined_by : Acting → Acting → Acting
joined_by d e = record d { hand = e.hand ++ d.hand }

-- the view without its private bag; the view of a seat that has it
abbrev pub without_bag : Acting → Acting
without_bag d = record d { collected = [] }

abbrev pub bag_alone : Acting → Acting
bag_alone d = gathering d.collected

-- the private bag of another seat replaces one
abbrev pub with_bag : Acting → Acting → Acting
with_bag d e = record d { collected = e.collected }

-- the slot of the owner is the one that was filled last, and it is in hand
abbrev pub owning : Owner → Acting → Acting
owning o d = record d { slot = o.slot; hand = o ∷ [] }

-- the new item i is in the slot that was filled, with its one owner in hand
abbrev pub placing : ℕ → Filling → Acting → Acting
placing i f d = record d { filling = None; hand = record { item = i; slot = d.slot; round = f.round } ∷ [] }

module _ {S : Type 0} (IsIn : Content → S → Type 0) where
  -- all homes have their parts, one part is left for the owner, and the item's own home is in front, with the deed
  abbrev pub CanPlace : Me S Acting → Filling → List (ℕ × S) → Type 0
  CanPlace m f tail = (m.0.filling ≡ Some f) × (f.filled ≡ m.0.sizes.participants) × (f.left ≡ 1) × ((u : S) × IsIn (deed f.round m.0.hand) u × (m.1 ≡ (deed_home m.0 m.0.slot, u) ∷ tail))

  -- an item was placed that holds the items whose owners were in hand
  abbrev pub place_then : Step S → Me S Acting → ℕ → Me S Acting → Type 0
  place_then t m n m' = (f : Filling) (tail : List (ℕ × S)) → CanPlace m f tail → (i : ℕ) × (m' ≡ (placing i f m.0, tail))

-- all these are retired by the participant now, with age 0
abbrev pub taken_all : List Garbage → List Garbage → List Garbage
taken_all [] vs = vs
taken_all (w ∷ ws) vs = record w { age = 0 } ∷ taken_all ws vs

-- what the word of an ended participant names is taken over, with age 0, in its order
abbrev pub HasTakenLeft : {S : Type 0} → Me S Acting → ℕ → ℕ → Me S Acting → Type 0
HasTakenLeft m n own m' = (ws : List Garbage) × (n ≡ left_code ws) × (is_threaded ws ≡ true) × AllBelow m.0.sizes.slots ws × (m' ≡ (record m.0 { waits = taken_all ws m.0.waits; left = own }, m.1))

abbrev pub take_left_then : {S : Type 0} → Step S → Me S Acting → ℕ → Me S Acting → Type 0
take_left_then t m n m' = HasTakenLeft m n m.0.left m'

-- the same of the seat's own participant: nothing of it is left then
abbrev pub take_own_then : {S : Type 0} → Step S → Me S Acting → ℕ → Me S Acting → Type 0
take_own_then t m n m' = HasTakenLeft m n 1 m'

-- the participant leaves all that it retired, and is a newcomer
abbrev pub leaving : Acting → Acting
leaving d = record d { known = record d.known { found = 0 }; waits = []; left = 0 }

abbrev pub leave_then : {S : Type 0} → Step S → Me S Acting → ℕ → Me S Acting → Type 0
leave_then t m n m' = m' ≡ (leaving m.0, m.1)

-- the item w, which is in a private bag, is retired by the participant now, with age 0; the others are in it still
abbrev pub handing_over : Garbage → List Garbage → Acting → Acting
handing_over w ws d = record d { collected = ws; waits = record w { age = 0 } ∷ d.waits }

-- all that is in the private bag is handed over, in its order
abbrev pub hand_all_then : {S : Type 0} → Step S → Me S Acting → ℕ → Me S Acting → Type 0
hand_all_then t m n m' = m' ≡ (record m.0 { collected = []; waits = taken_all m.0.collected m.0.waits }, m.1)

-- the item w is being reclaimed, and has handed over the owners hs; the others still wait
abbrev pub reclaiming : Garbage → List Owner → List Garbage → Acting → Acting
reclaiming w hs ws d = record d { hand = hs ++ d.hand; slot = w.slot; filling = Some (record { by = d.number; filled = d.sizes.participants; round = w.round; left = 0; out = d.sizes.participants }); waits = ws }

-- the same of an item of a private bag
abbrev pub reclaiming_noted : Garbage → List Owner → List Garbage → Acting → Acting
reclaiming_noted w hs ws d = record d { hand = hs ++ d.hand; slot = w.slot; filling = Some (record { by = d.number; filled = d.sizes.participants; round = w.round; left = 0; out = d.sizes.participants }); collected = ws }

-- the last filled home is out, with a parts
abbrev pub gathered : ℕ → Filling → Filling
gathered a f = record f { filled = f.filled - 1; left = f.left + a; out = f.filled - 1 }

-- the homes below a number are filled, a parts more are in hand, and no home is out
abbrev pub emptying : ℕ → ℕ → Filling → Filling
emptying q a f = record f { filled = q; left = f.left + a }

module _ {S : Type 0} (IsIn : Content → S → Type 0) where
  -- what has waited longest is reclaimed: its deed is taken out, and the owners that it held are in hand
  abbrev pub opens_then : Step S → Me S Acting → ℕ → Me S Acting → Type 0
  opens_then t m n m' = (w : Garbage) (ws : List Garbage) → m.0.waits ≡ ws ++ w ∷ [] → (w.slot < m.0.sizes.slots) × ((hs : List Owner) × (u : S) × IsIn (deed w.round hs) u × (m' ≡ (reclaiming w hs ws m.0, (deed_home m.0 w.slot, u) ∷ m.1)))

  -- the same of what is in a private bag the longest
  abbrev pub opens_noted_then : Step S → Me S Acting → ℕ → Me S Acting → Type 0
  opens_noted_then t m n m' = (w : Garbage) (ws : List Garbage) → m.0.collected ≡ ws ++ w ∷ [] → (w.slot < m.0.sizes.slots) × ((hs : List Owner) × (u : S) × IsIn (deed w.round hs) u × (m' ≡ (reclaiming_noted w hs ws m.0, (deed_home m.0 w.slot, u) ∷ m.1)))

  -- the last home that has parts is taken out; with the first one all parts are in hand
  abbrev pub gathers_then : Step S → Me S Acting → ℕ → Me S Acting → Type 0
  gathers_then t m n m' = (f : Filling) → m.0.filling ≡ Some f → (a : ℕ) × (u : S) × IsIn (part f.round a) u × (f.left + a ≤ 2 ^ 63) × (f.filled ≡ 1 → f.left + a ≡ 2 ^ 63) × (m' ≡ (filling_at m.0.slot (gathered a f) m.0, (home m.0.sizes.slots m.0.slot (f.filled - 1), u) ∷ m.1))

  -- the home that is out is in front, empty
  abbrev pub CanEmpty : Me S Acting → Filling → List (ℕ × S) → Type 0
  CanEmpty m f tail = (m.0.filling ≡ Some f) × (f.out ≡ f.filled) × (f.filled < m.0.sizes.participants) × ((u : S) × IsIn blank u × (m.1 ≡ (home m.0.sizes.slots m.0.slot f.filled, u) ∷ tail))

  abbrev pub empties_then : Step S → Me S Acting → ℕ → Me S Acting → Type 0
  empties_then t m n m' = (f : Filling) (tail : List (ℕ × S)) → CanEmpty m f tail → m' ≡ (filling_at m.0.slot (record f { out = m.0.sizes.participants }) m.0, tail)

  -- all homes are empty, and the item's own home is in front, with the room
  abbrev pub CanVacate : Me S Acting → Filling → List (ℕ × S) → Type 0
  CanVacate m f tail = (m.0.filling ≡ Some f) × (f.filled ≡ 0) × (f.out ≡ m.0.sizes.participants) × ((u : S) × IsIn room u × (m.1 ≡ (deed_home m.0 m.0.slot, u) ∷ tail))

  abbrev pub vacates_then : Step S → Me S Acting → ℕ → Me S Acting → Type 0
  vacates_then t m n m' = (f : Filling) (tail : List (ℕ × S)) → CanVacate m f tail → m' ≡ (record m.0 { filling = None }, tail)

-- what is in slot k is followed by what n names
abbrev pub linked_to : ℕ → ℕ → List Garbage → List Garbage
linked_to k n [] = []
linked_to k n (w ∷ ws) = record w { next = cond (w.slot == k) n w.next } ∷ linked_to k n ws

abbrev pub linking : ℕ → ℕ → Acting → Acting
linking k n d = record d { waits = linked_to k n d.waits; collected = linked_to k n d.collected }

-- a bag of the acting participant holds what is in slot k: its own, or the private one at its seat
abbrev pub HoldsSlot : Acting → ℕ → Type 0
HoldsSlot d k = (w : Garbage) × (Has d.waits w ⊎ Has d.collected w) × (w.slot ≡ k)

-- no two of these are in one slot
abbrev pub SlotsApart : List Garbage → Type 0
SlotsApart [] = Unit {0}
SlotsApart (w ∷ ws) = ((v : Garbage) → Has ws v → v.slot ≢ w.slot) × SlotsApart ws

-- n is what is known of the link word of slot k
abbrev pub TellsLink : Acting → ℕ → ℕ → Type 0
TellsLink d k n = (w : Garbage) → Has d.waits w ⊎ Has d.collected w → w.slot ≡ k → w.next ≢ 0 → n ≡ w.next

module _ {S : Type 0} where
  -- what waits is in slots of its own, and so is what is in the private bag
  abbrev pub load_link_then : Step S → Me S Acting → ℕ → Me S Acting → Type 0
  load_link_then t m n m' = (m' ≡ m) × SlotsApart m.0.waits × SlotsApart m.0.collected × ((k : ℕ) → t.word ≡ link_word m.0.sizes k → TellsLink m.0 k n)

-- what came into the bag before w is followed by it
abbrev pub follow_then : {S : Type 0} → Step S → Me S Acting → ℕ → Me S Acting → Type 0
follow_then t m n m' = (xs : List Garbage) (w v : Garbage) (ys : List Garbage) → m.0.waits ≡ xs ++ (w ∷ v ∷ ys) → t.word ≡ link_word m.0.sizes v.slot → t.first ≡ suc w.slot
    → m' ≡ (record m.0 { waits = xs ++ (w ∷ record v { next = suc w.slot } ∷ ys) }, m.1)

-- what came into the private bag before w is followed by it
abbrev pub follow_noted_then : {S : Type 0} → Step S → Me S Acting → ℕ → Me S Acting → Type 0
follow_noted_then t m n m' = (xs : List Garbage) (w v : Garbage) (ys : List Garbage) → m.0.collected ≡ xs ++ (w ∷ v ∷ ys) → t.word ≡ link_word m.0.sizes v.slot → t.first ≡ suc w.slot
    → m' ≡ (record m.0 { collected = xs ++ (w ∷ record v { next = suc w.slot } ∷ ys) }, m.1)
