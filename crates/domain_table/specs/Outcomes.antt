-- what calls on items and cells leave with the seat that made them
use Rattle.std.specs.Prelude.{◌≡◌, ◌⊎◌, ℕ, ◌+◌, ◌-◌, ◌^◌, ◌<◌, ◌≤◌, true, List, [], ◌∷◌, ◌++◌, drop, length, map, IsSomeAnd, Option, None, Some}
use Rattle.std.specs.Mem.{manually_drop_value}
use Rattle.core.specs.declared.mem.manually_drop.ManuallyDrop.{ManuallyDrop}
use Rattle.atomic_table.specs.Table.{Me}
use Rattle.parted.specs.declared.one.One.{One}
use Rattle.sdd_steps.specs.declared.participant.Participant.{Participant}
use Rattle.sdd_steps.specs.State.{Has}
use Rattle.sdd_steps.specs.Steps.{is_ready}
use Rattle.sdd_homes.specs.declared.Lease.{Lease}
use Rattle.sdd_homes.specs.declared.Owner.{Owner}
use Rattle.sdd_homes.specs.declared.Filling.{Filling}
use Rattle.sdd_homes.specs.declared.Garbage.{Garbage}
use Rattle.sdd_homes.specs.Book.{Content, part, home, deed}
use Rattle.domain_table.specs.Contents.{blanks, is_blank}
use Rattle.domain_table.specs.Owners.{told, besides}
use Rattle.domain_table.specs.Leases.{leased_homes, has_all, HasEmptied}
use Rattle.domain_table.specs.Layout.{Tells}
use Rattle.domain_table.specs.Plays.{with_step, owning, own_spare, HasLoaded, HasLeasedAt, HasRound, Brings, GetsBack, cloning, CanKeep, CanEnd, ended_release, Refilled, CanFill, CanPlace, placing, CanEmpty, filling_at, next_filled, gathered, emptying, reclaiming, deed_home}
use Rattle.domain_table.specs.Views.{of_participant, publishing, rotated}
use Rattle.domain_table.specs.declared.board.Acting.{Acting}
use Rattle.domain_table.specs.declared.board.Home.{Home}
use Rattle.domain_table.specs.declared.board.Home.TheVariants.{Blank}
use Rattle.domain_table.specs.declared.left.Looks.{Looks}

-- a count that isn't below the one read is published, and the rotation is done if it was due
abbrev pub HasPublished : {S : Type 0} → ℕ → Me S Acting → Me S Acting → Type 0
HasPublished e m m' = (b : ℕ) × (e ≤ b) × (m' ≡ (record m.0 { known = publishing e m.0.known; born = b; waits = rotated e m.0.known.found m.0.waits }, m.1))

-- a slot may be claimed for an item to be placed
abbrev pub CanClaim : Acting → Type 0
CanClaim d = (d.kind ≡ of_participant) × (is_ready d.known ≡ true) × (d.releasing ≡ 0) × (d.filling ≡ None)

-- an item is ready to be placed: it holds all owners in hand, and no other one
abbrev pub CanPlaceItem : {T : Type 0} → (T → List (ℕ × ℕ)) → T → Acting → Type 0
CanPlaceItem holds item d = (d.kind ≡ of_participant) × (is_ready d.known ≡ true) × (d.releasing ≡ 0) × (holds item ≡ map told d.hand) × (d.filling ≡ None)

-- the item is in one of this many slots, by a part of it, and its one owner is in hand
abbrev pub HasPlacedItem : {T S : Type 0} → T → ℕ → ℕ → ℕ → Option (ManuallyDrop T) → Me S Acting → Me S Acting → Type 0
HasPlacedItem item slots slot round seen m m' = (o : Owner) × (o.slot ≡ slot) × (o.round ≡ round) × (slot < slots) × (m' ≡ (owning o m.0, m.1)) × IsSomeAnd seen (λ x. manually_drop_value x ≡ item)

-- the same of a slot and a part
abbrev pub HasPlacedOne : {T S : Type 0} → T → ℕ → ℕ × One (Option (ManuallyDrop T)) → Me S Acting → Me S Acting → Type 0
HasPlacedOne item slots placed m m' = HasPlacedItem item slots placed.0 placed.1.part.life.id placed.1.part.seen.value m m'

-- the owners that an item holds, which are first in hand, are released; an item that has lost its last owner waits
abbrev pub HasGivenUp : {T S : Type 0} → (T → List (ℕ × ℕ)) → T → Me S Acting → Me S Acting → Type 0
HasGivenUp holds item m m' = (hs os : List Owner) → holds item ≡ map told hs → m.0.hand ≡ hs ++ os → (ws : List Garbage) × (m' ≡ (record m.0 { hand = os; waits = ws }, m.1))

module _ {T : Type 0} (IsIn : Content → Home T → Type 0) where
  -- the homes of all that is leased are behind what else is out with the seat, each with its parts again
  abbrev pub RefillsAll : Me (Home T) Acting → Me (Home T) Acting → Type 0
  RefillsAll m after = (xs : List (ℕ × Home T)) × Refilled IsIn m.0 m.0.leases xs [] × (after ≡ (m.0, drop (length m.0.leases) m.1 ++ xs))

  -- what the seat brought for this word is exchanged for what the found word names, and the step is recorded
  abbrev pub Exchanges : ℕ → Me (Home T) Acting → ℕ → ℕ → Me (Home T) Acting → Type 0
  Exchanges at m word found after = (new : Option Owner) (os : List Owner) (tail : List (ℕ × Home T)) → Brings IsIn m new os word tail → GetsBack IsIn (with_step at found word m) os found tail after

  -- the cell with this word is loaded, and the step is recorded
  abbrev pub LoadsCell : ℕ → Me (Home T) Acting → ℕ → Me (Home T) Acting → Type 0
  LoadsCell at m found after = HasLoaded IsIn (with_step at found found m) found after

  -- the item of the first owner in hand is leased, in the owner's round
  abbrev pub LeasesFirst : Me (Home T) Acting → Me (Home T) Acting → Type 0
  LeasesFirst m after = (o : Owner) (os : List Owner) → m.0.hand ≡ o ∷ os → HasLeasedAt IsIn m o.slot after × HasRound after.0.leases o

  -- the parts of what is cloned go home, and no release is under way
  abbrev pub KeepsLease : Me (Home T) Acting → Me (Home T) Acting → Type 0
  KeepsLease m after = (l : Lease) (ls : List Lease) (tail : List (ℕ × Home T)) → CanKeep IsIn m l ls tail → after ≡ (record m.0 { leases = ls; releasing = 0 }, tail)

  -- the release under way ends, where this many owners were found
  abbrev pub EndsRelease : (Participant → Option ℕ) → Me (Home T) Acting → ℕ → Me (Home T) Acting → Type 0
  EndsRelease to m count after = (l : Lease) (ls : List Lease) (o : Owner) (os : List Owner) (tail : List (ℕ × Home T)) → CanEnd IsIn m l ls o os tail → after ≡ (ended_release (to m.0.known) count l ls os m.0, tail)

  -- these parts go back to the home that was emptied
  abbrev pub PutsBack : Me (Home T) Acting → ℕ → Home T → Me (Home T) Acting → Type 0
  PutsBack m at parts after = (l : Lease) (ls : List Lease) (tail : List (ℕ × Home T)) → HasEmptied m at l ls tail → IsIn (part l.round l.count) parts → after ≡ (record m.0 { leases = ls; releasing = 0 }, tail)

  -- all homes of what is leased, behind another one, are refilled, and in front then
  abbrev pub RefillsBehind : Me (Home T) Acting → Me (Home T) Acting → Type 0
  RefillsBehind m after = (k : ℕ) → m.1 ≡ blanks (k ∷ leased_homes m.0 m.0.leases) → (xs : List (ℕ × Home T)) × Refilled IsIn m.0 m.0.leases xs (blanks (k ∷ [])) × (after ≡ (m.0, xs))

  -- the part of an owner, or none, is in the spare slot, and this is the word for it
  abbrev pub BringsOne : Me (Home T) Acting → ℕ → ℕ → Me (Home T) Acting → Type 0
  BringsOne m spare word after = (tail : List (ℕ × Home T)) → m.1 ≡ (own_spare m.0 spare, Blank) ∷ tail → (owner : Option Owner) × Brings IsIn after owner m.0.hand word tail × (after.0 ≡ record m.0 { hand = besides owner m.0.hand })

  -- what this word named is taken out of the slot that is the spare one now
  abbrev pub TakesBack : ℕ → Me (Home T) Acting → ℕ → Me (Home T) Acting → Type 0
  TakesBack word before y after = (m : Me (Home T) Acting) (os : List Owner) (tail : List (ℕ × Home T)) → GetsBack IsIn m os word tail before → after ≡ (record m.0 { spare = y; hand = os }, (own_spare m.0 y, Blank) ∷ tail)

  -- the next home of the item that is placed has its parts
  abbrev pub Fills : Me (Home T) Acting → Me (Home T) Acting → Type 0
  Fills m after = (f : Filling) (c a : ℕ) (tail : List (ℕ × Home T)) → CanFill IsIn m f c a tail → after ≡ (filling_at m.0.slot (next_filled m.0 c a f) m.0, tail)

  -- the slot that was filled has an item now, whose one owner is in hand
  abbrev pub Places : Me (Home T) Acting → Me (Home T) Acting → Type 0
  Places m after = (f : Filling) (tail : List (ℕ × Home T)) → CanPlace IsIn m f tail → (i : ℕ) × (after ≡ (placing i f m.0, tail))

  -- the last item that waits is being reclaimed: its deed is out with the seat
  abbrev pub TakesDeed : Me (Home T) Acting → Me (Home T) Acting → Type 0
  TakesDeed m after = (w : Garbage) (ws : List Garbage) → m.0.waits ≡ ws ++ w ∷ [] → (hs : List Owner) × (u : Home T) × IsIn (deed w.round hs) u × (after ≡ (reclaiming w hs ws m.0, (deed_home m.0 w.slot, u) ∷ m.1))

  -- the parts in the last home of the item that is reclaimed are out with the seat
  abbrev pub TakesNext : Me (Home T) Acting → Me (Home T) Acting → Type 0
  TakesNext m after = (f : Filling) → m.0.filling ≡ Some f → (a : ℕ) × (u : Home T) × IsIn (part f.round a) u × (f.left + a ≤ 2 ^ 63) × (f.filled ≡ 1 → f.left + a ≡ 2 ^ 63) × (after ≡ (filling_at m.0.slot (gathered a f) m.0, (home m.0.sizes.slots m.0.slot (f.filled - 1), u) ∷ m.1))

  -- the home that was emptied is returned
  abbrev pub GivesHome : Me (Home T) Acting → Me (Home T) Acting → Type 0
  GivesHome m after = (f : Filling) (tail : List (ℕ × Home T)) → CanEmpty IsIn m f tail → after ≡ (filling_at m.0.slot (record f { out = m.0.sizes.participants }) m.0, tail)

module _ {T : Type 0} where
  -- the word of a cell is read, and has some spare slot and item, and the step is recorded
  abbrev pub ReadsCell : ℕ → Me (Home T) Acting → ℕ → Me (Home T) Acting → Type 0
  ReadsCell at m found after = (y : ℕ) × (k : ℕ) × (y < 2 ^ 31) × Tells found y k × (after ≡ with_step at found found m)

  -- one part of what is leased in this slot is an owner's now, and the owner is in hand
  abbrev pub ClonesAt : ℕ → Me (Home T) Acting → Me (Home T) Acting → Type 0
  ClonesAt k m after = (l : Lease) → Has m.0.leases l → l.slot ≡ k → after ≡ (cloning l m.0, m.1)

  -- the home that is the next one to fill has this many parts of this round
  abbrev pub FillsNext : ℕ → ℕ → ℕ → Me (Home T) Acting → Me (Home T) Acting → Type 0
  FillsNext slot round count m after = (f : Filling) → m.0.filling ≡ Some f → after ≡ (filling_at slot (next_filled m.0 round count f) m.0, m.1)

  -- the spare slot is another one, empty, and all else with the seat is as it was
  abbrev pub HasSwapped : Me (Home T) Acting → ℕ → ℕ → Me (Home T) Acting → Type 0
  HasSwapped m spare y after = (tail : List (ℕ × Home T)) → m.1 ≡ (own_spare m.0 spare, Blank) ∷ tail → after ≡ (record m.0 { spare = y }, (own_spare m.0 y, Blank) ∷ tail)

  -- this many parts of the item are gathered, from its last home that had some
  abbrev pub Gathers : Me (Home T) Acting → ℕ → ℕ → ℕ → ℕ → Me (Home T) Acting → Type 0
  Gathers m slot at round count after = (f : Filling) → m.0.filling ≡ Some f → (round ≡ f.round) × (f.left + count ≤ 2 ^ 63) × (at ≡ 0 → f.left + count ≡ 2 ^ 63) × (after ≡ (filling_at slot (emptying at count f) m.0, m.1))

  -- all parts of the item are gathered
  abbrev pub GathersAll : Me (Home T) Acting → ℕ → ℕ → ℕ → Me (Home T) Acting → Type 0
  GathersAll m slot participants round after = (f : Filling) → m.0.filling ≡ Some f → (g : Filling) × (g.filled ≡ 0) × (g.out ≡ participants) × (round ≡ f.round) × (after ≡ (filling_at slot g m.0, m.1))

  -- the last item that waits is reclaimed, and the owners that it held are in hand
  abbrev pub ReclaimsLast : Me (Home T) Acting → ℕ → List (ℕ × ℕ) → Me (Home T) Acting → Type 0
  ReclaimsLast m slot held after = (w : Garbage) (ws : List Garbage) → m.0.waits ≡ ws ++ w ∷ [] → (hs : List Owner) × (held ≡ map told hs) × (after ≡ (record m.0 { hand = hs ++ m.0.hand; slot = slot; waits = ws }, m.1))

  -- all homes of the item have their parts, and one part is left
  abbrev pub FillsAll : Me (Home T) Acting → ℕ → ℕ → ℕ → Me (Home T) Acting → Type 0
  FillsAll m slot participants round after = (f : Filling) × (f.filled ≡ participants) × (f.out ≡ participants) × (f.left ≡ 1) × (f.round ≡ round) × (after ≡ (filling_at slot f m.0, m.1))

  -- the home of the item at this place is the next one to fill, and this many parts are left
  abbrev pub FillsAt : Me (Home T) Acting → ℕ → ℕ → ℕ → ℕ → Type 0
  FillsAt m at participants count round = (f : Filling) × (m.0.filling ≡ Some f) × (f.filled ≡ at) × (at < participants) × (f.out ≡ participants) × (f.left ≡ count) × ((at ≡ 0) ⊎ (round ≡ f.round))

  -- where a slot and the homes of what is leased were out, empty, they are so now
  abbrev pub KeepsOut : Me (Home T) Acting → Me (Home T) Acting → Type 0
  KeepsOut m after = (k : ℕ) → has_all is_blank (k ∷ leased_homes m.0 m.0.leases) m.1 ≡ true → has_all is_blank (k ∷ leased_homes after.0 after.0.leases) after.1 ≡ true

-- the left word of each participant below n was read
abbrev pub HasLookedAtAll : ℕ → Looks → Type 0
HasLookedAtAll n looks = (q : ℕ) → q < n → Has looks.numbers.items q
