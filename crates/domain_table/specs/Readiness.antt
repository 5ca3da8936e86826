-- what a seat is ready for: what calls ask of the participant that it acts for
use Rattle.std.specs.Prelude.{◌≡◌, ◌≢◌, ℕ, ◌<◌, true, List, ◌∷◌, map, Some}
use Rattle.atomic_table.specs.Table.{Me}
use Rattle.sdd_steps.specs.declared.participant.Phase.TheVariants.{Idle, HasRead, Opened}
use Rattle.sdd_steps.specs.State.{Has}
use Rattle.sdd_steps.specs.Steps.{is_inside, is_ready}
use Rattle.sdd_homes.specs.declared.Filling.{Filling}
use Rattle.sdd_homes.specs.declared.Lease.{Lease}
use Rattle.sdd_homes.specs.declared.Owner.{Owner}
use Rattle.sdd_homes.specs.Book.{Content, part}
use Rattle.domain_table.specs.Leases.{HasEmptied}
use Rattle.domain_table.specs.Owners.{told}
use Rattle.domain_table.specs.Plays.{CanEnd, CanFill, CanKeep}
use Rattle.domain_table.specs.Views.{of_participant, IsBare}
use Rattle.domain_table.specs.declared.board.Acting.{Acting}
use Rattle.domain_table.specs.declared.board.Home.{Home}

-- it acts for a participant, which may make steps on items and releases nothing
abbrev pub CanStep : Acting → Type 0
CanStep d = (d.kind ≡ of_participant) × (is_ready d.known ≡ true) × (d.releasing ≡ 0)

-- and that under an open guard
abbrev pub CanStepInside : Acting → Type 0
CanStepInside d = (d.kind ≡ of_participant) × (is_ready d.known ≡ true) × (is_inside d.known ≡ true) × (d.releasing ≡ 0)

-- and has this slot
abbrev pub CanStepAt : ℕ → Acting → Type 0
CanStepAt k d = (d.kind ≡ of_participant) × (is_ready d.known ≡ true) × (d.releasing ≡ 0) × (d.slot ≡ k)

-- it acts for p, which may make steps on items and releases nothing
abbrev pub CanRelease : ℕ → Acting → Type 0
CanRelease p d = (d.kind ≡ of_participant) × (d.number ≡ p) × (is_ready d.known ≡ true) × (d.releasing ≡ 0)

-- an item can be put into the slot that was claimed: it holds all owners in hand, and no other one
abbrev pub CanPutItem : {T : Type 0} → (T → List (ℕ × ℕ)) → T → Acting → Type 0
CanPutItem holds item d = (d.kind ≡ of_participant) × (is_ready d.known ≡ true) × (d.releasing ≡ 0) × (holds item ≡ map told d.hand)

-- the first owner in hand is of the item that is leased in this slot
abbrev pub IsFirstLeased : ℕ → Acting → Type 0
IsFirstLeased k d = (l : Lease) × (o : Owner) × (os : List Owner) × Has d.leases l × (l.slot ≡ k) × (o.slot ≡ l.slot) × (d.hand ≡ o ∷ os)

-- the home of a participant can be taken out of the slot that is being filled, the next one
abbrev pub CanTakeNext : Acting → Type 0
CanTakeNext d = (d.kind ≡ of_participant) × ((f : Filling) × (d.filling ≡ Some f) × (f.filled < d.sizes.participants) × (f.out ≡ d.sizes.participants))

-- it acts for p, which has no guard open and scans nothing
abbrev pub IsIdle : ℕ → Acting → Type 0
IsIdle p d = (d.kind ≡ of_participant) × (d.number ≡ p) × (d.known.phase ≡ Idle) × (d.scan ≡ 0)

-- and it has no owner, and nothing of the participant's homes
abbrev pub IsIdleAndBare : ℕ → Acting → Type 0
IsIdleAndBare p d = (d.kind ≡ of_participant) × (d.number ≡ p) × (d.known.phase ≡ Idle) × (d.scan ≡ 0) × IsBare d

-- it acts for p, which has left what it retired
abbrev pub HasLeft : ℕ → Acting → Type 0
HasLeft p d = (d.kind ≡ of_participant) × (d.number ≡ p) × (d.known.phase ≡ Idle) × (d.known.found ≡ 0) × IsBare d

-- it acts for p, which has read this count for an opening
abbrev pub CanPublish : ℕ → ℕ → Acting → Type 0
CanPublish p e d = (d.kind ≡ of_participant) × (d.number ≡ p) × (d.known.phase ≡ HasRead e) × (d.scan ≡ 0)

-- it scans with this count, which is the present one, and acts for another participant than q
abbrev pub CanLookAt : ℕ → ℕ → Acting → Type 0
CanLookAt q e d = (d.kind ≡ of_participant) × (d.number ≢ q) × (d.known.phase ≡ Opened e) × (d.known.found ≡ e) × (d.scan ≡ 2)

module _ {T : Type 0} (IsIn : Content → Home T → Type 0) where
  -- the home that was taken out to be filled can go back
  abbrev pub CanGiveNext : Me (Home T) Acting → Type 0
  CanGiveNext m = (m.0.kind ≡ of_participant) × ((f : Filling) × (c : ℕ) × (a : ℕ) × (tail : List (ℕ × Home T)) × CanFill IsIn m f c a tail)

  -- the home that a release took out can go back, and the owners in hand stay
  abbrev pub CanKeepHome : Me (Home T) Acting → Type 0
  CanKeepHome m = (m.0.kind ≡ of_participant) × ((l : Lease) × (ls : List Lease) × (tail : List (ℕ × Home T)) × CanKeep IsIn m l ls tail)

  -- it was emptied since, and these are all parts that belong there
  abbrev pub CanPutBack : Me (Home T) Acting → ℕ → Home T → Type 0
  CanPutBack m at parts = (l : Lease) × (ls : List Lease) × (tail : List (ℕ × Home T)) × HasEmptied m at l ls tail × IsIn (part l.round l.count) parts

  -- the release of the first owner in hand, whose item is in this slot, can end
  abbrev pub CanEndAt : ℕ → Me (Home T) Acting → Type 0
  CanEndAt k m = (l : Lease) × (ls : List Lease) × (o : Owner) × (os : List Owner) × (tail : List (ℕ × Home T)) × (l.slot ≡ k) × CanEnd IsIn m l ls o os tail
