-- a slot whose item is being reclaimed
use Rattle.std.specs.Prelude.{◌≡◌, ℕ, ◌+◌, ◌<◌, true, List, [], ◌∷◌, ◌++◌, map, None, Some}
use Rattle.atomic_table.specs.Table.{Me}
use Rattle.sdd_steps.specs.Steps.{is_ready, is_inside, is_past}
use Rattle.sdd_homes.specs.declared.Filling.{Filling}
use Rattle.sdd_homes.specs.declared.Garbage.{Garbage}
use Rattle.sdd_homes.specs.declared.Owner.{Owner}
use Rattle.sdd_homes.specs.Book.{Content, deed}
use Rattle.domain_table.specs.Owners.{told}
use Rattle.domain_table.specs.Plays.{deed_home, reclaiming_noted, CanEmpty, CanVacate}
use Rattle.domain_table.specs.Views.{of_participant}
use Rattle.domain_table.specs.declared.board.Acting.{Acting}
use Rattle.domain_table.specs.declared.board.Home.{Home}

-- the seat acts for a participant under an open guard, which may make steps on items and fills no slot
abbrev pub CanReclaimInside : Acting → Type 0
CanReclaimInside d = (d.kind ≡ of_participant) × (is_ready d.known ≡ true) × (is_inside d.known ≡ true) × (d.filling ≡ None)

-- what is in the private bag the longest is past, by the count that was read again
abbrev pub HasPast : Acting → Type 0
HasPast d = (w : Garbage) × (ws : List Garbage) × (d.collected ≡ ws ++ w ∷ []) × (is_past w.age d.known.reread ≡ true)

-- and is in slot k
abbrev pub HasPastAt : ℕ → Acting → Type 0
HasPastAt k d = (w : Garbage) × (ws : List Garbage) × (d.collected ≡ ws ++ w ∷ []) × (is_past w.age d.known.reread ≡ true) × (w.slot ≡ k)

-- a home with parts can be taken out of the slot that is being emptied, the last one
abbrev pub CanGather : Acting → Type 0
CanGather d = (d.kind ≡ of_participant) × ((f : Filling) × (d.filling ≡ Some f) × (0 < f.filled) × (f.out ≡ d.sizes.participants))

-- it is the one of participant q, of n participants
abbrev pub GathersFrom : ℕ → ℕ → Acting → Type 0
GathersFrom q n d = (f : Filling) × (d.filling ≡ Some f) × (f.filled ≡ q + 1) × (q < n) × (f.out ≡ n)

-- all homes have their parts, and none is out
abbrev pub IsWhole : ℕ → Acting → Type 0
IsWhole n d = (f : Filling) × (d.filling ≡ Some f) × (f.filled ≡ n) × (f.out ≡ n) × (f.left ≡ 0)

module _ {T : Type 0} (IsIn : Content → Home T → Type 0) where
  -- the home that was taken out is empty, and can go back
  abbrev pub CanGiveEmpty : Me (Home T) Acting → Type 0
  CanGiveEmpty m = (m.0.kind ≡ of_participant) × ((f : Filling) × (tail : List (ℕ × Home T)) × CanEmpty IsIn m f tail)

  -- all homes of slot k are empty, and it can be given back
  abbrev pub CanVacateAt : ℕ → Me (Home T) Acting → Type 0
  CanVacateAt k m = (m.0.kind ≡ of_participant) × (m.0.slot ≡ k) × ((f : Filling) × (tail : List (ℕ × Home T)) × CanVacate IsIn m f tail)

  -- it is given back
  abbrev pub Vacates : Me (Home T) Acting → Me (Home T) Acting → Type 0
  Vacates m after = (f : Filling) (tail : List (ℕ × Home T)) → CanVacate IsIn m f tail → after ≡ (record m.0 { filling = None }, tail)

  -- slot k is opened: all homes have their parts, and the deed of the item, which held these, is in front of what is out with the seat
  pub record IsOpened (m : Me (Home T) Acting) (k : ℕ) (hs : List Owner) (tail : List (ℕ × Home T)) : Type 0 where
    pub at : m.0.slot ≡ k
    pub f : Filling
    pub fills : m.0.filling ≡ Some f
    pub all : f.filled ≡ m.0.sizes.participants
    pub back : f.out ≡ m.0.sizes.participants
    pub none : f.left ≡ 0
    pub deed_out : Home T
    pub is : IsIn (deed f.round hs) deed_out
    pub front : m.1 ≡ (deed_home m.0 k, deed_out) ∷ tail

  -- the item of the slot k, which was opened, is taken out with the owners that it held, and the slot is free
  abbrev pub TakesWhole : Me (Home T) Acting → ℕ → List (ℕ × ℕ) → Me (Home T) Acting → Type 0
  TakesWhole m k held after = (hs : List Owner) (tail : List (ℕ × Home T)) → IsOpened m k hs tail → (held ≡ map told hs) × (after ≡ (record m.0 { filling = None }, tail))

  -- what is in the private bag the longest is being reclaimed: its deed is out with the seat
  abbrev pub TakesNoted : Me (Home T) Acting → Me (Home T) Acting → Type 0
  TakesNoted m after = (w : Garbage) (ws : List Garbage) → m.0.collected ≡ ws ++ w ∷ [] → (hs : List Owner) × (u : Home T) × IsIn (deed w.round hs) u × (after ≡ (reclaiming_noted w hs ws m.0, (deed_home m.0 w.slot, u) ∷ m.1))

module _ {T : Type 0} where
  -- it is reclaimed, and the owners that it held are in hand
  abbrev pub ReclaimsNoted : Me (Home T) Acting → ℕ → List (ℕ × ℕ) → Me (Home T) Acting → Type 0
  ReclaimsNoted m slot held after = (w : Garbage) (ws : List Garbage) → m.0.collected ≡ ws ++ w ∷ [] → (hs : List Owner) × (held ≡ map told hs) × (after ≡ (record m.0 { hand = hs ++ m.0.hand; slot = slot; collected = ws }, m.1))
