-- Rows of places: what a row holds, and what its edits leave.
use Rattle.std.specs.Prelude.{◌≡◌, ℕ, suc, ◌+◌, ◌==◌, Bool, true, false, cond, ◌||◌, List, [], ◌∷◌, ◌++◌, take, drop, Option, Some, None}
use Rattle.std.specs.declared.cmp.Ordering.{Ordering}
use Rattle.std.specs.declared.cmp.Ordering.TheVariants.{Equal, Greater}
use Rattle.std.specs.Ordering.{is_lt}
use Rattle.leaf_slots.specs.declared.place.Place.{Place}
use Rattle.leaf_slots.specs.declared.place.Place.TheVariants.{Empty, Dead, Live}
use Rattle.leaf_slots.specs.Labels.{slot_of}

module _ {K V : Type 0} where
  abbrev pub is_empty : Place K V → Bool
  is_empty Empty = true
  is_empty (Dead s k v) = false
  is_empty (Live s g k v) = false

  -- the pair of a live place
  abbrev pub live_pair : Place K V → Option (K × V)
  live_pair Empty = None
  live_pair (Dead s k v) = None
  live_pair (Live s g k v) = Some (k, v)

  -- the pairs of the live places at the front
  abbrev pub live_pairs : List (Place K V) → List (K × V)
  live_pairs [] = []
  live_pairs (Empty ∷ ps) = []
  live_pairs (Dead s k v ∷ ps) = []
  live_pairs (Live s g k v ∷ ps) = (k, v) ∷ live_pairs ps

  -- slot and rank of each live place at the front, above the rank `low`
  abbrev pub labels_above : ℕ → List (Place K V) → List (ℕ × ℕ)
  labels_above low [] = []
  labels_above low (Empty ∷ ps) = []
  labels_above low (Dead s k v ∷ ps) = []
  labels_above low (Live s g k v ∷ ps) = (s, low + g + 1) ∷ labels_above (low + g + 1) ps

  -- slot and pair of each dead place
  abbrev pub dead_pairs : List (Place K V) → List (ℕ × (K × V))
  dead_pairs [] = []
  dead_pairs (Empty ∷ ps) = dead_pairs ps
  dead_pairs (Dead s k v ∷ ps) = (s, (k, v)) ∷ dead_pairs ps
  dead_pairs (Live s g k v ∷ ps) = dead_pairs ps

  -- the rank of the last live place at the front
  abbrev pub top : List (Place K V) → ℕ
  top [] = 0
  top (Empty ∷ ps) = 0
  top (Dead s k v ∷ ps) = 0
  top (Live s g k v ∷ ps) = g + 1 + top ps

  abbrev pub has_room : List (Place K V) → Bool
  has_room [] = false
  has_room (p ∷ ps) = is_empty p || has_room ps

  -- one place more at the front; the first empty one is taken up
  abbrev pub pushed : Place K V → List (Place K V) → List (Place K V)
  pushed p [] = []
  pushed p (q ∷ qs) = p ∷ cond (is_empty q) qs (pushed q qs)

  -- one place more behind the live ones at the front
  abbrev pub sunk : Place K V → List (Place K V) → List (Place K V)
  sunk p [] = p ∷ []
  sunk p (Empty ∷ qs) = p ∷ Empty ∷ qs
  sunk p (Dead s k v ∷ qs) = p ∷ Dead s k v ∷ qs
  sunk p (Live s g k v ∷ qs) = Live s g k v ∷ sunk p qs

  -- with a greater gap below the first place, if it is live
  abbrev pub widened : ℕ → List (Place K V) → List (Place K V)
  widened n [] = []
  widened n (Empty ∷ ps) = Empty ∷ ps
  widened n (Dead s k v ∷ ps) = Dead s k v ∷ ps
  widened n (Live s g k v ∷ ps) = Live s (g + n) k v ∷ ps

  -- the first place, if it is live, dead and behind the live ones
  abbrev pub tombstones : List (Place K V) → List (Place K V)
  tombstones [] = []
  tombstones (Empty ∷ ps) = Empty ∷ ps
  tombstones (Dead s k v ∷ ps) = Dead s k v ∷ ps
  tombstones (Live s g k v ∷ ps) = widened (g + 1) (sunk (Dead s k v) ps)

  -- the first place, if it is live, with another slot and pair
  abbrev pub renewed : ℕ → K → V → List (Place K V) → List (Place K V)
  renewed slot key val [] = []
  renewed slot key val (Empty ∷ ps) = Empty ∷ ps
  renewed slot key val (Dead s k v ∷ ps) = Dead s k v ∷ ps
  renewed slot key val (Live s g k v ∷ ps) = Live slot g key val ∷ ps

  -- the first place, if it is live, with another pair in its slot
  abbrev pub paired : K → V → List (Place K V) → List (Place K V)
  paired key val [] = []
  paired key val (Empty ∷ ps) = Empty ∷ ps
  paired key val (Dead s k v ∷ ps) = Dead s k v ∷ ps
  paired key val (Live s g k v ∷ ps) = Live s g key val ∷ ps

  -- the first place, if it is live, as a dead one
  abbrev pub died : List (Place K V) → Place K V
  died [] = Empty
  died (Empty ∷ ps) = Empty
  died (Dead s k v ∷ ps) = Empty
  died (Live s g k v ∷ ps) = Dead s k v

  -- the first place, if it is live, empty
  abbrev pub front_vacated : List (Place K V) → List (Place K V)
  front_vacated [] = []
  front_vacated (Empty ∷ ps) = Empty ∷ ps
  front_vacated (Dead s k v ∷ ps) = Dead s k v ∷ ps
  front_vacated (Live s g k v ∷ ps) = Empty ∷ ps

  -- each live place with no gap and the slot of the bitmap place that it is at, counted from n; the others empty
  abbrev pub repacked : ℕ → List (Place K V) → List (Place K V)
  repacked n [] = []
  repacked n (Empty ∷ ps) = Empty ∷ repacked (n + 1) ps
  repacked n (Dead s k v ∷ ps) = Empty ∷ repacked (n + 1) ps
  repacked n (Live s g k v ∷ ps) = Live (slot_of n) 0 k v ∷ repacked (n + 1) ps

  -- live places with these pairs, no gaps, and the slots of the bitmap places that they are at, counted from n
  abbrev pub lined : ℕ → List (K × V) → List (Place K V)
  lined n [] = []
  lined n (p ∷ ps) = Live (slot_of n) 0 p.0 p.1 ∷ lined (n + 1) ps

  -- how many live places at the front come before the one with a slot
  abbrev pub stands : ℕ → List (Place K V) → ℕ
  stands slot [] = 0
  stands slot (Empty ∷ ps) = 0
  stands slot (Dead s k v ∷ ps) = 0
  stands slot (Live s g k v ∷ ps) = cond (s == slot) 0 (suc (stands slot ps))

  -- the first place that has a slot
  abbrev pub pair_at_slot : ℕ → List (Place K V) → Option (K × V)
  pair_at_slot slot [] = None
  pair_at_slot slot (Empty ∷ ps) = pair_at_slot slot ps
  pair_at_slot slot (Dead s k v ∷ ps) = cond (s == slot) (Some (k, v)) (pair_at_slot slot ps)
  pair_at_slot slot (Live s g k v ∷ ps) = cond (s == slot) (Some (k, v)) (pair_at_slot slot ps)

  abbrev pub no_places : List (Place K V)
  no_places = Empty ∷ Empty ∷ Empty ∷ Empty ∷ Empty ∷ Empty ∷ Empty ∷ Empty ∷ Empty ∷ Empty ∷ Empty ∷ Empty ∷ Empty ∷ Empty ∷ Empty ∷ []

  -- seven empty places
  abbrev pub no_half : List (Place K V)
  no_half = Empty ∷ Empty ∷ Empty ∷ Empty ∷ Empty ∷ Empty ∷ Empty ∷ []

  -- all are empty
  abbrev pub IsEmptied : List (Place K V) → Type 0
  IsEmptied [] = Unit {0}
  IsEmptied (Empty ∷ ps) = IsEmptied ps
  IsEmptied (Dead s k v ∷ ps) = ⊥
  IsEmptied (Live s g k v ∷ ps) = ⊥

  -- dead ones, and then empty ones
  abbrev pub IsDeparted : List (Place K V) → Type 0
  IsDeparted [] = Unit {0}
  IsDeparted (Empty ∷ ps) = IsEmptied ps
  IsDeparted (Dead s k v ∷ ps) = IsDeparted ps
  IsDeparted (Live s g k v ∷ ps) = ⊥

  -- live ones, then dead ones, and then empty ones
  abbrev pub IsPacked : List (Place K V) → Type 0
  IsPacked [] = Unit {0}
  IsPacked (Empty ∷ ps) = IsEmptied ps
  IsPacked (Dead s k v ∷ ps) = IsDeparted ps
  IsPacked (Live s g k v ∷ ps) = IsPacked ps

  -- behind an empty place all are empty
  abbrev pub IsTailed : List (Place K V) → Type 0
  IsTailed [] = Unit {0}
  IsTailed (Empty ∷ ps) = IsEmptied ps
  IsTailed (Dead s k v ∷ ps) = IsTailed ps
  IsTailed (Live s g k v ∷ ps) = IsTailed ps

  -- one place more before the one at `at`; the first empty one behind it is taken up
  abbrev pub IsInsertedAt : ℕ → Place K V → List (Place K V) → List (Place K V) → Type 0
  IsInsertedAt at place before after = after ≡ take at before ++ pushed place (drop at before)

  -- another place at `at`
  abbrev pub IsReplacedAt : ℕ → Place K V → List (Place K V) → List (Place K V) → Type 0
  IsReplacedAt at place before after = after ≡ take at before ++ place ∷ drop (at + 1) before

  -- the live place at `at` with another pair
  abbrev pub IsPairedAt : ℕ → K → V → List (Place K V) → List (Place K V) → Type 0
  IsPairedAt at key val before after = after ≡ take at before ++ paired key val (drop at before)

  -- the first `count` of these pairs from the place `skip` on, with the slots of their bitmap places, counted from `bitmap`
  abbrev pub IsFilledFrom : ℕ → ℕ → ℕ → List (K × V) → List (Place K V) → List (Place K V) → Type 0
  IsFilledFrom skip bitmap count pairs before after = after ≡ take skip before ++ (lined (bitmap + skip) (take count pairs) ++ drop (skip + count) before)

  module _ (cmp : K → K → Ordering) (key : K) where
    -- how many of the live places at the front have a lesser key
    abbrev pub live_below : List (Place K V) → ℕ
    live_below [] = 0
    live_below (Empty ∷ ps) = 0
    live_below (Dead s k v ∷ ps) = 0
    live_below (Live s g k v ∷ ps) = cond (is_lt (cmp k key)) (suc (live_below ps)) 0

    -- the pair behind these
    abbrev pub least : List (Place K V) → Option (K × V)
    least [] = None
    least (Empty ∷ ps) = None
    least (Dead s k v ∷ ps) = None
    least (Live s g k v ∷ ps) = cond (is_lt (cmp k key)) (least ps) (Some (k, v))

    -- the first that isn't lesser has the key
    abbrev pub IsHit : List (Place K V) → Type 0
    IsHit ps = (e : K × V) × (least ps ≡ Some e) × (cmp e.0 key ≡ Equal)

    -- the first that isn't lesser, if there is one, is greater
    abbrev pub IsMiss : List (Place K V) → Type 0
    IsMiss ps = (e : K × V) → least ps ≡ Some e → cmp e.0 key ≡ Greater

-- how many places have a slot
abbrev pub slot_uses : {K V : Type 0} → ℕ → List (Place K V) → ℕ
slot_uses slot [] = 0
slot_uses slot (Empty ∷ ps) = slot_uses slot ps
slot_uses slot (Dead s k v ∷ ps) = cond (s == slot) 1 0 + slot_uses slot ps
slot_uses slot (Live s g k v ∷ ps) = cond (s == slot) 1 0 + slot_uses slot ps
