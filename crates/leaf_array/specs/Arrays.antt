-- What an array keeps of its places.
use Rattle.std.specs.Prelude.{◌≡◌, ℕ, zero, suc, ◌+◌, ◌==◌, Bool, cond, List, length, ◌≤◌}
use Rattle.std.specs.declared.cmp.Ordering.{Ordering}
use Rattle.std.specs.List.Sorted.{IsStrictlySortedBy}
use Rattle.std.specs.Map.{keys_of}
use Rattle.leaf_slots.specs.declared.place.Place.{Place}
use Rattle.leaf_slots.specs.Places.{live_pairs, labels_above, dead_pairs, top, slot_uses, IsPacked}
use Rattle.leaf_array.specs.Cells.{Cells, slot_of}

-- how many of the n lowest bitmap places have a slot
abbrev pub uses_below : ℕ → ℕ → ℕ
uses_below slot zero = 0
uses_below slot (suc n) = cond (slot_of n == slot) 1 0 + uses_below slot n

-- the places of an array
pub record IsArray {K V : Type 0} (cmp : K → K → Ordering) (ps : List (Place K V)) (len used : ℕ) : Type 0 where
  pub count : length ps ≡ 15
  pub packed : IsPacked ps
  pub sorted : IsStrictlySortedBy cmp (keys_of (live_pairs ps))
  pub live : len ≡ length (live_pairs ps)
  pub all : used ≡ length (live_pairs ps) + length (dead_pairs ps)
  pub within : used ≤ 15
  pub ranks : top ps ≤ used
  pub slots : (slot : ℕ) → slot_uses slot ps ≡ uses_below slot used

-- what a contract sees of an array with these places
abbrev pub cells_of : {K V : Type 0} → List (Place K V) → ℕ → Bool → Bool → Cells K V
cells_of ps used frozen retired =
    record { pairs = live_pairs ps; used = used; frozen = frozen; retired = retired; labels = labels_above 0 ps; tombstones = dead_pairs ps }
