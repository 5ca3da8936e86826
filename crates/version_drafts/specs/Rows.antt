-- Where a key is in a row of pairs by rising keys.
use Rattle.std.specs.Prelude.{◌≡◌, ℕ, ◌+◌, ◌<◌, ◌≤◌, List, drop, length, slice_get, take, None}
use Rattle.std.specs.declared.cmp.Ordering.{Ordering}
use Rattle.std.specs.Option.{option_map}
use Rattle.leaf_array.specs.Edits.{above, below}
use Rattle.leaf_array.specs.Pairs.{value_of_key}

module _ {K X : Type 0} (cmp : K → K → Ordering) (key : K) (row : List (K × X)) where
  -- its pair is at a place, between those with lesser and with greater keys
  pub record IsFoundAt (place : ℕ) : Type 0 where
    pub within : place < length row
    pub value : value_of_key cmp key row ≡ option_map (λ p. p.1) (slice_get row place)
    pub before : below cmp key row ≡ take place row
    pub behind : above cmp key row ≡ drop (place + 1) row

  -- no pair has it: those with lesser keys end before a place, and those with greater keys begin there
  pub record IsMissingAt (place : ℕ) : Type 0 where
    pub within : place ≤ length row
    pub value : value_of_key cmp key row ≡ None
    pub before : below cmp key row ≡ take place row
    pub behind : above cmp key row ≡ drop place row
