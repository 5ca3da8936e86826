-- where a key is sought
use Rattle.std.specs.Prelude.{◌≡◌, ◌≢◌, ℕ, ◌≤◌, ◌+◌, List, length, slice_get, Some}
use Rattle.std.specs.declared.cmp.Ordering.{Ordering}
use Rattle.std.specs.declared.cmp.Ordering.TheVariants.{Less}
use Rattle.std.specs.List.{All}
use Rattle.leaf_array.specs.Pairs.{IsAscending}
use Rattle.version_views.specs.Cuts.{IsSeparated, pairs_in}

-- blocks by rising keys, each but the last with its greatest key
pub record IsOrdered {K V : Type 0} (cmp : K → K → Ordering) (blocks : List (List (K × V))) (keys : List K) : Type 0 where
  pub some : All (λ b. 1 ≤ length b) blocks
  pub rising : IsAscending cmp (pairs_in blocks)
  pub separated : IsSeparated blocks keys

-- the separator before this place is less than the key, and the one at it is not
pub record IsPlaceOf {K : Type 0} (cmp : K → K → Ordering) (key : K) (keys : List K) (place : ℕ) : Type 0 where
  pub within : place ≤ length keys
  pub before : (i : ℕ) (k : K) → i + 1 ≡ place → slice_get keys i ≡ Some k → cmp k key ≡ Less
  pub behind : (k : K) → slice_get keys place ≡ Some k → cmp k key ≢ Less
