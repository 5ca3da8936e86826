-- Where a leaf is cut in two.
use Rattle.std.specs.Prelude.{◌≡◌, ◌≤◌, ◌-◌, ℕ, List, length, slice_get, IfSome, Option, Some, None, Bool, true, false}
use Rattle.std.specs.Ordering.{is_eq}
use Rattle.std.specs.declared.cmp.Ordering.{Ordering}
use Rattle.std.specs.declared.cmp.Ordering.TheVariants.{Less}
use Rattle.std.specs.Option.{option_map}
use Rattle.tree_nodes.specs.declared.leaf.SplitPoint.{SplitPoint}

-- the key of the pair at a place
abbrev pub key_at : {K V : Type 0} → List (K × V) → ℕ → Option K
key_at pairs n = option_map (λ p. p.0) (slice_get pairs n)

-- the last pair, and its key
abbrev pub last_pair : {X : Type 0} → List X → Option X
last_pair pairs = slice_get pairs (length pairs - 1)

abbrev pub last_key : {K V : Type 0} → List (K × V) → Option K
last_key pairs = key_at pairs (length pairs - 1)

-- there is a pair, and it has the key
abbrev pub is_keyed : {K V : Type 0} → (K → K → Ordering) → K → Option (K × V) → Bool
is_keyed cmp key None = false
is_keyed cmp key (Some p) = is_eq (cmp p.0 key)

-- the separator is the greatest key, if the leaf stays whole below it because the new key is greater, and else the eighth
pub record IsSplitPoint {K V : Type 0} (cmp : K → K → Ordering) (key : K) (pairs : List (K × V)) (split_point : SplitPoint K) : Type 0 where
  pub crowded : 12 ≤ length pairs
  pub whole : split_point.whole ≡ true → last_key pairs ≡ Some split_point.separator
  pub beyond : split_point.whole ≡ true → cmp split_point.separator key ≡ Less
  pub rising : IfSome (last_key pairs) (λ k. cmp k key ≡ Less → split_point.whole ≡ true)
  pub halves : split_point.whole ≡ false → key_at pairs 7 ≡ Some split_point.separator
