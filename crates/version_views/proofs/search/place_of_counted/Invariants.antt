use Rattle.std.proofs.Common.{◌≡◌, ◌≢◌, ℕ, ◌≤◌, ◌+◌, ◌*◌, ◌-◌, ◌^◌, length, slice_get, Some}
use Rattle.std.specs.declared.cmp.Ordering.TheVariants.{Less}
use Rattle.version_views.proofs.search.place_of_counted.Given as goal

-- the separator before the rest is less than the key, and the one behind it, or its last one, is not; each comparison has halved the rest
abbrev pub invariant-loop-left : goal.invariant-loop-left
invariant-loop-left g l = record {
  within : l.low + l.left ≤ length l.separators;
  raised : l.initial.steps.count ≤ l.steps.count;
  left : 2 ^ (l.steps.count - l.initial.steps.count) * l.left ≤ length l.separators;
  cost : 2 ^ (l.steps.count - l.initial.steps.count) ≤ 2 * length l.separators + 1;
  before : (i : ℕ) (k : g.row.K.Denot) → i + 1 ≡ l.low → slice_get l.separators i ≡ Some k → g.K.Ord.cmp k l.key ≡ Less;
  behind : (top : ℕ) × (l.low ≤ top) × (top ≤ l.low + l.left) × (l.low + l.left ≤ top + 1) × ((k : g.row.K.Denot) → slice_get l.separators top ≡ Some k → g.K.Ord.cmp k l.key ≢ Less);
}

abbrev pub decreases-loop-left : goal.decreases-loop-left
decreases-loop-left g l = l.left
