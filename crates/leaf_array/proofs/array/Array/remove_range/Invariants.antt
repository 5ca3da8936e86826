use Rattle.std.proofs.Common.{◌≡◌, ◌-◌, ◌++◌, ◌||◌, ◌&&◌, not, length}
use Rattle.std.specs.Range.Bound.{bound_map}
use Rattle.std.specs.BTreeMap.Range.{range_contains}
use Rattle.leaf_array.specs.Cells.{is_nil, taken_out}
use Rattle.leaf_array.proofs.RangeLemmas.{Cleared}
use Rattle.leaf_array.proofs.array.Array.remove_range.Given as goal

abbrev pub invariant-loop-at : goal.invariant-loop-at
invariant-loop-at g l = record {
  cleared : Cleared (range_contains g.K.Ord.cmp (bound_map (λ k. k.now) l.lo) (bound_map (λ k. k.now) l.hi)) l.at l.initial.self.pairs l.self.pairs l.initial.self.labels l.self.labels;
  tombstones : taken_out (range_contains g.K.Ord.cmp (bound_map (λ k. k.now) l.lo) (bound_map (λ k. k.now) l.hi)) l.self.pairs l.self.labels ++ l.self.tombstones ≡ taken_out (range_contains g.K.Ord.cmp (bound_map (λ k. k.now) l.lo) (bound_map (λ k. k.now) l.hi)) l.initial.self.pairs l.initial.self.labels ++ l.initial.self.tombstones;
  used : l.self.used ≡ l.initial.self.used;
  frozen : l.self.frozen ≡ l.initial.self.frozen;
  retired : l.self.retired ≡ (l.initial.self.retired || is_nil l.self.pairs && not (is_nil l.initial.self.pairs) && not l.initial.self.frozen);
}

abbrev pub decreases-loop-at : goal.decreases-loop-at
decreases-loop-at g l = length l.self.pairs - l.at
