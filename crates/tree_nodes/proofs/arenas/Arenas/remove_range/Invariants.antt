use Rattle.std.proofs.Common.{◌≡◌, ◌≤◌, not, false}
use Rattle.std.specs.List.{filter}
use Rattle.std.specs.Range.Bound.{bound_map}
use Rattle.std.specs.BTreeMap.Range.{range_contains}
use Rattle.tree_nodes.specs.Content.{pairs_of, leaves_of, IsSound}
use Rattle.tree_nodes.specs.Walk.{rest, IsOwnLeaf, IsPassed}
use Rattle.tree_nodes.proofs.arenas.Arenas.remove_range.Given as goal

-- the leaves passed hold no key within the bounds, and what a filter would leave is as it was
abbrev pub invariant-loop-next : goal.invariant-loop-next
invariant-loop-next g l = record {
  sound : IsSound g.K.Ord.cmp l.self;
  own : IsOwnLeaf l.self l.next;
  passed : IsPassed (λ k. range_contains g.K.Ord.cmp (bound_map (λ k. k.now) l.fn.lower) (bound_map (λ k. k.now) l.fn.upper) k ≡ false) l.self l.next;
  same : filter (λ p. not (range_contains g.K.Ord.cmp (bound_map (λ k. k.now) l.fn.lower) (bound_map (λ k. k.now) l.fn.upper) p.0)) (pairs_of l.self) ≡ filter (λ p. not (range_contains g.K.Ord.cmp (bound_map (λ k. k.now) l.fn.lower) (bound_map (λ k. k.now) l.fn.upper) p.0)) (pairs_of l.fn.self);
  depth : l.self.height ≤ l.fn.self.height;
}

abbrev pub decreases-loop-next : goal.decreases-loop-next
decreases-loop-next g l = rest (leaves_of l.self) l.next
