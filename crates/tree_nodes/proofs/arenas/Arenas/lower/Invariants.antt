use Rattle.std.proofs.Common.{◌≡◌, ◌≢◌, ◌≤◌}
use Rattle.tree_nodes.specs.Content.{pairs_of, leaves_of, IsSound}
use Rattle.tree_nodes.proofs.arenas.Arenas.lower.Given as goal

-- the tree stands with the leaves that it had
abbrev pub invariant-loop-self : goal.invariant-loop-self
invariant-loop-self g l = record {
  sound : IsSound g.K.Ord.cmp l.self;
  pairs : pairs_of l.self ≡ pairs_of l.fn.self;
  order : leaves_of l.self ≡ leaves_of l.fn.self;
  leaves : l.self.leaves ≡ l.fn.self.leaves;
  depth : l.self.height ≤ l.fn.self.height;
  planted : l.fn.self.height ≢ 0 → l.self.height ≢ 0;
}

abbrev pub decreases-loop-self : goal.decreases-loop-self
decreases-loop-self g l = l.self.height
