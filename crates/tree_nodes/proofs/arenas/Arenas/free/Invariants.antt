use Rattle.std.proofs.Common.{◌≡◌}
use Rattle.tree_nodes.specs.Content.{pairs_of, leaves_of, IsSound}
use Rattle.tree_nodes.specs.Prune.{IsCutOff}
use Rattle.tree_nodes.proofs.arenas.Arenas.free.Given as goal

-- the tree stands as it did, and what is left to be freed doesn't stand in it
abbrev pub invariant-loop-height : goal.invariant-loop-height
invariant-loop-height g l = record {
  sound : IsSound g.K.Ord.cmp l.self;
  pairs : pairs_of l.self ≡ pairs_of l.fn.self;
  order : leaves_of l.self ≡ leaves_of l.fn.self;
  leaves : l.self.leaves ≡ l.fn.self.leaves;
  depth : l.self.height ≡ l.fn.self.height;
  loose : IsCutOff l.self l.height l.at l.leaf;
}

abbrev pub decreases-loop-height : goal.decreases-loop-height
decreases-loop-height g l = l.height
