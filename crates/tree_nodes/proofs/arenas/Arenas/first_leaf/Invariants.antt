use Rattle.std.proofs.Common.{◌≡◌, Option, None}
use Rattle.tree_nodes.specs.Shape.{leaves_under, IsTree}
use Rattle.tree_nodes.specs.Content.{content_of, leaves_of}
use Rattle.tree_nodes.specs.Chain.{first_or}
use Rattle.tree_nodes.proofs.arenas.Arenas.first_leaf.Given as goal

-- a tree stands here, and its first leaf is that of the whole
abbrev pub invariant-loop-height : goal.invariant-loop-height
invariant-loop-height g l = record {
  tree : (low : Option g.row.K.Denot) × (high : Option g.row.K.Denot) × IsTree g.K.Ord.cmp (content_of l.self) l.height l.at low high;
  same : first_or None (leaves_under (content_of l.self) l.height l.at) ≡ first_or None (leaves_of l.self);
}

abbrev pub decreases-loop-height : goal.decreases-loop-height
decreases-loop-height g l = l.height
