use Rattle.std.proofs.Common.{◌≡◌, Option, None}
use Rattle.tree_nodes.specs.Shape.{leaves_under, IsTree}
use Rattle.tree_nodes.specs.Content.{content_of, leaves_of}
use Rattle.tree_nodes.proofs.RowLemmas.{last_or}
use Rattle.tree_nodes.proofs.arenas.Arenas.last_leaf.Given as goal

-- a tree stands here, and its last leaf is that of the whole
abbrev pub invariant-loop-height : goal.invariant-loop-height
invariant-loop-height g l = record {
  tree : (low : Option g.row.K.Denot) × (high : Option g.row.K.Denot) × IsTree g.K.Ord.cmp (content_of l.self) l.height l.at low high;
  same : last_or None (leaves_under (content_of l.self) l.height l.at) ≡ last_or None (leaves_of l.self);
}

abbrev pub decreases-loop-height : goal.decreases-loop-height
decreases-loop-height g l = l.height
