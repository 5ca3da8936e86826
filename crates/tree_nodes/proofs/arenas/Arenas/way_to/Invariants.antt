use Rattle.std.proofs.Common.{◌≡◌, ◌≢◌, ◌≤◌, ◌-◌, Option}
use Rattle.tree_nodes.specs.Shape.{IsTree, way}
use Rattle.tree_nodes.specs.Content.{content_of}
use Rattle.tree_nodes.proofs.arenas.Arenas.way_to.Given as goal

-- a tree stands here, and the way has come here, by the node that is above
abbrev pub invariant-loop-height : goal.invariant-loop-height
invariant-loop-height g l = record {
  most : l.height ≤ l.self.height;
  tree : l.height ≢ 0 → (low : Option g.row.K.Denot) × (high : Option g.row.K.Denot) × IsTree g.K.Ord.cmp (content_of l.self) l.height l.at low high;
  leaf : l.at ≡ way g.K.Ord.cmp (content_of l.self) l.key (l.self.height - l.height) l.self.root;
  above : l.self.height ≢ l.height → l.above ≡ way g.K.Ord.cmp (content_of l.self) l.key (l.self.height - l.height - 1) l.self.root;
}

abbrev pub decreases-loop-height : goal.decreases-loop-height
decreases-loop-height g l = l.height
