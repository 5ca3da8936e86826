use Rattle.std.proofs.Common.{◌≡◌, ◌≢◌, ◌≤◌, ◌+◌, ◌*◌, ◌-◌, Option}
use Rattle.tree_nodes.specs.Shape.{IsTree, way}
use Rattle.tree_nodes.specs.Content.{content_of}
use Rattle.tree_nodes.proofs.arenas.Arenas.node_at_counted.Given as goal

-- a tree stands here while there are steps left, each step took at most ten comparisons, and the way from here leads to where the whole way leads
abbrev pub invariant-loop-height : goal.invariant-loop-height
invariant-loop-height g l = record {
  above : l.left ≤ l.height;
  tree : l.height ≢ 0 → (low : Option g.row.K.Denot) × (high : Option g.row.K.Denot) × IsTree g.K.Ord.cmp (content_of l.self) l.height l.at low high;
  raised : l.initial.steps.count ≤ l.steps.count;
  cost : l.steps.count + 10 * l.height ≤ l.initial.steps.count + 10 * l.self.height;
  same : way g.K.Ord.cmp (content_of l.self) l.key (l.height - l.left) l.at ≡ way g.K.Ord.cmp (content_of l.self) l.key (l.self.height - l.left) l.self.root;
}

abbrev pub decreases-loop-height : goal.decreases-loop-height
decreases-loop-height g l = l.height
