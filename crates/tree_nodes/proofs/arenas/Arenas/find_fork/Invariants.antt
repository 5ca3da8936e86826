use Rattle.std.proofs.Common.{◌≡◌, ◌≢◌, ◌≤◌, ◌-◌, Option}
use Rattle.std.specs.Prelude.{IfSome}
use Rattle.tree_nodes.specs.Shape.{IsTree, way}
use Rattle.tree_nodes.specs.Content.{content_of}
use Rattle.tree_nodes.proofs.PruneLemmas.{IsForkTo}
use Rattle.tree_nodes.proofs.arenas.Arenas.find_fork.Given as goal

-- a tree stands here while there are steps left, on the way to the key, below the lowest fork so far
abbrev pub invariant-loop-height : goal.invariant-loop-height
invariant-loop-height g l = record {
  within : l.height ≤ l.self.height;
  tree : l.height ≢ 0 → (low : Option g.row.K.Denot) × (high : Option g.row.K.Denot) × IsTree g.K.Ord.cmp (content_of l.self) l.height l.at low high;
  on : l.at ≡ way g.K.Ord.cmp (content_of l.self) l.key (l.self.height - l.height) l.self.root;
  fork : IfSome l.fork (λ f. IsForkTo g.K.Ord.cmp l.key l.self l.height l.at f);
}

abbrev pub decreases-loop-height : goal.decreases-loop-height
decreases-loop-height g l = l.height
