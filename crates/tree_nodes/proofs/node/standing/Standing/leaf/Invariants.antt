use Rattle.std.proofs.Common.{◌≡◌}
use Rattle.std.specs.BTreeMap.{is_at}
use Rattle.std.specs.Map.{lookup_entry}
use Rattle.tree_nodes.specs.Standing.{standing_pairs, IsAround, IsStanding}
use Rattle.tree_nodes.proofs.node.standing.Standing.leaf.Given as goal

-- a tree stands here, its pairs stand between lesser keys and greater ones, and what a look-up finds is among them
abbrev pub invariant-loop-at : goal.invariant-loop-at
invariant-loop-at g l = record {
  arenas : l.at.arenas.now ≡ l.self.arenas.now;
  stands : IsStanding g.K.Ord.cmp l.at;
  found : lookup_entry (is_at (g.K.Ord.cmp l.key)) (standing_pairs l.self) ≡ lookup_entry (is_at (g.K.Ord.cmp l.key)) (standing_pairs l.at);
  around : IsAround g.K.Ord.cmp l.key (standing_pairs l.at) (standing_pairs l.self);
}

abbrev pub decreases-loop-at : goal.decreases-loop-at
decreases-loop-at g l = l.at.height
