use Rattle.std.proofs.Common.{◌≡◌, ◌≤◌, ◌<◌, ◌-◌}
use Rattle.slab.specs.Slab.{HasRoomFor}
use Rattle.tree_nodes.specs.Content.{pairs_of, IsSound, NodeHasRoom, leaf_on_way}
use Rattle.tree_nodes.proofs.arenas.Arenas.split_nodes.Given as goal

-- the tree stands with the pairs and the way of the entry, and the node at this height has room
abbrev pub invariant-loop-left : goal.invariant-loop-left
invariant-loop-left g l = record {
  sound : IsSound g.K.Ord.cmp l.self;
  pairs : pairs_of l.self ≡ pairs_of l.fn.self;
  leaves : l.self.leaves ≡ l.fn.self.leaves;
  leaf : leaf_on_way g.K.Ord.cmp l.key l.self ≡ leaf_on_way g.K.Ord.cmp l.key l.fn.self;
  least : 0 < l.left;
  most : l.left ≤ l.self.height;
  room : NodeHasRoom g.K.Ord.cmp l.key l.self l.left;
  nodes : HasRoomFor l.self.nodes (l.left - 1);
}

abbrev pub decreases-loop-left : goal.decreases-loop-left
decreases-loop-left g l = l.left
