use Rattle.tree_nodes.specs.Content.{pairs_of}
use Rattle.tree_nodes.specs.Copy.{place, IsExtended}
use Rattle.tree_nodes.specs.Depth.{ascending_headroom}
use Rattle.tree_nodes.specs.Push.{LastLeafTakes}
use Rattle.tree_nodes.proofs.arenas.Arenas.fill.Given as goal

-- the last leaf takes as many more as there is room for
abbrev pub invariant-loop-room : goal.invariant-loop-room
invariant-loop-room g l = record {
  run : IsExtended g.K.Ord.cmp l.source (pairs_of l.fn.self) (place l.source l.initial.next) l.fn.count (ascending_headroom g.K.Ord.cmp l.fn.self) l.self l.next l.left;
  takes : LastLeafTakes l.self l.at l.room;
}

abbrev pub decreases-loop-room : goal.decreases-loop-room
decreases-loop-room g l = l.left
