use Rattle.tree_nodes.specs.Content.{pairs_of}
use Rattle.tree_nodes.specs.Copy.{place, IsExtended}
use Rattle.tree_nodes.specs.Depth.{ascending_headroom}
use Rattle.tree_nodes.proofs.arenas.Arenas.extend.Given as goal

abbrev pub invariant-loop-left : goal.invariant-loop-left
invariant-loop-left g l = record { run : IsExtended g.K.Ord.cmp l.source (pairs_of l.fn.self) (place l.source l.fn.from) l.fn.count (ascending_headroom g.K.Ord.cmp l.fn.self) l.self l.next l.left }

abbrev pub decreases-loop-left : goal.decreases-loop-left
decreases-loop-left g l = l.left
