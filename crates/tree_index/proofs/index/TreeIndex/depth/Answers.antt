use Rattle.std.proofs.Common.{sym}
use Rattle.tree_nodes.specs.Depth.{root_room}
use Rattle.tree_nodes.proofs.DepthLemmas.{headroom_flat}
use Rattle.tree_index.proofs.index.TreeIndex.depth.Goals as goal

pub returns-clause-flat : goal.returns-clause-flat
returns-clause-flat g c = rw (sym c.self.view_is, c.height.ensures) (headroom_flat c.self.inside.arenas.height (root_room g.K.Ord.cmp c.self.inside.arenas))
