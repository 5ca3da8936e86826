use Rattle.std.proofs.Common.{List, subst}
use Rattle.tree_index.specs.Proximity.{IsLocated}
use Rattle.version_views.specs.Nearby.{as_proximity}
use Rattle.local_index.proofs.index.LocalIndex.locate.Goals as goal

pub returns : goal.returns
returns g c = subst (λ (ps : List _). IsLocated g.K.Ord.cmp c.args.key.now ps (as_proximity c.locate.result)) c.list_of.ensures.list c.locate.ensures
