use Rattle.std.proofs.Common.{length, ap, ◌∙◌, arith}
use Rattle.version_views.proofs.RowViewLemmas.{blocks_counted}
use Rattle.version_views.proofs.view.VersionView.tree.Goals as goal

pub spot_of-requires : goal.spot_of-requires
spot_of-requires g c = let count = blocks_counted c.self.invariant ∙ ap length c.self.view_is in omega (arith, c.requires, count)
