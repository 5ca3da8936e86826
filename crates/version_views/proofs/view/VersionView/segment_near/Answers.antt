use Rattle.std.proofs.Common.{length, ap, ◌∙◌, arith}
use Rattle.version_views.proofs.RowViewLemmas.{blocks_counted}
use Rattle.version_views.proofs.view.VersionView.segment_near.Goals as goal

pub spot_near-spot-requires : goal.spot_near-spot-requires
spot_near-spot-requires g c = let count = blocks_counted c.self.invariant ∙ ap length c.self.view_is in omega (arith, c.requires, count)
