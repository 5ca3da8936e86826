use Rattle.std.proofs.Common.{length, ap, ◌∙◌}
use Rattle.version_views.proofs.RowViewLemmas.{blocks_counted}
use Rattle.version_views.proofs.view.VersionView.segment_count.Goals as goal

pub returns : goal.returns
returns g c = c.segments.ensures ∙ blocks_counted c.self.invariant ∙ ap length c.self.view_is
