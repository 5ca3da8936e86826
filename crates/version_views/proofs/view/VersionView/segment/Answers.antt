use Rattle.std.proofs.Common.{sym}
use Rattle.version_views.proofs.view.VersionView.segment.Goals as goal

pub returns : goal.returns
returns g c = sym c.tree.ensures.pairs
