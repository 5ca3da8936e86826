use Rattle.std.proofs.Common.{◌∙◌}
use Rattle.version_views.specs.Cuts.{pairs_in}
use Rattle.version_views.proofs.FoundLemmas.{found_has}
use Rattle.version_views.proofs.view.VersionView.contains.Goals as goal

pub returns : goal.returns
returns g c = c.is_some.ensures ∙ found_has g.K.Ord.cmp c.args.key.now (pairs_in c.args.self.now) c.get.result c.get.ensures
