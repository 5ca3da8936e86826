use Rattle.version_views.proofs.RowSearchLemmas.{around_rising}
use Rattle.version_views.proofs.view.VersionView.around.Goals as goal

pub returns : goal.returns
returns g c = around_rising g.K.Ord.cmp g.met.K.Ord.total c.args.key.now c.args.self.now c.place_of.result c.laws.ensures.rising c.place_of.ensures c.requires
