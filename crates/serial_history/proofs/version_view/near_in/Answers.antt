use Rattle.std.proofs.Common.{◌∙◌}
use Rattle.version_views.specs.Cuts.{pairs_in}
use Rattle.serial_history.proofs.NearbyLemmas.{near_between, near_exact, near_larger, near_smaller}
use Rattle.serial_history.proofs.version_view.near_in.Goals as goal

pub returns-in-Exact : goal.returns-in-Exact
returns-in-Exact g c = c.around.ensures ∙ near_exact g.met.K.Ord.total c.args.key.now (pairs_in c.args.version.now) c.laws.ensures.rising.rising c.in-Exact.at _ c.get.ensures c.in-Exact.ensures

pub returns-in-Between : goal.returns-in-Between
returns-in-Between g c = c.around-in-Between.ensures ∙ near_between g.met.K.Ord.total c.args.key.now (pairs_in c.args.version.now) c.laws.ensures.rising.rising c.in-Between.at _ _ c.get-in-Between.ensures c.get_back.ensures c.in-Between.ensures

pub returns-in-Smaller : goal.returns-in-Smaller
returns-in-Smaller g c = c.around-in-Smaller.ensures ∙ near_smaller g.met.K.Ord.total c.args.key.now (pairs_in c.args.version.now) c.laws.ensures.rising.rising c.in-Smaller.at _ c.get_back-in-Smaller.ensures c.in-Smaller.ensures

pub returns-in-Larger : goal.returns-in-Larger
returns-in-Larger g c = c.around-in-Larger.ensures ∙ near_larger g.met.K.Ord.total c.args.key.now (pairs_in c.args.version.now) c.laws.ensures.rising.rising c.in-Larger.at _ c.get-in-Larger.ensures c.in-Larger.ensures
