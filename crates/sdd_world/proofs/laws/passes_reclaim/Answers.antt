use Rattle.sdd_world.proofs.PassLemmas.{passes_reclaim}
use Rattle.sdd_world.proofs.laws.passes_reclaim.Goals as goal

pub returns : goal.returns
returns g c = passes_reclaim g.T.Holds.holds
