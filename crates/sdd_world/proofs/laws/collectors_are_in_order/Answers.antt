use Rattle.sdd_world.proofs.NoteLemmas.{collectors_are_in_order}
use Rattle.sdd_world.proofs.laws.collectors_are_in_order.Goals as goal

pub returns : goal.returns
returns g c = collectors_are_in_order g.T.Holds.holds
