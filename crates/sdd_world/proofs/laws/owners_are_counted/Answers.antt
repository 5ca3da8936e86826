use Rattle.sdd_world.proofs.CountLemmas.{owners_are_counted}
use Rattle.sdd_world.proofs.laws.owners_are_counted.Goals as goal

pub returns : goal.returns
returns g c = owners_are_counted g.T.Holds.holds
