use Rattle.world_containers.proofs.BagLemmas.{bag_stays}
use Rattle.world_containers.proofs.laws.bags_stay.Goals as goal

pub returns : goal.returns
returns g c = λ n cs is ds ps os w w' l out outs b. bag_stays n cs is ds w w' ps os l out outs b
