use Rattle.world_containers.proofs.Names.{hung_left}
use Rattle.world_containers.proofs.laws.lists_stay.Goals as goal

pub returns : goal.returns
returns g c = λ cs is at t es w w' l out outs apart h. hung_left g.L.LinkedList.link cs is w w' at t es l out outs apart h
