use Rattle.world_containers.proofs.Names.{spare_owner}
use Rattle.world_containers.proofs.laws.spare_owners.Goals as goal

pub returns : goal.returns
returns g c = spare_owner g.L.LinkedList.link
