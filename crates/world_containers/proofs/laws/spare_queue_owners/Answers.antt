use Rattle.world_containers.proofs.QueueLemmas.{spare_queue_owner}
use Rattle.world_containers.proofs.laws.spare_queue_owners.Goals as goal

pub returns : goal.returns
returns g c = spare_queue_owner g.L.LinkedList.link
