use Rattle.world_containers.proofs.QueueLemmas.{queue_stays}
use Rattle.world_containers.proofs.laws.queues_stay.Goals as goal

pub returns : goal.returns
returns g c = queue_stays g.L.LinkedList.link
