use Rattle.world_containers.proofs.Names.{leaves_released}
use Rattle.world_containers.proofs.laws.releases_leave.Goals as goal

pub returns : goal.returns
returns g c = λ p i w. leaves_released p i w
