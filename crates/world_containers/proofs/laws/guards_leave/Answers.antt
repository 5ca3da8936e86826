use Rattle.world_containers.proofs.GuardLemmas.{guards_leave}
use Rattle.world_containers.proofs.laws.guards_leave.Goals as goal

pub returns : goal.returns
returns g c = guards_leave g.row.T.Denot
