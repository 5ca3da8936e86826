use Rattle.sdd_world.proofs.IdleParticipantLemmas.{gives_only}
use Rattle.sdd_world.proofs.laws.gives_only.Goals as goal

pub returns : goal.returns
returns g c = gives_only g.T.Holds.holds
