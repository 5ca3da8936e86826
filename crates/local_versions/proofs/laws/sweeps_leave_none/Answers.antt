use Rattle.local_versions.proofs.SweepLemmas.{sweeps_leave_none}
use Rattle.local_versions.proofs.laws.sweeps_leave_none.Goals as goal

pub returns : goal.returns
returns g c = sweeps_leave_none
