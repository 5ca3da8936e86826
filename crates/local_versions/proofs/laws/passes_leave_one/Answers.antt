use Rattle.local_versions.proofs.ReclaimLemmas.{passes_leave_one}
use Rattle.local_versions.proofs.laws.passes_leave_one.Goals as goal

pub returns : goal.returns
returns g c = passes_leave_one
