use Rattle.sdd_steps.proofs.Law.{starts}
use Rattle.sdd_steps.proofs.laws.the_start_meets_the_invariant.Goals as goal

pub returns : goal.returns
returns c = starts
