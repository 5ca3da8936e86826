use Rattle.sdd_steps.proofs.Law.{keeps}
use Rattle.sdd_steps.proofs.laws.steps_keep_the_invariant.Goals as goal

pub returns : goal.returns
returns c = keeps
