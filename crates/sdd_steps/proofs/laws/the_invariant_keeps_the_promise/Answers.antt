use Rattle.sdd_steps.proofs.Law.{safe}
use Rattle.sdd_steps.proofs.laws.the_invariant_keeps_the_promise.Goals as goal

pub returns : goal.returns
returns c = safe
