use Rattle.std.proofs.Common.{subst}
use Rattle.sdd_steps.specs.Invariant.{Safe}
use Rattle.sdd_steps.proofs.Law.{safe}
use Rattle.sdd_steps.proofs.state.State.is_safe.Goals as goal

pub returns : goal.returns
returns c = subst Safe c.self.view_is (safe _ c.self.invariant)
