use Rattle.std.proofs.Common.{◌≡◌, drop}
use Rattle.sdd_steps.specs.Steps.{was_held}
use Rattle.sdd_steps.proofs.enabled.was_held.Given as goal

abbrev pub invariant-loop-z : goal.invariant-loop-z
invariant-loop-z l = was_held l.k (drop l.z-index l.seen) ≡ was_held l.k l.seen
