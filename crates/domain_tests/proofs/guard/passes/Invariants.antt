use Rattle.domain_tests.specs.Steps.{StillRests}
use Rattle.domain_tests.proofs.guard.passes.Given as goal

abbrev pub invariant-loop-i : goal.invariant-loop-i
invariant-loop-i g l = StillRests l.fn.local l.local
