use Rattle.domain_tests.specs.Steps.{StillRests}
use Rattle.domain_tests.proofs.jobs.passes.Given as goal

abbrev pub invariant-loop-i : goal.invariant-loop-i
invariant-loop-i l = StillRests l.fn.local l.local
