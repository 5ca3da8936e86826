use Rattle.domain_tests.specs.Steps.{StillRests}
use Rattle.domain_tests.proofs.left.retire.Given as goal

abbrev pub invariant-loop-item : goal.invariant-loop-item
invariant-loop-item l = StillRests l.fn.local l.local
