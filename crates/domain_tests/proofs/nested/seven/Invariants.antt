use Rattle.domain_tests.specs.Steps.{StillRests}
use Rattle.domain_tests.proofs.nested.seven.Given as goal

abbrev pub invariant-loop-n : goal.invariant-loop-n
invariant-loop-n l = StillRests l.fn.local l.local
