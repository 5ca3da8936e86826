use Rattle.domain_tests.specs.Steps.{Rests}
use Rattle.domain_tests.proofs.jobs.deferring.Given as goal

abbrev pub invariant-loop-i : goal.invariant-loop-i
invariant-loop-i l = Rests l.domain l.local
