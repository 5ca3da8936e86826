use Rattle.domain_tests.specs.Steps.{Rests}
use Rattle.domain_tests.proofs.threads.turns.Given as goal

abbrev pub invariant-loop-turn : goal.invariant-loop-turn
invariant-loop-turn l = Rests l.domain l.local
