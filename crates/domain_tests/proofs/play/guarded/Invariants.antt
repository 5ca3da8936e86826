use Rattle.domain_tests.specs.Steps.{Stays}
use Rattle.domain_tests.proofs.play.guarded.Given as goal

abbrev pub invariant-loop-row : goal.invariant-loop-row
invariant-loop-row l = Stays l.fn.stage.here l.stage.here
