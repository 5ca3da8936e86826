use Rattle.std.proofs.Common.{◌≡◌}
use Rattle.shared_index_tests.proofs.steps.recorded.Given as goal

abbrev pub invariant-loop-ask : goal.invariant-loop-ask
invariant-loop-ask g l = l.session.nest ≡ l.initial.session.nest
