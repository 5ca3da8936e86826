use Rattle.std.proofs.Common.{◌≡◌}
use Rattle.shared_index_tests.proofs.large.read_often.Given as goal

abbrev pub invariant-loop-at : goal.invariant-loop-at
invariant-loop-at g l = l.session.nest ≡ l.initial.session.nest
