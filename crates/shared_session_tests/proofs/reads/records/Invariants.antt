use Rattle.std.proofs.Common.{◌≡◌}
use Rattle.shared_session_tests.proofs.reads.records.Given as goal

abbrev pub invariant-loop-at : goal.invariant-loop-at
invariant-loop-at g l = l.session.nest ≡ l.fn.session.nest
