use Rattle.shared_session_tests.specs.Participants.{CanWrite}
use Rattle.shared_session_tests.proofs.threads.writes.Given as goal

abbrev pub invariant-loop-behind : goal.invariant-loop-behind
invariant-loop-behind g l = CanWrite l.domain l.cell l.local
