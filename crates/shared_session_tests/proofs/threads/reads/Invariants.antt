use Rattle.shared_session_tests.specs.Participants.{CanWrite}
use Rattle.shared_session_tests.proofs.threads.reads.Given as goal

abbrev pub invariant-loop-turn : goal.invariant-loop-turn
invariant-loop-turn l = CanWrite l.domain l.cell l.local
