use Rattle.shared_session_tests.specs.Participants.{StillRests}
use Rattle.shared_session_tests.proofs.opening.all_taken.Given as goal

abbrev pub invariant-loop-row : goal.invariant-loop-row
invariant-loop-row g l = record { reader : StillRests l.fn.reader l.reader; writer : StillRests l.fn.writer l.writer }
