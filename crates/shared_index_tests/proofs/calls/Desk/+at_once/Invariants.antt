use Rattle.shared_index_tests.proofs.calls.Desk.+at_once.Given as goal

abbrev pub decreases-at_once : goal.decreases-at_once
decreases-at_once g l = l.participants
