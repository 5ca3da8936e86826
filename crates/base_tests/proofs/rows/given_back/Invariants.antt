use Rattle.base_tests.proofs.rows.given_back.Given as goal

abbrev pub invariant-loop-kept : goal.invariant-loop-kept
invariant-loop-kept g l = Unit {0}

abbrev pub decreases-loop-kept : goal.decreases-loop-kept
decreases-loop-kept g l = goal.left-loop-kept g l
