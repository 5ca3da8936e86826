use Rattle.base_tests.proofs.stage.Stage.end.Given as goal

abbrev pub invariant-loop-thing : goal.invariant-loop-thing
invariant-loop-thing g l = Unit {0}

abbrev pub decreases-loop-thing : goal.decreases-loop-thing
decreases-loop-thing g l = goal.left-loop-thing g l
