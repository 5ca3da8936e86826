use Rattle.domain_table.proofs.homes.clear.Given as goal

abbrev pub invariant-loop-home : goal.invariant-loop-home
invariant-loop-home g l = Unit {0}

abbrev pub decreases-loop-home : goal.decreases-loop-home
decreases-loop-home g l = goal.left-loop-home g l
