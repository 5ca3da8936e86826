use Rattle.domain_tests.proofs.left.+leave.Given as goal

abbrev pub decreases-leave : goal.decreases-leave
decreases-leave a = a.participants
