use Rattle.domain_tests.proofs.cells.+reclaim_all.Given as goal

abbrev pub decreases-reclaim_all : goal.decreases-reclaim_all
decreases-reclaim_all a = a.participants
