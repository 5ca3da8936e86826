use Rattle.shared_index.proofs.share.end_all.Given as goal

abbrev pub decreases-loop-share : goal.decreases-loop-share
decreases-loop-share g l = goal.left-loop-share g l
