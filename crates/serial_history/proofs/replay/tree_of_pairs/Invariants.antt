use Rattle.std.proofs.Common.{◌≡◌, take}
use Rattle.serial_history.proofs.replay.tree_of_pairs.Given as goal

-- the first pairs stand in the tree
abbrev pub invariant-loop-pair : goal.invariant-loop-pair
invariant-loop-pair g l = l.tree.pairs ≡ take l.pair-index l.pairs
