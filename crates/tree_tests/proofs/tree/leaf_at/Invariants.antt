use Rattle.tree_index.specs.Nodes.{height_in}
use Rattle.tree_tests.proofs.tree.leaf_at.Given as goal

abbrev pub decreases-down : goal.decreases-down
decreases-down l = height_in l.node
