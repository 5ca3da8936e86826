use Rattle.tree_nodes.proofs.node.Node.read_entry.Goals as goal

pub returns-in-Internal : goal.returns-in-Internal
returns-in-Internal g c = rw c.in-Internal.is c.read_entry.ensures

pub returns-in-Leaf : goal.returns-in-Leaf
returns-in-Leaf g c = rw c.in-Leaf.is c.read_entry-in-Leaf.ensures
