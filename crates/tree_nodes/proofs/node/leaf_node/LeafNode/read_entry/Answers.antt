use Rattle.tree_nodes.proofs.node.leaf_node.LeafNode.read_entry.Goals as goal

pub returns : goal.returns
returns g c = rw (← c.self.view_is) c.read_entry.ensures
