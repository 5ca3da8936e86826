use Rattle.tree_nodes.proofs.ChildLemmas.{first_is, first_none}
use Rattle.tree_nodes.proofs.node.InnerNode.first.Goals as goal

pub returns-in-Some : goal.returns-in-Some
returns-in-Some g c = first_is c.args.self.now.children.pairs c.args.self.now.last _ (rw c.in-Some.is at c.pair.ensures)

pub returns-in-None : goal.returns-in-None
returns-in-None g c = first_none c.args.self.now.children.pairs c.args.self.now.last (rw c.in-None.is at c.pair.ensures)
