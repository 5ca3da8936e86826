use Rattle.tree_nodes.proofs.PushLemmas.{lesser_all}
use Rattle.tree_nodes.proofs.leaf.Leaf.push.Goals as goal

pub push_last-requires-clause-last : goal.push_last-requires-clause-last
push_last-requires-clause-last g c = lesser_all g.K.Ord.cmp c.args.key c.args.self.now.array.pairs c.requires.above
