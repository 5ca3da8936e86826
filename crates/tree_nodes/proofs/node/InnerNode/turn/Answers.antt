use Rattle.std.proofs.Common.{sym, ap, ◌∙◌}
use Rattle.tree_nodes.proofs.ChildLemmas.{child_at_place, child_or}
use Rattle.tree_nodes.proofs.node.InnerNode.turn.Goals as goal

pub returns-in-Some-clause-child : goal.returns-in-Some-clause-child
returns-in-Some-clause-child g c =
    let last = c.args.self.now.last in
    ap (child_or last) (sym (rw c.in-Some.is at c.lower_bound-place.ensures.pair)) ∙ sym (child_at_place g.K.Ord.cmp c.args.key.now last c.args.self.now.children.pairs)

pub returns-in-None-clause-child : goal.returns-in-None-clause-child
returns-in-None-clause-child g c =
    let last = c.args.self.now.last in
    ap (child_or last) (sym (rw c.in-None.is at c.lower_bound-place.ensures.pair)) ∙ sym (child_at_place g.K.Ord.cmp c.args.key.now last c.args.self.now.children.pairs)
