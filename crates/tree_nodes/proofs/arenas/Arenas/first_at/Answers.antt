use Rattle.std.proofs.Common.{arith}
use Rattle.tree_nodes.proofs.WalkLemmas.{leaf_around, if_none, if_some}
use Rattle.tree_nodes.proofs.arenas.Arenas.first_at.Goals as goal

pub first_from-requires-clause-own : goal.first_from-requires-clause-own
first_from-requires-clause-own g c = (leaf_around g.K.Ord.cmp c.args.self.now c.requires.sound c.args.insertion_point.at c.args.insertion_point.leaf.now c.requires.insertion_point.own c.requires.insertion_point.there).next_own

pub returns-clause-none : goal.returns-clause-none
returns-clause-none g c =
    let around = leaf_around g.K.Ord.cmp c.args.self.now c.requires.sound c.args.insertion_point.at c.args.insertion_point.leaf.now c.requires.insertion_point.own c.requires.insertion_point.there in
    if_none c.first_from.result (λ e. omega (arith, e, around.next_starts, c.requires.insertion_point.most, c.len.ensures.count, c.if-insertion_point-len.false)) c.first_from.ensures.none

pub returns-clause-there : goal.returns-clause-there
returns-clause-there g c =
    let around = leaf_around g.K.Ord.cmp c.args.self.now c.requires.sound c.args.insertion_point.at c.args.insertion_point.leaf.now c.requires.insertion_point.own c.requires.insertion_point.there in
    if_some c.first_from.result (λ s e. omega (arith, e, around.next_starts, c.requires.insertion_point.most, c.len.ensures.count, c.if-insertion_point-len.false)) c.first_from.ensures.there
