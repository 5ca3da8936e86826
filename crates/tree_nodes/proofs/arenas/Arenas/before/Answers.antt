use Rattle.std.proofs.Common.{arith}
use Rattle.tree_nodes.proofs.WalkLemmas.{leaf_around, if_none, if_some}
use Rattle.tree_nodes.proofs.arenas.Arenas.before.Goals as goal

pub last_from-requires-clause-own : goal.last_from-requires-clause-own
last_from-requires-clause-own g c = (leaf_around g.K.Ord.cmp c.args.self.now c.requires.sound c.args.spot.at c.args.spot.leaf.now c.requires.insertion_point.own c.requires.insertion_point.there).prev_own

pub returns-clause-none : goal.returns-clause-none
returns-clause-none g c =
    let around = leaf_around g.K.Ord.cmp c.args.self.now c.requires.sound c.args.spot.at c.args.spot.leaf.now c.requires.insertion_point.own c.requires.insertion_point.there in
    if_none c.last_from.result (λ e. omega (arith, e, around.prev_ends, c.if-spot-gt0.false)) c.last_from.ensures.none

pub returns-clause-there : goal.returns-clause-there
returns-clause-there g c =
    let around = leaf_around g.K.Ord.cmp c.args.self.now c.requires.sound c.args.spot.at c.args.spot.leaf.now c.requires.insertion_point.own c.requires.insertion_point.there in
    if_some c.last_from.result (λ s e. omega (arith, e, around.prev_ends, c.if-spot-gt0.false)) c.last_from.ensures.there
