use Rattle.std.proofs.Common.{ℕ, subst, arith}
use Rattle.tree_nodes.specs.Walk.{IsPosition}
use Rattle.tree_nodes.proofs.WalkLemmas.{leaf_around}
use Rattle.tree_nodes.proofs.arenas.Arenas.behind.Goals as goal

pub overflow_add-spot : goal.overflow_add-spot
overflow_add-spot g c = omega (arith, c.requires.spot.within, c.len-len.ensures.count, c.len-len.ensures.within)

pub first_from-requires-clause-own : goal.first_from-requires-clause-own
first_from-requires-clause-own g c = (leaf_around g.K.Ord.cmp c.args.self.now c.requires.sound c.args.spot.at c.args.spot.leaf.now c.requires.spot.insertion_point.own c.requires.spot.insertion_point.there).next_own

pub returns-in-None-clause-none : goal.returns-in-None-clause-none
returns-in-None-clause-none g c =
    let spot = c.args.spot in
    let around = leaf_around g.K.Ord.cmp c.args.self.now c.requires.sound spot.at spot.leaf.now c.requires.spot.insertion_point.own c.requires.spot.insertion_point.there in
    omega (arith, c.in-None.ensures.none, around.next_starts, c.requires.spot.within, c.len-len.ensures.count, c.if-spot-len.false)

pub returns-in-Some-clause-spot : goal.returns-in-Some-clause-spot
returns-in-Some-clause-spot g c =
    let first = c.in-Some.first in
    subst (λ (n : ℕ). IsPosition c.args.self.now (record { leaf = first.leaf; at = first.at; place = n })) c.in-Some.ensures.front c.in-Some.ensures.spot

pub returns-in-Some-clause-there : goal.returns-in-Some-clause-there
returns-in-Some-clause-there g c =
    let spot = c.args.spot in
    let around = leaf_around g.K.Ord.cmp c.args.self.now c.requires.sound spot.at spot.leaf.now c.requires.spot.insertion_point.own c.requires.spot.insertion_point.there in
    omega (arith, c.in-Some.ensures.there, c.in-Some.ensures.front, around.next_starts, c.requires.spot.within, c.len-len.ensures.count, c.if-spot-len.false)
