use Rattle.shared_containers.proofs.TakenLemmas.{taken_behind}
use Rattle.shared_containers.proofs.bag.Bag.pop_primary.Goals as goal

pub returns-in-Some-take_from-clause-taken : goal.returns-in-Some-take_from-clause-taken
returns-in-Some-take_from-clause-taken g c = let cell = c.in-Some.cell.now.cell in
    (c.loop-i.i, cell, c.in-Some.ensures.at, taken_behind c.args.local.now c.loop-i.local c.take_from.new.local c.loop-i.invariant.same.0.0 c.loop-i.invariant.some cell c.in-Some-take_from.owner c.in-Some-take_from.ensures.taken)
