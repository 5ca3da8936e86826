use Rattle.std.proofs.Common.{arith, ◌<◌}
use Rattle.leaf_slots.proofs.RankLemmas.{beside_within}
use Rattle.leaf_array.proofs.array.Array.rank_beside.Goals as goal

pub narrowed-requires : goal.narrowed-requires
narrowed-requires g c =
    let room : c.self.inside.used < 15 = rw (← c.self.view_is) at c.requires in
    omega (arith, c.rank_beside.ensures, beside_within c.args.slot c.slot_of.result 0 c.args.at c.self.inside.slots, c.self.invariant.ranks, room)

pub returns-clause-rank : goal.returns-clause-rank
returns-clause-rank g c = rw (← c.self.view_is, ← c.slot_of.ensures.slot, c.narrowed.ensures) c.rank_beside.ensures

pub returns-clause-within : goal.returns-clause-within
returns-clause-within g c =
    let room : c.self.inside.used < 15 = rw (← c.self.view_is) at c.requires in
    omega (arith, c.narrowed.ensures, c.rank_beside.ensures, beside_within c.args.slot c.slot_of.result 0 c.args.at c.self.inside.slots, c.self.invariant.ranks, room)
