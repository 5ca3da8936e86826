use Rattle.std.proofs.Common.{arith}
use Rattle.leaf_slots.proofs.RankLemmas.{rank_within}
use Rattle.leaf_array.proofs.array.Array.rank_of.Goals as goal

pub narrowed-requires : goal.narrowed-requires
narrowed-requires g c = omega (arith, c.rank_of.ensures, rank_within c.args.slot 0 c.self.inside.slots, c.self.invariant.ranks, c.self.invariant.within)

pub returns-clause-rank : goal.returns-clause-rank
returns-clause-rank g c = rw (← c.self.view_is, c.narrowed.ensures) c.rank_of.ensures

pub returns-clause-within : goal.returns-clause-within
returns-clause-within g c = omega (arith, c.narrowed.ensures, c.rank_of.ensures, rank_within c.args.slot 0 c.self.inside.slots, c.self.invariant.ranks, c.self.invariant.within)
