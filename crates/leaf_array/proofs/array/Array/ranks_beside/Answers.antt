use Rattle.std.proofs.Common.{arith}
use Rattle.leaf_array.proofs.WordLemmas.{limit_within}
use Rattle.leaf_array.proofs.array.Array.ranks_beside.Goals as goal

pub overflow_mul-word : goal.overflow_mul-word
overflow_mul-word g c = omega (arith, c.loop-back.invariant.within, limit_within c.loop-back.back 14 (omega (arith, c.loop-back-test.true)))

pub overflow_add-word : goal.overflow_add-word
overflow_add-word g c = omega (arith, c.loop-back.invariant.within, limit_within c.loop-back.back 14 (omega (arith, c.loop-back-test.true)), c.from.ensures, c.rank_beside.ensures.within)
