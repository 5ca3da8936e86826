use Rattle.std.proofs.Common.{arith}
use Rattle.sdd_lists.proofs.WalkLemmas.{skip_all}
use Rattle.sdd_lists.proofs.world.chain.skip_from.Goals as goal

pub returns : goal.returns
returns g c = λ t es h. skip_all g.L.LinkedList.link _ es _ _ _ t h (omega (arith, c.loop-passed-test.false, c.slots_in_use-passed-end.ensures)) (c.loop-passed.invariant.skipped t es h)
