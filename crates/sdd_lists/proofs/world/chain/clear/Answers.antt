use Rattle.std.proofs.Common.{refl, ◌∙◌, arith}
use Rattle.sdd_lists.proofs.ChainLemmas.{stays_then, stays_refl}
use Rattle.sdd_lists.proofs.ReleaseLemmas.{cut_start, cut_next, cleared_all, drop_hangs}
use Rattle.sdd_lists.proofs.world.chain.clear.Goals as goal

pub loop-passed-init : goal.loop-passed-init
loop-passed-init g c = record { participant = c.requires.participant; hangs = c.requires.list; cut = λ t es h. cut_start g.L.LinkedList.link _ _ t es h; only = λ k ne. refl; stays = stays_refl _ }

pub loop-passed-preserved : goal.loop-passed-preserved
loop-passed-preserved g c =
    let v = c.loop-passed.invariant in
    let b = c.in-Some.ensures.some in
    record {
      participant = let m = c.drop_first.ensures.stays.participants in omega (arith, m, v.participant);
      hangs = drop_hangs g.L.LinkedList.link _ _ _ _ _ _ v.hangs (b v.hangs.tag v.hangs.entries v.hangs.is) c.drop_first.ensures.dropped;
      cut = λ t es h. let k = v.cut t es h in cut_next g.L.LinkedList.link _ _ _ _ _ _ t _ _ es k (b t k.rest k.hung) c.drop_first.ensures.dropped;
      only = λ k ne. c.drop_first.ensures.only k ne ∙ v.only k ne;
      stays = stays_then _ _ _ v.stays c.drop_first.ensures.stays;
    }

pub returns-clause-cleared : goal.returns-clause-cleared
returns-clause-cleared g c = λ t es h. cleared_all g.L.LinkedList.link _ _ _ _ t es h (omega (arith, c.loop-passed-test.false, c.slots_in_use-passed-end.ensures)) (c.loop-passed.invariant.cut t es h)
