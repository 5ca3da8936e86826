use Rattle.std.proofs.Common.{refl, ◌∙◌, arith, subst, Bool}
use Rattle.sdd_world.specs.Tokens.{shared_cell}
use Rattle.sdd_lists.specs.Chain.{BeginsWithItem}
use Rattle.sdd_lists.proofs.ChainLemmas.{stays_then, stays_refl}
use Rattle.sdd_lists.proofs.ReleaseLemmas.{drop_start, drop_next, drop_all, drop_hangs}
use Rattle.sdd_lists.proofs.world.chain.skip_deleted.Goals as goal

pub loop-passed-preserved : goal.loop-passed-preserved
loop-passed-preserved g c =
    let v = c.loop-passed.invariant in
    let b = c.in-Some.ensures.some in
    let f = c.in-Some.front in
    record {
      participant = let m = c.drop_first.ensures.stays.participants in omega (arith, m, v.participant);
      hangs = drop_hangs g.L.LinkedList.link _ _ _ _ _ _ v.hangs (b v.hangs.tag v.hangs.entries v.hangs.is) c.drop_first.ensures.dropped;
      dropped = λ t es h.
          let k = v.dropped t es h in
          let begins = subst (λ (gone : Bool). BeginsWithItem k.cut.rest f.item.now (shared_cell f.link.now) gone) c.if-not-front.false (b t k.cut.rest k.cut.hung) in
          drop_next g.L.LinkedList.link _ _ _ _ _ _ t _ es k begins c.drop_first.ensures.dropped;
      only = λ k ne. c.drop_first.ensures.only k ne ∙ v.only k ne;
      stays = stays_then _ _ _ v.stays c.drop_first.ensures.stays;
    }

pub returns-clause-skipped : goal.returns-clause-skipped
returns-clause-skipped g c = λ t es h. (drop_all g.L.LinkedList.link _ _ _ _ t es h (omega (arith, c.loop-passed-test.false, c.slots_in_use-passed-end.ensures)) (c.loop-passed.invariant.dropped t es h)).hung

pub loop-passed-init : goal.loop-passed-init
loop-passed-init g c = record { participant = c.requires.participant; hangs = c.requires.list; dropped = λ t es h. drop_start g.L.LinkedList.link _ _ t es h; only = λ k ne. refl; stays = stays_refl _ }

pub returns-clause-same : goal.returns-clause-same
returns-clause-same g c = λ t es h. (drop_all g.L.LinkedList.link _ _ _ _ t es h (omega (arith, c.loop-passed-test.false, c.slots_in_use-passed-end.ensures)) (c.loop-passed.invariant.dropped t es h)).same
