use Rattle.std.proofs.Common.{arith}
use Rattle.leaf_array.proofs.CallLemmas.{slots_taken, slots_passed, takes_first, takes_rest}
use Rattle.leaf_array.proofs.array.Array.visit.Goals as goal
use Rattle.leaf_array.proofs.array.Array.visit.Goals.{then-rank_of-gt0, else-rank_of-gt0}

pub f-requires : goal.f-requires
f-requires g c =
    let e = slots_taken c.args.self.now.labels c.loop-slot.slot c.loop-slot-test.true (rw c.rank_of.ensures.rank at c.if-rank_of-gt0.true) in
    takes_first (λ f slot. goal.F-pre g f slot) (λ f slot h. goal.F-step g f slot tt h) _ _ _ (rw e at c.loop-slot.invariant.again)

pub loop-slot-preserved : goal.loop-slot-preserved
loop-slot-preserved g c =
    elim c.if-rank_of-gt0.branch [
      | then-rank_of-gt0 w ↦ let e = slots_taken c.args.self.now.labels c.loop-slot.slot c.loop-slot-test.true (rw c.rank_of.ensures.rank at w.if-rank_of-gt0.true) in
          record {
            again = rw w.f-is (takes_rest (λ f slot. goal.F-pre g f slot) (λ f slot h. goal.F-step g f slot tt h) _ _ _ _ (rw e at c.loop-slot.invariant.again) w.f.ensures);
            rest = λ q h. c.loop-slot.invariant.rest q (rw e (w.f.new.self, w.f.ensures, rw w.f-is at h));
          }
      | else-rank_of-gt0 w ↦ let e = slots_passed c.args.self.now.labels c.loop-slot.slot c.loop-slot-test.true (omega (arith, c.rank_of.ensures.rank, w.if-rank_of-gt0.false)) in
          record {
            again = rw w.f-is (rw e at c.loop-slot.invariant.again);
            rest = λ q h. c.loop-slot.invariant.rest q (rw e (rw w.f-is at h));
          }
    ]
