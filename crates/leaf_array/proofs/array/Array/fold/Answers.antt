use Rattle.std.proofs.Common.{refl}
use Rattle.leaf_array.specs.Calls.{IsFolded, TakesFolded}
use Rattle.leaf_array.proofs.CallLemmas.{drop_here, takes_first, takes_rest}
use Rattle.leaf_array.proofs.array.Array.fold.Goals as goal

pub f-made-requires : goal.f-made-requires
f-made-requires g c =
    let e = drop_here c.args.self.now.pairs c.loop-at.at _ (rw c.in-Some.is at c.pair.ensures) in
    takes_first (TakesFolded g.F.FnMut) (IsFolded g.F.FnMut) _ _ _ (rw e at c.loop-at.invariant.again) c.in-Some.key c.in-Some.value refl refl

pub loop-at-preserved : goal.loop-at-preserved
loop-at-preserved g c =
    let e = drop_here c.args.self.now.pairs c.loop-at.at _ (rw c.in-Some.is at c.pair.ensures) in
    let called : IsFolded g.F.FnMut (c.loop-at.f, c.loop-at.made) (c.in-Some.key.now, c.in-Some.value.now) (c.f-made.new.self, c.f-made.result) = record { key = c.in-Some.key; value = c.in-Some.value; shows = (refl, refl); called = c.f-made.ensures } in
    record {
      again = takes_rest (TakesFolded g.F.FnMut) (IsFolded g.F.FnMut) _ _ _ _ (rw e at c.loop-at.invariant.again) called;
      rest = λ q h. c.loop-at.invariant.rest q (rw e ((c.f-made.new.self, c.f-made.result), called, h));
    }
