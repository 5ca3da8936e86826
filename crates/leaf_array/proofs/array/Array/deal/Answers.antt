use Rattle.std.proofs.Common.{refl}
use Rattle.leaf_array.specs.Calls.{IsDealt, TakesDealt}
use Rattle.leaf_array.proofs.CallLemmas.{numbered_here, takes_first, takes_rest}
use Rattle.leaf_array.proofs.array.Array.deal.Goals as goal

pub dist-requires : goal.dist-requires
dist-requires g c =
    let e = numbered_here c.args.self.now.pairs c.loop-at.at _ (rw c.in-Some.is at c.pair.ensures) in
    takes_first (TakesDealt g.F.FnMut c.args.boundary) (IsDealt g.F.FnMut c.args.boundary) _ _ _ (rw e at c.loop-at.invariant.again) c.in-Some.key c.in-Some.value refl refl

pub loop-at-preserved : goal.loop-at-preserved
loop-at-preserved g c =
    let e = numbered_here c.args.self.now.pairs c.loop-at.at _ (rw c.in-Some.is at c.pair.ensures) in
    let called : IsDealt g.F.FnMut c.args.boundary c.loop-at.dist (c.loop-at.at, (c.in-Some.key.now, c.in-Some.value.now)) c.dist.new.self = record { key = c.in-Some.key; value = c.in-Some.value; shows = (refl, refl); called = c.dist.ensures } in
    record {
      again = takes_rest (TakesDealt g.F.FnMut c.args.boundary) (IsDealt g.F.FnMut c.args.boundary) _ _ _ _ (rw e at c.loop-at.invariant.again) called;
      rest = λ q h. c.loop-at.invariant.rest q (rw e (c.dist.new.self, called, h));
    }
