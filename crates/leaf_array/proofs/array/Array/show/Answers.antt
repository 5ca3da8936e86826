use Rattle.std.proofs.Common.{Ok, refl, inl, inr}
use Rattle.leaf_array.specs.Calls.{IsShown, TakesShown}
use Rattle.leaf_array.proofs.CallLemmas.{order_more, shown_at, takes_at, takes_first, takes_rest}
use Rattle.leaf_array.proofs.array.Array.show.Goals as goal

pub f-requires : goal.f-requires
f-requires g c =
    let all = order_more c.loop-place.place c.args.self.now.used (rw c.used.ensures.count at c.loop-place-test.true) in
    takes_at g.F.FnMut c.args.self.now c.loop-place.f c.slot_of-slot.result c.rank_of-rank.result c.loop-place.place c.in-Some.pair c.slot_of-slot.ensures.slot c.rank_of-rank.ensures.rank (rw c.in-Some.is at c.entry.ensures.pair)
    (takes_first (TakesShown g.F.FnMut c.args.self.now) (λ f slot h. IsShown g.F.FnMut c.args.self.now f slot (Ok tt) h) _ _ _ (rw all at c.loop-place.invariant.again))

pub returns-in-Err : goal.returns-in-Err
returns-in-Err g c =
    let shown = shown_at g.F.FnMut c.args.self.now c.loop-place.f c.slot_of-slot.result c.rank_of-rank.result c.loop-place.place c.in-Some.pair c.f.result c.f.new.self
    c.slot_of-slot.ensures.slot c.rank_of-rank.ensures.rank (rw c.in-Some.is at c.entry.ensures.pair) c.f.ensures in
    let all = order_more c.loop-place.place c.args.self.now.used (rw c.used.ensures.count at c.loop-place-test.true) in
    (c.f.new.self, c.loop-place.invariant.rest _ c.f.new.self (rw all (inr (c.in-Err.error, refl, rw c.in-Err.is at shown))))

pub loop-place-preserved : goal.loop-place-preserved
loop-place-preserved g c =
    let shown = shown_at g.F.FnMut c.args.self.now c.loop-place.f c.slot_of-slot.result c.rank_of-rank.result c.loop-place.place c.in-Some.pair c.f.result c.f.new.self
    c.slot_of-slot.ensures.slot c.rank_of-rank.ensures.rank (rw c.in-Some.is at c.entry.ensures.pair) c.f.ensures in
    let all = order_more c.loop-place.place c.args.self.now.used (rw c.used.ensures.count at c.loop-place-test.true) in
    record {
      again = takes_rest (TakesShown g.F.FnMut c.args.self.now) (λ f slot h. IsShown g.F.FnMut c.args.self.now f slot (Ok tt) h) _ _ _ _ (rw all at c.loop-place.invariant.again) (rw c.in-Ok.is at shown);
      rest = λ r q h. c.loop-place.invariant.rest r q (rw all (inl (c.f.new.self, rw c.in-Ok.is at shown, h)));
    }
