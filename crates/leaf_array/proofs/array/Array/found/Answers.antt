use Rattle.std.proofs.Common.{sym, ◌∙◌, arith}
use Rattle.leaf_slots.proofs.SearchLemmas.{missed}
use Rattle.leaf_slots.proofs.FoundLemmas.{found_some, found_none, missed_all}
use Rattle.leaf_array.proofs.array.Array.found.Goals as goal

pub returns-in-Equal : goal.returns-in-Equal
returns-in-Equal g c =
    let found = rw c.in-Some.is at c.lower-at.ensures.pair in
    let f = found_some g.K.Ord.cmp g.met.K.Ord.total c.args.key.now c.self.inside.slots c.in-Some.stored.now c.in-Some.value.now found (sym c.compare.ensures.order ∙ c.in-Equal.is) in
    record {
      cost = omega (arith, c.lower-at.ensures.cost, c.compare.ensures);
      raised = omega (arith, c.lower-at.ensures.raised, c.compare.ensures);
      place = rw (← c.self.view_is) (c.lower-at.ensures.place ∙ f.0);
      within = rw (← c.self.view_is) (omega (arith, c.lower-at.ensures.place, f.1));
      pair = rw (← c.self.view_is) f.2;
    }

pub returns-in_default-clause-pair : goal.returns-in_default-clause-pair
returns-in_default-clause-pair g c =
    let found = rw c.in-Some.is at c.lower-at.ensures.pair in
    let other = missed g.K.Ord.cmp c.args.key.now c.self.inside.slots c.in-Some.stored.now c.in-Some.value.now found (λ e. c.in_default.not-Equal (c.compare.ensures.order ∙ e)) in
    rw (← c.self.view_is) (found_none g.K.Ord.cmp g.met.K.Ord.total c.args.key.now c.self.inside.slots c.self.invariant.sorted other)

pub returns-in-None-clause-pair : goal.returns-in-None-clause-pair
returns-in-None-clause-pair g c =
    let ended = rw c.in-None.is at c.lower-at.ensures.pair in
    rw (← c.self.view_is) (found_none g.K.Ord.cmp g.met.K.Ord.total c.args.key.now c.self.inside.slots c.self.invariant.sorted (missed_all g.K.Ord.cmp g.met.K.Ord.total c.args.key.now c.self.inside.slots ended))
