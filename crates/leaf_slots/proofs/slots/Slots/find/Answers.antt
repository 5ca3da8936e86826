use Rattle.std.proofs.Common.{sym, ◌∙◌}
use Rattle.leaf_slots.proofs.SearchLemmas.{missed}
use Rattle.leaf_slots.proofs.OrderLemmas.{below_lesser}
use Rattle.leaf_slots.proofs.FoundLemmas.{has_from, missing_from, missed_all}
use Rattle.leaf_slots.proofs.slots.Slots.find.Goals as goal

pub returns-in-Equal-clause-hit : goal.returns-in-Equal-clause-hit
returns-in-Equal-clause-hit g c =
    let found = rw c.in-Some.is at c.lower-at.ensures.pair in
    let same = sym c.compare.ensures.order ∙ c.in-Equal.is in (
      c.lower-at.ensures.place ∙ below_lesser g.K.Ord.cmp c.args.key.now c.args.self.now,
      has_from g.K.Ord.cmp g.met.K.Ord.total c.args.key.now c.args.self.now ((c.in-Some.stored.now, c.in-Some.field-0-1.now), found, same),
    )

pub returns-in_default-clause-miss : goal.returns-in_default-clause-miss
returns-in_default-clause-miss g c =
    let found = rw c.in-Some.is at c.lower-at.ensures.pair in
    let other = missed g.K.Ord.cmp c.args.key.now c.args.self.now c.in-Some.stored.now c.in-Some.field-0-1.now found (λ e. c.in_default.not-Equal (c.compare.ensures.order ∙ e)) in (
      c.lower-at.ensures.place ∙ below_lesser g.K.Ord.cmp c.args.key.now c.args.self.now,
      missing_from g.K.Ord.cmp g.met.K.Ord.total c.args.key.now c.args.self.now c.requires.sorted other,
    )

pub returns-in-None-clause-miss : goal.returns-in-None-clause-miss
returns-in-None-clause-miss g c =
    let ended = rw c.in-None.is at c.lower-at.ensures.pair in (
      c.lower-at.ensures.place ∙ below_lesser g.K.Ord.cmp c.args.key.now c.args.self.now,
      missing_from g.K.Ord.cmp g.met.K.Ord.total c.args.key.now c.args.self.now c.requires.sorted (missed_all g.K.Ord.cmp g.met.K.Ord.total c.args.key.now c.args.self.now ended),
    )
