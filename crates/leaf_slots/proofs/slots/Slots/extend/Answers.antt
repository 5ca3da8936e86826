use Rattle.std.proofs.Common.{◌≡◌, ◌+◌, drop, refl, sym, subst, arith}
use Rattle.leaf_slots.specs.Places.{IsEmptied}
use Rattle.leaf_slots.proofs.slots.Slots.extend.Goals as goal

pub extend-requires-clause-empty : goal.extend-requires-clause-empty
extend-requires-clause-empty g c = subst (λ ps. IsEmptied (drop c.args.at ps)) (sym c.self.view_is) c.requires.empty

pub returns-then-from-at-clause-count : goal.returns-then-from-at-clause-count
returns-then-from-at-clause-count g c = refl

pub returns-else-from-at-clause-count : goal.returns-else-from-at-clause-count
returns-else-from-at-clause-count g c = refl

pub returns-then-from-at-clause-places : goal.returns-then-from-at-clause-places
returns-then-from-at-clause-places g c = let same : 0 + c.args.at ≡ c.args.at = omega arith in rw (c.if-from-at.true, ← c.self.view_is, ← c.source.view_is) (rw same at c.extend_aligned.ensures.places)

pub returns-else-from-at-clause-places : goal.returns-else-from-at-clause-places
returns-else-from-at-clause-places g c = let same : 0 + c.args.at ≡ c.args.at = omega arith in rw (← c.self.view_is) (rw same at c.extend.ensures.places)
