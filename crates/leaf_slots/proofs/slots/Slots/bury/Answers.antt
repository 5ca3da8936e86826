use Rattle.std.proofs.Common.{◌≤◌, drop, refl, sym, subst}
use Rattle.leaf_slots.specs.Places.{top}
use Rattle.leaf_slots.proofs.slots.Slots.bury.Goals as goal

pub bury-requires-clause-rank : goal.bury-requires-clause-rank
bury-requires-clause-rank g c = subst (λ ps. top (drop c.args.at ps) ≤ 15) (sym c.self.view_is) c.requires.rank

pub bury-requires-clause-place : goal.bury-requires-clause-place
bury-requires-clause-place g c = c.requires.place

pub returns-clause-count : goal.returns-clause-count
returns-clause-count g c = refl

pub returns-clause-places : goal.returns-clause-places
returns-clause-places g c = rw (← c.self.view_is) c.bury.ensures
