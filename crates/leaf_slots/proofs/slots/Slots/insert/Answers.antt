use Rattle.std.proofs.Common.{drop, IsTrue, refl, sym, subst}
use Rattle.leaf_slots.specs.Places.{has_room}
use Rattle.leaf_slots.proofs.slots.Slots.insert.Goals as goal

pub insert-requires : goal.insert-requires
insert-requires g c = subst (λ ps. IsTrue (has_room (drop c.args.at ps))) (sym c.self.view_is) c.requires

pub returns-clause-count : goal.returns-clause-count
returns-clause-count g c = refl

pub returns-clause-places : goal.returns-clause-places
returns-clause-places g c = rw (← c.self.view_is) c.insert.ensures
