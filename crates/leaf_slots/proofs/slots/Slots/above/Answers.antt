use Rattle.std.proofs.Common.{arith, ◌+◌, ◌≤◌, sym, subst}
use Rattle.leaf_slots.specs.Places.{top}
use Rattle.leaf_slots.proofs.slots.Slots.above.Goals as goal

pub above-requires : goal.above-requires
above-requires g c = subst (λ ps. 0 + top ps ≤ 15) (sym c.self.view_is) (omega (arith, c.requires))

pub returns : goal.returns
returns g c = rw (← c.self.view_is) c.above.ensures
