use Rattle.std.proofs.Common.{arith, ◌+◌, ◌<◌, sym, subst}
use Rattle.leaf_slots.specs.Places.{top}
use Rattle.leaf_slots.proofs.slots.Slots.rank_beside.Goals as goal

pub rank_beside-requires : goal.rank_beside-requires
rank_beside-requires g c = subst (λ ps. 0 + top ps < 15) (sym c.self.view_is) (omega (arith, c.requires))

pub returns : goal.returns
returns g c = rw (← c.self.view_is) c.rank_beside.ensures
