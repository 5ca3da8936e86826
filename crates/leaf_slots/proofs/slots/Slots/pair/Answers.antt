use Rattle.leaf_slots.proofs.slots.Slots.pair.Goals as goal

pub returns : goal.returns
returns g c = rw (← c.self.view_is) c.pair.ensures
