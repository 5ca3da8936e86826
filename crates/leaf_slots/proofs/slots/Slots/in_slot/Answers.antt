use Rattle.leaf_slots.proofs.slots.Slots.in_slot.Goals as goal

pub returns : goal.returns
returns g c = rw (← c.self.view_is) c.in_slot.ensures
