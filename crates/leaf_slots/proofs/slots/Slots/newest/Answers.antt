use Rattle.leaf_slots.proofs.slots.Slots.newest.Goals as goal

pub returns : goal.returns
returns g c = rw (← c.self.view_is) c.newest.ensures
