use Rattle.leaf_array.proofs.array.Array.above.Goals as goal

pub returns : goal.returns
returns g c = rw (← c.self.view_is) c.above.ensures
