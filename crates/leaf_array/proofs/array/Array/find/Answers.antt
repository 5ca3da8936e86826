use Rattle.leaf_array.proofs.array.Array.find.Goals as goal

pub returns-clause-hit : goal.returns-clause-hit
returns-clause-hit g c = rw (← c.self.view_is) c.find.ensures.hit

pub returns-clause-miss : goal.returns-clause-miss
returns-clause-miss g c = rw (← c.self.view_is) c.find.ensures.miss
