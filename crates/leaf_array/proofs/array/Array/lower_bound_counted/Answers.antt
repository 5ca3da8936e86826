use Rattle.std.proofs.Common.{◌∙◌}
use Rattle.leaf_slots.proofs.OrderLemmas.{below_lesser}
use Rattle.leaf_array.proofs.PackLemmas.{least_at}
use Rattle.leaf_array.proofs.array.Array.lower_bound_counted.Goals as goal

pub returns-clause-place : goal.returns-clause-place
returns-clause-place g c = rw (← c.self.view_is) (c.lower.ensures.place ∙ below_lesser g.K.Ord.cmp c.args.key.now c.self.inside.slots)

pub returns-clause-pair : goal.returns-clause-pair
returns-clause-pair g c = rw (← c.self.view_is, ← least_at g.K.Ord.cmp c.args.key.now c.self.inside.slots) c.lower.ensures.pair
