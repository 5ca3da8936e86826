use Rattle.leaf_array.proofs.array.Array.min_greater_equal_counted.Goals as goal

pub returns-in-Some-clause-value : goal.returns-in-Some-clause-value
returns-in-Some-clause-value g c = (c.in-Some.field-0-0.now, rw c.in-Some.is at c.lower_bound_counted.ensures.pair)
