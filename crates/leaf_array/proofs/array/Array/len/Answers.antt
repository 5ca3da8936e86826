use Rattle.leaf_array.proofs.RangeLemmas.{length_labels}
use Rattle.leaf_array.proofs.array.Array.len.Goals as goal

pub returns-clause-labels : goal.returns-clause-labels
returns-clause-labels g c = rw (← c.self.view_is) (length_labels 0 c.self.inside.slots)
