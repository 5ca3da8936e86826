use Rattle.leaf_array.proofs.EntryLemmas.{has_lookup, value_lookup}
use Rattle.leaf_array.proofs.laws.finding_is_looking_up.Goals as goal

pub returns-clause-has : goal.returns-clause-has
returns-clause-has g c = has_lookup g.K.Ord.cmp

pub returns-clause-value : goal.returns-clause-value
returns-clause-value g c = value_lookup g.K.Ord.cmp
