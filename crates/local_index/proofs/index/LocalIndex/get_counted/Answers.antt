use Rattle.std.proofs.Common.{ap, ◌∙◌, arith}
use Rattle.leaf_array.specs.Pairs.{value_of_key}
use Rattle.local_index.proofs.index.LocalIndex.get_counted.Goals as goal

pub returns-clause-value : goal.returns-clause-value
returns-clause-value g c = c.value_in_counted.ensures.value ∙ ap (value_of_key g.K.Ord.cmp c.args.key.now) c.list_of.ensures.list

pub returns-clause-cost : goal.returns-clause-cost
returns-clause-cost g c = λ digits fits. c.value_in_counted.ensures.cost digits (omega (arith, c.list_of.ensures.few, fits))

pub returns-clause-none : goal.returns-clause-none
returns-clause-none g c = λ none. c.value_in_counted.ensures.none (c.list_of.ensures.list ∙ none)
