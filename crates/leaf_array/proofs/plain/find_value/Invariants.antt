use Rattle.std.proofs.Common.{◌≡◌, drop}
use Rattle.leaf_array.specs.Pairs.{value_of_key}
use Rattle.leaf_array.proofs.plain.find_value.Given as goal

-- the pairs so far don't have the key
abbrev pub invariant-loop-pair : goal.invariant-loop-pair
invariant-loop-pair g l = value_of_key g.K.Ord.cmp l.key (drop l.pair-index l.pairs) ≡ value_of_key g.K.Ord.cmp l.key l.pairs
