use Rattle.std.proofs.Common.{◌≡◌, ◌++◌, drop}
use Rattle.leaf_array.specs.Edits.{below}
use Rattle.leaf_array.proofs.plain.push_below.Given as goal

-- what is copied, and what is yet to be
abbrev pub invariant-loop-pair : goal.invariant-loop-pair
invariant-loop-pair g l = l.out.items ++ below g.K.Ord.cmp l.key (drop l.pair-index l.pairs) ≡ l.fn.out.items ++ below g.K.Ord.cmp l.key l.pairs
