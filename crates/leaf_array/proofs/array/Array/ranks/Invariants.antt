use Rattle.std.proofs.Common.{◌≡◌, ◌-◌, ◌<◌}
use Rattle.leaf_array.specs.Words.{ranks_from}
use Rattle.leaf_array.proofs.WordLemmas.{limit}
use Rattle.leaf_array.proofs.array.Array.ranks.Given as goal

abbrev pub invariant-loop-back : goal.invariant-loop-back
invariant-loop-back g l = record {
  word : l.word ≡ ranks_from (15 - l.back) l.back l.self.labels;
  within : l.word < limit l.back;
}
