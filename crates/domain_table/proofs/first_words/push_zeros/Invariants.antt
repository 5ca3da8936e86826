use Rattle.std.proofs.Common.{◌≡◌, ◌++◌, zero, replicate}
use Rattle.domain_table.proofs.first_words.push_zeros.Given as goal

abbrev pub invariant-loop-i : goal.invariant-loop-i
invariant-loop-i l = record { filled : l.words.items ≡ l.fn.words.items ++ replicate l._i zero }
