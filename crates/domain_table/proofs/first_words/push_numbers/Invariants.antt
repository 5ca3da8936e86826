use Rattle.std.proofs.Common.{◌≡◌, ◌++◌}
use Rattle.domain_table.specs.Rule.{numbers}
use Rattle.domain_table.proofs.first_words.push_numbers.Given as goal

abbrev pub invariant-loop-number : goal.invariant-loop-number
invariant-loop-number l = record { filled : l.words.items ≡ l.fn.words.items ++ numbers l.number }
