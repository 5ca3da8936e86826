use Rattle.std.proofs.Common.{◌≡◌, ◌++◌}
use Rattle.domain_table.specs.Rule.{first_eights}
use Rattle.domain_table.proofs.first_words.push_participants.Given as goal

abbrev pub invariant-loop-number : goal.invariant-loop-number
invariant-loop-number l = record { filled : l.words.items ≡ l.fn.words.items ++ first_eights l.cells l.number }
