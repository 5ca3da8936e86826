use Rattle.std.proofs.Common.{◌≡◌, vec_len}
use Rattle.domain_table.proofs.first_words.free_cells.Given as goal

abbrev pub invariant-loop-i : goal.invariant-loop-i
invariant-loop-i l = record { many : vec_len l.taken ≡ l._i }
