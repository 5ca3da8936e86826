use Rattle.std.proofs.Common.{◌≡◌, ◌++◌, ◌≤◌, replicate, vec_capacity}
use Rattle.domain_table.specs.declared.board.Home.TheVariants.{Blank}
use Rattle.domain_table.proofs.homes.push_blanks.Given as goal

abbrev pub invariant-loop-i : goal.invariant-loop-i
invariant-loop-i g l = record { filled : l.homes.items ≡ l.fn.homes.items ++ replicate l._i Blank; room : vec_capacity l.fn.homes ≤ vec_capacity l.homes }
