use Rattle.std.specs.List.{sum_by}
use Rattle.sdd_table.specs.State.{occupied}
use Rattle.sdd_table.specs.Tokens.{hold_of}
use Rattle.sdd_table.proofs.DropLemmas.{Undoing}
use Rattle.sdd_table.proofs.reclaim.drop_now.Given as goal

abbrev pub invariant-loop : goal.invariant-loop
invariant-loop g l = Undoing (g.T.Holds.holds) 0 (hold_of l.fn.held) l.fn.table l.table

abbrev pub decreases-loop : goal.decreases-loop
decreases-loop g l = sum_by occupied l.table.states
