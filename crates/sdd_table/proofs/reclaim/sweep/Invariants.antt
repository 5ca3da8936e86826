use Rattle.sdd_table.proofs.SweepLemmas.{Sweeping, left}
use Rattle.sdd_table.proofs.reclaim.sweep.Given as goal

abbrev pub invariant-loop-table : goal.invariant-loop-table
invariant-loop-table g l = Sweeping g.T.Holds.holds l.p l.initial.table l.table

abbrev pub decreases-loop-table : goal.decreases-loop-table
decreases-loop-table g l = left l.table l.p
