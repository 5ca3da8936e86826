use Rattle.sdd_table.proofs.SweepLemmas.{SweepingAll}
use Rattle.sdd_table.proofs.reclaim.sweep_all.Given as goal

abbrev pub invariant-loop-p : goal.invariant-loop-p
invariant-loop-p g l = SweepingAll g.T.Holds.holds l.p l.initial.table l.table
