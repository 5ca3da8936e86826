use Rattle.std.proofs.Common.{sym}
use Rattle.sdd_table.proofs.SweepLemmas.{sweeping_start, sweeping_next}
use Rattle.sdd_table.proofs.reclaim.sweep.Goals as goal

pub loop-table-init : goal.loop-table-init
loop-table-init g c = sweeping_start g.T.Holds.holds c.args.p c.args.table.now c.requires.participant c.requires.place

pub loop-table-smaller : goal.loop-table-smaller
loop-table-smaller g c = (sweeping_next g.T.Holds.holds c.args.p c.args.table.now c.loop-table.table c.turn_over.new.table c.loop-table.invariant c.turn_over.ensures (sym c.loop-table-test.ensures)).0

pub loop-table-preserved : goal.loop-table-preserved
loop-table-preserved g c = (sweeping_next g.T.Holds.holds c.args.p c.args.table.now c.loop-table.table c.turn_over.new.table c.loop-table.invariant c.turn_over.ensures (sym c.loop-table-test.ensures)).1
