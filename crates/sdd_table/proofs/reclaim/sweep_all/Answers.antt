use Rattle.sdd_table.proofs.SweepLemmas.{sweeping_all_start, sweeping_all_next}
use Rattle.sdd_table.proofs.reclaim.sweep_all.Goals as goal

pub loop-p-init : goal.loop-p-init
loop-p-init g c = sweeping_all_start g.T.Holds.holds c.args.table.now c.requires

pub loop-p-preserved : goal.loop-p-preserved
loop-p-preserved g c = sweeping_all_next g.T.Holds.holds c.loop-p.p c.args.table.now c.loop-p.table c.sweep.new.table c.loop-p.invariant c.sweep.ensures.place c.sweep.ensures.swept c.sweep.ensures.known c.sweep.ensures.only
