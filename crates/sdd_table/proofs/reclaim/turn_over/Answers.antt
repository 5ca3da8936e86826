use Rattle.sdd_table.proofs.BagInvariantLemmas.{due_waiting}
use Rattle.sdd_table.proofs.RotationLemmas.{turning_start, turning_next}
use Rattle.sdd_table.proofs.reclaim.turn_over.Goals as goal

pub loop-init : goal.loop-init
loop-init g c = turning_start g.T.Holds.holds c.args.p c.args.table.now c.turn.new.self c.turn.ensures c.requires.sound c.requires.participant c.requires.idle

pub reclaim_next-requires-clause-waits : goal.reclaim_next-requires-clause-waits
reclaim_next-requires-clause-waits g c = λ i is e. due_waiting c.loop.table c.args.p i is c.loop.invariant.sound c.loop.invariant.known e

pub loop-smaller : goal.loop-smaller
loop-smaller g c = (turning_next g.T.Holds.holds c.args.p c.turn.new.self c.loop.table c.reclaim_next.new.table c.loop.invariant (c.reclaim_next.ensures.some c.loop-test.true)).0

pub loop-preserved : goal.loop-preserved
loop-preserved g c = (turning_next g.T.Holds.holds c.args.p c.turn.new.self c.loop.table c.reclaim_next.new.table c.loop.invariant (c.reclaim_next.ensures.some c.loop-test.true)).1
