use Rattle.std.proofs.Common.{◌<◌, ◌≤◌, arith, length}
use Rattle.sdd_table.specs.State.{participant_at}
use Rattle.sdd_table.specs.Tokens.{hold_of}
use Rattle.sdd_table.proofs.DropLemmas.{undoing_start, undoing_next, undoing_end}
use Rattle.sdd_table.proofs.reclaim.drop_now.Goals as goal

pub loop-init : goal.loop-init
loop-init g c = undoing_start g.T.Holds.holds 0 (hold_of c.args.held) c.args.table.now c.give.new.table c.give.ensures c.requires.sound c.requires.some (c.requires.idle 0)

pub loop-smaller : goal.loop-smaller
loop-smaller g c =
    let longer : length (participant_at c.args.table.now 0).current < length (participant_at c.loop.table 0).current = omega (arith, c.reclaim_last.ensures.more c.loop-test.true, c.newest-kept.ensures) in
    (undoing_next g.T.Holds.holds 0 (hold_of c.args.held) c.args.table.now c.loop.table c.reclaim_last.new.table c.loop.invariant longer (c.reclaim_last.ensures.some c.loop-test.true)).0

pub loop-preserved : goal.loop-preserved
loop-preserved g c =
    let longer : length (participant_at c.args.table.now 0).current < length (participant_at c.loop.table 0).current = omega (arith, c.reclaim_last.ensures.more c.loop-test.true, c.newest-kept.ensures) in
    (undoing_next g.T.Holds.holds 0 (hold_of c.args.held) c.args.table.now c.loop.table c.reclaim_last.new.table c.loop.invariant longer (c.reclaim_last.ensures.some c.loop-test.true)).1

pub returns : goal.returns
returns g c =
    let short : length (participant_at c.loop.table 0).current ≤ length (participant_at c.args.table.now 0).current = omega (arith, c.reclaim_last.ensures.last c.loop-test.false, c.newest-kept.ensures) in
    let e = undoing_end g.T.Holds.holds (hold_of c.args.held) c.args.table.now c.loop.table c.reclaim_last.new.table c.set_local.new.self c.local-local.result c.requires c.loop.invariant short (c.reclaim_last.ensures.none c.loop-test.false) c.local-local.ensures c.set_local.ensures in
    record { dropped = e.dropped; place = e.place }
