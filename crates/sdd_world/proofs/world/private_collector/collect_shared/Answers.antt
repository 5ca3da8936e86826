use Rattle.std.proofs.Common.{◌<◌, length}
use Rattle.sdd_world.specs.Tokens.{guard_participant, waiting_in}
use Rattle.sdd_world.proofs.FrameLemmas.{Keeps}
use Rattle.sdd_world.proofs.PrivateCollectorLemmas.{Clears, cleared, collects, sets_shared_left}
use Rattle.sdd_world.proofs.world.private_collector.collect_shared.Goals as goal

-- what waits since three raises is reclaimed, and the item is still there
swept : (g : _) (c : goal.After-leave_shared-arg-2-1 g) → Clears (guard_participant c.args.guard.now) c.w.inside.table c.purge.new.table × (c.spend_shared-slot.result < length c.purge.new.table.states)
swept g c = cleared g.T.Holds.holds _ c.spend_shared-slot.result _ (waiting_in c.args.collector.now) _ _ _ c.w.view_is c.w.invariant c.requires.participant c.spend_shared-slot.ensures c.requires.live.inside c.purge.ensures.state

-- and then it is left
left : (g : _) (c : goal.After-leave_shared g) → Keeps (guard_participant c.args.guard.now) c.args.w.now c.leave_shared.new.table
left g c =
    let v = cleared g.T.Holds.holds _ c.spend_shared-slot.result _ (waiting_in c.args.collector.now) _ _ _ c.w.view_is c.w.invariant c.requires.participant c.spend_shared-slot.ensures c.requires.live.inside c.purge.ensures.state in
    collects _ _ _ _ _ _ c.w.view_is v.0 (sets_shared_left c.leave_shared.result _ _ c.spend_shared-slot.result c.purge.new.waiting.items c.purge.new.table c.leave_shared.new.table v.0.place v.0.known v.1 c.leave_shared.ensures.shared c.leave_shared.ensures.apart c.leave_shared.ensures.given)

pub invariant_of-w : goal.invariant_of-w
invariant_of-w g c = (left g c).place

pub returns-clause-keeps : goal.returns-clause-keeps
returns-clause-keeps g c = (left g c).frame

pub returns-clause-only : goal.returns-clause-only
returns-clause-only g c = (left g c).only

pub returns-clause-nests : goal.returns-clause-nests
returns-clause-nests g c = (left g c).nests

pub leave_shared-requires-clause-participant : goal.leave_shared-requires-clause-participant
leave_shared-requires-clause-participant g c = (swept g c).0.known

pub leave_shared-requires-clause-slot : goal.leave_shared-requires-clause-slot
leave_shared-requires-clause-slot g c = (swept g c).1
