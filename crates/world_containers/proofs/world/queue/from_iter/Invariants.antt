use Rattle.sdd_world.specs.Frame.{OnlyParticipant}
use Rattle.world_containers.proofs.Names.{oldest_cell, newest_cell}
use Rattle.world_containers.proofs.FromIterLemmas.{BuiltQueue}
use Rattle.world_containers.proofs.world.queue.from_iter.Given as goal

abbrev pub invariant-loop-value : goal.invariant-loop-value
invariant-loop-value g l = record {
  built : BuiltQueue l.fn.w l.w (oldest_cell l.queue) (newest_cell l.queue) l.yielded;
  only : OnlyParticipant 0 l.fn.w l.w;
}
