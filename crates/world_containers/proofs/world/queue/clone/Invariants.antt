use Rattle.world_containers.proofs.Names.{List, link_cell, Entry, entry_link, IsQueue, oldest_cell, newest_cell}
use Rattle.sdd_world.specs.Frame.{OnlyParticipant}
use Rattle.world_containers.proofs.FromIterLemmas.{BuiltQueue, Copying}
use Rattle.world_containers.proofs.world.queue.clone.Given as goal

abbrev pub invariant-loop-passed : goal.invariant-loop-passed
invariant-loop-passed g l = record {
  copying : (es : List (Entry _)) → IsQueue entry_link l.fn.w (oldest_cell l.queue) (newest_cell l.queue) es → (vs : List _) × Copying l.fn.w es l._passed (link_cell l.at) vs × BuiltQueue l.fn.w l.w (oldest_cell l.copy) (newest_cell l.copy) vs;
  only : OnlyParticipant 0 l.fn.w l.w;
}
