use Rattle.world_containers.proofs.Names.{◌≡◌, List, link_cell, Entry, IsStack, stack_cell}
use Rattle.world_containers.proofs.FromIterLemmas.{GrownStack, Copying}
use Rattle.world_containers.proofs.world.stack.clone.Given as goal

abbrev pub invariant-loop-passed : goal.invariant-loop-passed
invariant-loop-passed g l = record {
  copying : (es : List (Entry _)) → IsStack l.fn.w (stack_cell l.stack) es → (vs : List _) × Copying l.fn.w es l._passed (link_cell l.at) vs × GrownStack l.fn.w l.w (stack_cell l.copy) (link_cell l.end) vs;
  participants : l.w.participants ≡ l.fn.w.participants;
}
