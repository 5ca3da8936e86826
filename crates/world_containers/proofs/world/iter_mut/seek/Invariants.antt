use Rattle.world_containers.proofs.Names.{List, ◌∷◌, drop, map, link_cell, shared_cell, Entry, IsLeft}
use Rattle.world_containers.proofs.world.iter_mut.seek.Given as goal

abbrev pub invariant-loop-next : goal.invariant-loop-next
invariant-loop-next g l = record {
  left : (es : List (Entry _)) → IsLeft l.w (link_cell l.fn.from ∷ drop l.fn.row (map shared_cell l.cells.items)) es → IsLeft l.w (link_cell l.at ∷ drop l.next (map shared_cell l.cells.items)) es;
}
