use Rattle.world_containers.proofs.Names.{◌≡◌, map, shared_cell, Stays, AreEmpty, freed}
use Rattle.world_containers.proofs.world.row.end_all.Given as goal

abbrev pub invariant-loop-cell : goal.invariant-loop-cell
invariant-loop-cell g l = record {
  empty : AreEmpty l.w (map shared_cell l.cells.items);
  left : freed (map shared_cell l.cells.items) l.w ≡ freed (map shared_cell l.initial.cells.items) l.initial.w;
  participants : l.w.participants ≡ l.initial.w.participants;
  stays : Stays l.initial.w l.w;
}

abbrev pub decreases-loop-cell : goal.decreases-loop-cell
decreases-loop-cell g l = goal.left-loop-cell g l
