use Rattle.world_containers.proofs.Names.{List, ◌<◌, ◌≤◌, length, map, shared_cell, Entry, Stays, IsRow}
use Rattle.sdd_world.specs.Frame.{OnlyParticipant}
use Rattle.world_containers.proofs.RowLemmas.{Emptied}
use Rattle.world_containers.proofs.world.row.clear_all.Given as goal

abbrev pub invariant-loop-at : goal.invariant-loop-at
invariant-loop-at g l = record {
  participant : l.p < length l.w.participants;
  emptied : (rows : List (List (Entry _))) → length l.cells.items ≤ length rows → IsRow g.L.LinkedList.link l.initial.w (map shared_cell l.cells.items) rows → Emptied g.L.LinkedList.link l.initial.w l.w (map shared_cell l.cells.items) rows l.at;
  only : OnlyParticipant l.p l.initial.w l.w;
  stays : Stays l.initial.w l.w;
}
