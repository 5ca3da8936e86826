use Rattle.world_containers.proofs.Names.{◌≡◌, ◌+◌, List, length, map, drop, in_use, shared_cell, Entry, undeleted, IsRow, joined}
use Rattle.world_containers.proofs.world.row.count_all.Given as goal

abbrev pub invariant-loop-at : goal.invariant-loop-at
invariant-loop-at g l = record {
  counted : (rows : List (List (Entry _))) → length rows ≡ length l.cells.items → IsRow g.L.LinkedList.link l.w (map shared_cell l.cells.items) rows → l.total + length (undeleted (joined (drop l.at rows))) ≡ length (undeleted (joined rows));
  most : l.most ≡ in_use l.w;
}
