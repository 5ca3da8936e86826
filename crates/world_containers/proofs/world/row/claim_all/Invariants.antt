use Rattle.world_containers.proofs.Names.{◌≡◌, ◌≤◌, length, map, shared_cell, Stays, IsClaimed}
use Rattle.std.specs.Vec.{vec_capacity}
use Rattle.world_containers.proofs.world.row.claim_all.Given as goal

abbrev pub invariant-loop-made : goal.invariant-loop-made
invariant-loop-made g l = record {
  claimed : IsClaimed l.initial.w (map shared_cell l.cells.items) l.w;
  number : length l.cells.items ≡ l._made;
  room : l.number ≤ vec_capacity l.cells;
  participants : l.w.participants ≡ l.initial.w.participants;
  stays : Stays l.initial.w l.w;
}
