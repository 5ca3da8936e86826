use Rattle.std.proofs.Common.{◌≤◌, drop, length}
use Rattle.local_versions.specs.Rooms.{RoomsFit, new_sizes}
use Rattle.local_versions.proofs.rooms.rooms_for.Given as goal

-- there is room for the last rows
abbrev pub invariant-loop-left : goal.invariant-loop-left
invariant-loop-left g l = record {
  within : l.left ≤ length l.shelves;
  fits : RoomsFit l.rooms.items (new_sizes (drop l.left l.shelves));
}

abbrev pub decreases-loop-left : goal.decreases-loop-left
decreases-loop-left g l = l.left
