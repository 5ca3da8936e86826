use Rattle.std.proofs.Common.{length}
use Rattle.std.specs.List.{All}
use Rattle.local_versions.specs.Rooms.{IsUnused}
use Rattle.local_versions.proofs.rooms.end_all.Given as goal

abbrev pub invariant-loop-room : goal.invariant-loop-room
invariant-loop-room l = All IsUnused l.rooms.items

abbrev pub decreases-loop-room : goal.decreases-loop-room
decreases-loop-room l = length l.rooms.items
