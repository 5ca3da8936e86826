use Rattle.std.proofs.Common.{◌≡◌, ◌<◌, length}
use Rattle.sdd_table.specs.Steps.{purged, left_waiting}
use Rattle.sdd_table.proofs.reclaim.purge.Given as goal

abbrev pub invariant-loop-slot : goal.invariant-loop-slot
invariant-loop-slot g l = record {
  known : l.p < length l.table.participants;
  state : purged g.T.Holds.holds l.p l.waiting.items l.table ≡ purged g.T.Holds.holds l.initial.p l.initial.waiting.items l.initial.table;
  left : left_waiting g.T.Holds.holds l.p l.waiting.items l.table ≡ left_waiting g.T.Holds.holds l.initial.p l.initial.waiting.items l.initial.table;
  room : l.waiting.room ≡ l.initial.waiting.room;
}

abbrev pub decreases-loop-slot : goal.decreases-loop-slot
decreases-loop-slot g l = length l.waiting.items
