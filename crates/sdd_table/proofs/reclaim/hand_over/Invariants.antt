use Rattle.std.proofs.Common.{◌≡◌, ◌<◌, length}
use Rattle.sdd_table.specs.Steps.{handed_over}
use Rattle.sdd_table.proofs.reclaim.hand_over.Given as goal

abbrev pub invariant-loop : goal.invariant-loop
invariant-loop g l = record {
  known : l.p < length l.table.participants;
  state : handed_over l.p l.waiting.items l.table ≡ handed_over l.initial.p l.initial.waiting.items l.initial.table;
}

abbrev pub decreases-loop : goal.decreases-loop
decreases-loop g l = length l.waiting.items
