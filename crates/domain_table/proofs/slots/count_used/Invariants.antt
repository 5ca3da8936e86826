use Rattle.std.proofs.Common.{◌≤◌}
use Rattle.domain_table.proofs.slots.count_used.Given as goal

abbrev pub invariant-loop-slot : goal.invariant-loop-slot
invariant-loop-slot g l = record { few : l.used ≤ l.slot }
