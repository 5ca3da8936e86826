use Rattle.std.proofs.Common.{◌≡◌, ◌≤◌, None, replicate, vec_capacity}
use Rattle.sdd_table.proofs.table.empty_slots.Given as goal

abbrev pub invariant-loop : goal.invariant-loop
invariant-loop g l = record {
  values : l.values.items ≡ replicate l.counter None;
  room : l.n ≤ vec_capacity l.values;
}
