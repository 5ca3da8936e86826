use Rattle.std.proofs.Common.{◌≡◌, ◌≤◌, [], replicate, vec_capacity}
use Rattle.sdd_table.specs.State.{vacancy, idleness}
use Rattle.sdd_table.specs.View.{Lists}
use Rattle.sdd_table.specs.declared.status.Status.TheVariants as status
use Rattle.sdd_table.proofs.table.free_slots.Given as goal

abbrev pub invariant-loop-i : goal.invariant-loop-i
invariant-loop-i l = record {
  states : l.states.items ≡ replicate l.i status.Free;
  capacity : l.places ≤ vec_capacity l.states;
  room : l.n ≤ vec_capacity l.free;
  free : Lists vacancy l.states.items l.free.items;
  idle : Lists idleness l.states.items [];
}
