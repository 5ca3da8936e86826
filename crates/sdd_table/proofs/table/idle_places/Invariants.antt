use Rattle.std.proofs.Common.{◌≡◌, ◌≤◌, ◌++◌, ℕ, List, replicate, vec_capacity}
use Rattle.sdd_table.specs.State.{vacancy, idleness}
use Rattle.sdd_table.specs.View.{Lists}
use Rattle.sdd_table.specs.declared.status.Status.TheVariants as status
use Rattle.sdd_table.proofs.table.idle_places.Given as goal

abbrev pub invariant-loop : goal.invariant-loop
invariant-loop l = record {
  states : l.states.items ≡ l.initial.states.items ++ replicate l.counter status.Idle;
  room : l.n ≤ vec_capacity l.idle;
  free : (names : List ℕ) → Lists vacancy l.initial.states.items names → Lists vacancy l.states.items names;
  idle : Lists idleness l.states.items l.idle.items;
}
