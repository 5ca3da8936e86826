use Rattle.std.proofs.Common.{◌≡◌}
use Rattle.domain_table.proofs.owners.raise_owners.Given as goal

abbrev pub invariant-loop : goal.invariant-loop
invariant-loop g l = record {
  seat : (l.seat.table_id ≡ l.initial.seat.table_id) × (l.seat.id ≡ l.initial.seat.id);
  same : l.seat.me ≡ l.initial.seat.me;
}
