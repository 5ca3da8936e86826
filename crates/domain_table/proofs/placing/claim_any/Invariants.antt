use Rattle.std.proofs.Common.{◌≡◌}
use Rattle.domain_table.proofs.placing.claim_any.Given as goal

abbrev pub invariant-loop-step : goal.invariant-loop-step
invariant-loop-step g l = record {
  seat : (l.seat.table_id ≡ l.initial.seat.table_id) × (l.seat.id ≡ l.initial.seat.id);
  same : l.seat.me ≡ l.initial.seat.me;
}
