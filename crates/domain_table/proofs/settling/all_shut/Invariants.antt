use Rattle.std.proofs.Common.{◌≡◌, ◌≢◌, ◌<◌, ℕ, List}
use Rattle.sdd_steps.specs.State.{Has}
use Rattle.domain_table.proofs.settling.all_shut.Given as goal

abbrev pub invariant-loop-other : goal.invariant-loop-other
invariant-loop-other g l = record {
  seat : (l.seat.table_id ≡ l.fn.seat.table_id) × (l.seat.id ≡ l.fn.seat.id);
  looked : (ls : List ℕ) × (l.seat.me ≡ (record l.fn.seat.me.0 { known = record l.fn.seat.me.0.known { looked = ls } }, l.fn.seat.me.1)) × ((q : ℕ) → q < l.other → q ≢ l.number → Has ls q);
}
