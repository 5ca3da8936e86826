use Rattle.std.proofs.Common.{◌≡◌, ◌≢◌, ℕ, ◌<◌}
use Rattle.sdd_steps.specs.State.{Has}
use Rattle.domain_table.specs.Plays.{Steady, Scans}
use Rattle.domain_table.proofs.scan.all_agree.Given as goal

abbrev pub invariant-loop-other : goal.invariant-loop-other
invariant-loop-other g l = record {
  same : (l.seat.table_id ≡ l.fn.seat.table_id) × (l.seat.id ≡ l.fn.seat.id) × Steady l.fn.seat.me l.seat.me;
  scans : Scans l.seat l.number l.epoch 2;
  noted : (q : ℕ) → q < l.other → q ≢ l.number → Has l.seat.me.0.known.looked q;
}
