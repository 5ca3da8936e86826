use Rattle.std.proofs.Common.{◌≡◌}
use Rattle.local_index.specs.State.{IsSessionOf}
use Rattle.local_bench.proofs.reads.record_all.Given as goal

abbrev pub invariant-loop-probe : goal.invariant-loop-probe
invariant-loop-probe g l = record {
  is_open : IsSessionOf l.index l.session;
  place : l.session.place ≡ l.fn.session.place;
}
