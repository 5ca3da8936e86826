use Rattle.std.proofs.Common.{◌≡◌}
use Rattle.local_bench.proofs.reads.open_all.Given as goal

abbrev pub invariant-loop-probe : goal.invariant-loop-probe
invariant-loop-probe g l = l.index.places ≡ l.fn.index.places
