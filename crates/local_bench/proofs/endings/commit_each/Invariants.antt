use Rattle.std.proofs.Common.{◌≡◌}
use Rattle.local_bench.proofs.endings.commit_each.Given as goal

abbrev pub invariant-loop-probe : goal.invariant-loop-probe
invariant-loop-probe g l = l.index.places ≡ l.fn.index.places
