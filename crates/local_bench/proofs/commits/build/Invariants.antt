use Rattle.std.proofs.Common.{◌≡◌}
use Rattle.local_bench.proofs.commits.build.Given as goal

abbrev pub invariant-loop-key : goal.invariant-loop-key
invariant-loop-key g l = l.index.places ≡ l.fn.index.places
