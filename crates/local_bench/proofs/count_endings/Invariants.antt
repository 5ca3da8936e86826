use Rattle.std.proofs.Common.{◌≡◌}
use Rattle.local_bench.proofs.count_endings.Given as goal

abbrev pub invariant-loop-round : goal.invariant-loop-round
invariant-loop-round l = l.index.places ≡ l.fn.index.places
