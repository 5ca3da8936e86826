use Rattle.std.proofs.Common.{◌≡◌, drop}
use Rattle.index_bench.specs.Sums.{sum_found}
use Rattle.index_bench.proofs.get_all.Given as goal

abbrev pub invariant-loop-probe : goal.invariant-loop-probe
invariant-loop-probe l = sum_found l.tree.pairs (drop l.probe-index l.probes) l.total ≡ sum_found l.tree.pairs l.probes l.sum
