use Rattle.shared_containers.specs.Containers.{IsAsBefore}
use Rattle.domain_bench.proofs.loads.Given as goal

abbrev pub invariant-loop-i : goal.invariant-loop-i
invariant-loop-i l = IsAsBefore l.fn.local l.local
