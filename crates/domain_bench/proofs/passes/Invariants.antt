use Rattle.shared_containers.specs.Containers.{IsAsBefore}
use Rattle.domain_bench.proofs.passes.Given as goal

-- the same participant, as deep as at first
abbrev pub invariant-loop-i : goal.invariant-loop-i
invariant-loop-i l = IsAsBefore l.initial.local l.local
