use Rattle.sdd_domain.specs.CellSteps.{HasMadeSome}
use Rattle.shared_containers.specs.Containers.{IsAsBefore}
use Rattle.shared_containers.proofs.stack.Stack.pop_if.Given as goal

abbrev pub invariant-loop-i : goal.invariant-loop-i
invariant-loop-i g l = record {
  same : IsAsBefore l.fn.local l.local;
  some : HasMadeSome l.fn.local l.local;
}
