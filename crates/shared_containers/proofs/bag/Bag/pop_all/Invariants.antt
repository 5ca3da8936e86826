use Rattle.shared_containers.specs.Containers.{IsAsBefore}
use Rattle.shared_containers.proofs.bag.Bag.pop_all.Given as goal

abbrev pub invariant-loop-i : goal.invariant-loop-i
invariant-loop-i g l = record {
  callable : goal.F-IsAlwaysCallable g l.f;
  same : IsAsBefore l.fn.local l.local;
}
