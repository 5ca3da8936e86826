use Rattle.std.proofs.Common.{◌≡◌}
use Rattle.sdd_domain.specs.Tokens.{own_of, IsInNest}
use Rattle.shared_containers.specs.Walks.{left_of}
use Rattle.shared_containers.proofs.stack.Stack.for_each.Given as goal

abbrev pub invariant-loop-item : goal.invariant-loop-item
invariant-loop-item g l = record {
  callable : goal.F-IsAlwaysCallable g l.f;
  same : IsInNest l.initial.local l.local × ((own_of l.local).nesting ≡ (own_of l.initial.local).nesting);
}

abbrev pub decreases-loop-item : goal.decreases-loop-item
decreases-loop-item g l = left_of l.items
