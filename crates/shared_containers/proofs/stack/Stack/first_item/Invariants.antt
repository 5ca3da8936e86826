use Rattle.std.proofs.Common.{◌≡◌}
use Rattle.sdd_domain.specs.CellSteps.{HasMadeSome}
use Rattle.sdd_domain.specs.Tokens.{own_of, IsInNest}
use Rattle.shared_containers.proofs.stack.Stack.first_item.Given as goal

abbrev pub invariant-loop-i : goal.invariant-loop-i
invariant-loop-i g l = record {
  same : IsInNest l.fn.local l.local × ((own_of l.local).nesting ≡ (own_of l.fn.local).nesting);
  some : HasMadeSome l.fn.local l.local;
}
