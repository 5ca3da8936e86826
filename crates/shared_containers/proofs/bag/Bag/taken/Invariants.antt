use Rattle.std.proofs.Common.{◌≡◌}
use Rattle.sdd_domain.specs.CellSteps.{HasMadeSome}
use Rattle.sdd_domain.specs.Tokens.{own_of, IsInNest}
use Rattle.shared_containers.proofs.bag.Bag.taken.Given as goal

abbrev pub invariant-loop-i : goal.invariant-loop-i
invariant-loop-i g l = record {
  same : IsInNest l.fn.local l.local × (own_of l.local ≡ own_of l.fn.local);
  some : HasMadeSome l.fn.local l.local;
}
