use Rattle.std.proofs.Common.{◌≡◌, IfSome}
use Rattle.sdd_domain.specs.CellSteps.{HasMadeSome}
use Rattle.sdd_domain.specs.Tokens.{own_of, IsInNest}
use Rattle.shared_containers.specs.Put.{HasWalked}
use Rattle.shared_containers.proofs.queue.end_of.Given as goal

abbrev pub invariant-loop-i : goal.invariant-loop-i
invariant-loop-i g l = record {
  same : IsInNest l.fn.local l.local × ((own_of l.local).nesting ≡ (own_of l.fn.local).nesting);
  walked : IfSome l.at.slot (λ k. HasWalked l.fn.local l.links l.fn.from.slot k l.local);
  some : HasMadeSome l.fn.local l.local;
}
