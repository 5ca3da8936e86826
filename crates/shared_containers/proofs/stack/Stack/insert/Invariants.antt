use Rattle.std.proofs.Common.{◌≡◌}
use Rattle.sdd_domain.specs.CellSteps.{HasMadeSome}
use Rattle.sdd_domain.specs.Sharing.{kept_in, IsOwnerOf}
use Rattle.sdd_domain.specs.Tokens.{place_of}
use Rattle.shared_containers.specs.Containers.{IsAsBefore}
use Rattle.shared_containers.proofs.stack.Stack.insert.Given as goal

abbrev pub invariant-loop-i : goal.invariant-loop-i
invariant-loop-i g l = record {
  mine : kept_in l.owner ≡ (place_of l.domain).0;
  item : (x : _) → IsOwnerOf l.fn.owner x → IsOwnerOf l.owner x;
  slot : l.owner.slot ≡ l.fn.owner.slot;
  same : IsAsBefore l.fn.local l.local;
  some : HasMadeSome l.fn.local l.local;
}
