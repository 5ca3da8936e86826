use Rattle.std.proofs.Common.{◌≡◌}
use Rattle.sdd_domain.specs.CellSteps.{HasMadeSome}
use Rattle.sdd_domain.specs.Sharing.{kept_in, IsOwnerOf}
use Rattle.sdd_domain.specs.Tokens.{place_of, own_of, IsInNest}
use Rattle.shared_containers.proofs.bag.Bag.keep_under.Given as goal

abbrev pub invariant-loop-i : goal.invariant-loop-i
invariant-loop-i g l = record {
  mine : kept_in l.owner ≡ (place_of l.domain).0;
  item : (x : _) → IsOwnerOf l.fn.owner x → IsOwnerOf l.owner x;
  slot : l.owner.slot ≡ l.fn.owner.slot;
  same : IsInNest l.fn.local l.local × ((own_of l.local).nesting ≡ (own_of l.fn.local).nesting);
  some : HasMadeSome l.fn.local l.local;
}
