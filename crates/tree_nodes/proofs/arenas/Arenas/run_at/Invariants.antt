use Rattle.std.proofs.Common.{◌≡◌, ◌+◌, ◌-◌, drop, length, take}
use Rattle.std.specs.Prelude.{IfSome}
use Rattle.std.specs.declared.cmp.Ordering.TheVariants.{Less}
use Rattle.tree_nodes.specs.Content.{pairs_of}
use Rattle.tree_nodes.specs.Copy.{place, IsPositionOrEnd}
use Rattle.tree_nodes.specs.Shape.{AllKeys}
use Rattle.tree_nodes.specs.Walk.{position}
use Rattle.tree_nodes.proofs.arenas.Arenas.run_at.Given as goal

-- the pairs that were counted lie before the key
abbrev pub invariant-loop-next : goal.invariant-loop-next
invariant-loop-next g l = record {
  spot : IsPositionOrEnd l.self l.next;
  there : place l.self l.next ≡ position l.self l.fn.spot + l.count;
  below : IfSome l.fn.upto (λ key. AllKeys (λ k. g.K.Ord.cmp k key.now ≡ Less) (take l.count (drop (position l.self l.fn.spot) (pairs_of l.self))));
}

abbrev pub decreases-loop-next : goal.decreases-loop-next
decreases-loop-next g l = length (pairs_of l.self) - place l.self l.next
