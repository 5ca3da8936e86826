use Rattle.std.proofs.Common.{◌≡◌, ◌-◌, ◌&&◌, length, drop}
use Rattle.std.specs.Cmp.Lexicographic.{pointwise}
use Rattle.tree_nodes.specs.Content.{pairs_of}
use Rattle.tree_nodes.specs.Copy.{place, IsPositionOrEnd}
use Rattle.tree_nodes.proofs.arenas.Arenas.equals.Given as goal

-- both stand at the same place, and the pairs before it are equal
abbrev pub invariant-loop-left : goal.invariant-loop-left
invariant-loop-left g l = record {
  left : IsPositionOrEnd l.self l.left;
  right : IsPositionOrEnd l.other l.right;
  together : place l.self l.left ≡ place l.other l.right;
  same : pointwise (λ p q. g.K.PartialEq.eq p.0 q.0 && g.V.PartialEq.eq p.1 q.1) (drop (place l.self l.left) (pairs_of l.self)) (drop (place l.self l.left) (pairs_of l.other)) ≡ pointwise (λ p q. g.K.PartialEq.eq p.0 q.0 && g.V.PartialEq.eq p.1 q.1) (pairs_of l.self) (pairs_of l.other);
}

abbrev pub decreases-loop-left : goal.decreases-loop-left
decreases-loop-left g l = length (pairs_of l.self) - place l.self l.left
