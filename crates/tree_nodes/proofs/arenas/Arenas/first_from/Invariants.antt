use Rattle.std.proofs.Common.{◌≡◌}
use Rattle.tree_nodes.specs.Content.{leaves_of}
use Rattle.tree_nodes.specs.Walk.{starts_at, IsOwnLeaf}
use Rattle.tree_nodes.specs.Walk.{rest}
use Rattle.tree_nodes.proofs.arenas.Arenas.first_from.Given as goal

-- no pair lies in the leaves passed over
abbrev pub invariant-loop-next : goal.invariant-loop-next
invariant-loop-next g l = record {
  own : IsOwnLeaf l.self l.next;
  same : starts_at l.self l.next ≡ starts_at l.self l.fn.from;
}

abbrev pub decreases-loop-next : goal.decreases-loop-next
decreases-loop-next g l = rest (leaves_of l.self) l.next
