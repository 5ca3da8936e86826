use Rattle.std.proofs.Common.{◌≡◌}
use Rattle.tree_nodes.specs.Content.{leaves_of}
use Rattle.tree_nodes.specs.Walk.{ends_at, IsOwnLeaf}
use Rattle.tree_nodes.proofs.RowLemmas.{reach}
use Rattle.tree_nodes.proofs.arenas.Arenas.last_from.Given as goal

-- no pair lies in the leaves passed over
abbrev pub invariant-loop-prev : goal.invariant-loop-prev
invariant-loop-prev g l = record {
  own : IsOwnLeaf l.self l.prev;
  same : ends_at l.self l.prev ≡ ends_at l.self l.fn.from;
}

abbrev pub decreases-loop-prev : goal.decreases-loop-prev
decreases-loop-prev g l = reach (leaves_of l.self) l.prev
