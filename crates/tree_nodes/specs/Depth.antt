-- How far a tree is from a depth of more than 1.
use Rattle.std.specs.Prelude.{◌≡◌, ℕ, zero, suc, ◌<◌, ◌≤◌, ◌+◌, ◌*◌, ◌-◌, Bool, true, cond, ◌&&◌, List, [], ◌∷◌, Option, Some, None}
use Rattle.std.specs.declared.cmp.Ordering.{Ordering}
use Rattle.std.specs.declared.cmp.Ordering.TheVariants.{Less}
use Rattle.std.specs.Ordering.{is_le}
use Rattle.std.specs.List.{list_any}
use Rattle.slab.specs.Slab.{get}
use Rattle.tree_nodes.specs.declared.leaf.Leaf.{Leaf}
use Rattle.tree_nodes.specs.declared.node.InnerNode.{InnerNode}
use Rattle.tree_nodes.specs.declared.arenas.Arenas.{Arenas}
use Rattle.tree_nodes.specs.Shape.{AllKeys}
use Rattle.tree_nodes.specs.Content.{pairs_of}

-- the key is above those of all pairs
abbrev pub IsAbove : {K V : Type 0} → (K → K → Ordering) → K → List (K × V) → Type 0
IsAbove cmp key pairs = AllKeys (λ k. cmp k key ≡ Less) pairs

abbrev pub leaf_room : {K V : Type 0} → Option (Leaf K V) → ℕ
leaf_room None = 0
leaf_room (Some l) = 15 - l.array.used

module _ {K V : Type 0} (cmp : K → K → Ordering) where
  -- no separator is above all pairs, so that a key above all pairs belongs to the last child
  abbrev pub is_reached : List (K × V) → List (K × ℕ) → Bool
  is_reached pairs [] = true
  is_reached pairs (e ∷ es) = list_any (λ p. is_le (cmp e.0 p.0)) pairs && is_reached pairs es

  -- the places that a node over leaves has: fifteen for each child that it can still get, and those of its last leaf
  abbrev pub node_room : List (K × V) → (ℕ → ℕ) → Option (InnerNode K) → ℕ
  node_room pairs f None = 0
  node_room pairs f (Some n) = cond (is_reached pairs n.children.pairs) (15 * (15 - n.children.used) + f n.last) 0

  abbrev pub root_room : Arenas K V → ℕ
  root_room a = node_room (pairs_of a) (λ n. leaf_room (get a.leaves n)) (get a.nodes a.root)

-- for a depth, and the places that its root has if that is a node over leaves
abbrev pub headroom_for : ℕ → ℕ → ℕ
headroom_for zero room = 241
headroom_for (suc zero) room = suc room
headroom_for (suc (suc height)) room = 0

-- 0 where the depth is more than 1; else one more than the number of pairs, each above all others, that the tree takes at least before it is
abbrev pub ascending_headroom : {K V : Type 0} → (K → K → Ordering) → Arenas K V → ℕ
ascending_headroom cmp a = headroom_for a.height (root_room cmp a)

-- the tree takes as many pairs above all others as before, or more, while it took any and the next one has this key
abbrev pub KeepsHeadroom : {K V : Type 0} → (K → K → Ordering) → K → Arenas K V → Arenas K V → Type 0
KeepsHeadroom cmp key old new = IsAbove cmp key (pairs_of old) → 1 < ascending_headroom cmp old → ascending_headroom cmp old ≤ ascending_headroom cmp new
