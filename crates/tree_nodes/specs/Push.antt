-- The leaf that pairs by rising keys go to.
use Rattle.std.specs.Prelude.{◌≡◌, ◌<◌, ◌≤◌, ◌+◌, ◌-◌, ◌^◌, ℕ, List, [], ◌∷◌, ◌++◌, length, Option, Some, None, false}
use Rattle.std.specs.declared.cmp.Ordering.{Ordering}
use Rattle.slab.specs.Slab.{Slab, get, Updates}
use Rattle.leaf_array.specs.Pairs.{IsAscending}
use Rattle.tree_nodes.specs.declared.leaf.Leaf.{Leaf}
use Rattle.tree_nodes.specs.declared.node.InnerNode.{InnerNode}
use Rattle.tree_nodes.specs.declared.arenas.Arenas.{Arenas}
use Rattle.tree_nodes.specs.Content.{leaves_of}
use Rattle.tree_nodes.specs.SplitPoints.{key_at}
use Rattle.tree_nodes.specs.Walk.{IsOwnLeaf}

-- the last leaf: it has pairs, and room for one more
pub record LastLeafHasRoom {K V : Type 0} (a : Arenas K V) (n : ℕ) : Type 0 where
  pub own : IsOwnLeaf a (Some n)
  pub fore : List ℕ
  pub last : leaves_of a ≡ fore ++ n ∷ []
  pub leaf : Leaf K V
  pub there : get a.leaves n ≡ Some leaf
  pub some : 0 < length leaf.array.pairs
  pub room : leaf.array.used < 15

-- the last leaf: it has pairs, and takes this many more at once, which can be counted; if there are any, all of its used places have pairs
pub record LastLeafTakes {K V : Type 0} (a : Arenas K V) (n room : ℕ) : Type 0 where
  pub own : IsOwnLeaf a (Some n)
  pub fore : List ℕ
  pub last : leaves_of a ≡ fore ++ n ∷ []
  pub leaf : Leaf K V
  pub there : get a.leaves n ≡ Some leaf
  pub some : 0 < length leaf.array.pairs
  pub packed : 0 < room → leaf.array.used ≡ length leaf.array.pairs
  pub most : leaf.array.used + room ≤ 15
  pub countable : a.len + room < 2 ^ 64

-- a leaf with pairs, in places without gaps, that names the one before it and none behind it
pub record IsLastOf {K V : Type 0} (leaf : Leaf K V) (before : Option ℕ) : Type 0 where
  pub thawed : leaf.array.frozen ≡ false
  pub packed : leaf.array.used ≡ length leaf.array.pairs
  pub prev : leaf.prev ≡ before
  pub next : leaf.next ≡ None

-- a new leaf has come into an arena, with these pairs and behind the one named
pub record IsAdded {K V : Type 0} (old new : Slab (Leaf K V)) (n : ℕ) (before : Option ℕ) (pairs : List (K × V)) : Type 0 where
  pub leaf : Leaf K V
  pub is : IsLastOf leaf before
  pub holds : leaf.array.pairs ≡ pairs
  pub vacant : get old n ≡ None
  pub added : Updates old new n (Some leaf)

-- a leaf of an arena that names no other, with so many pairs, which rise
pub record IsLone {K V : Type 0} (cmp : K → K → Ordering) (leaves : Slab (Leaf K V)) (n len : ℕ) : Type 0 where
  pub leaf : Leaf K V
  pub there : get leaves n ≡ Some leaf
  pub is : IsLastOf leaf None
  pub rising : IsAscending cmp leaf.array.pairs
  pub counted : len ≡ length leaf.array.pairs

-- the last leaf, which is full, and its greatest key: it hangs on the root, which has room, and as many pairs as a leaf has can be counted
pub record IsFullLast {K V : Type 0} (a : Arenas K V) (n : ℕ) (greatest : K) : Type 0 where
  pub flat : a.height ≡ 1
  pub root : InnerNode K
  pub root_there : get a.nodes a.root ≡ Some root
  pub last : root.last ≡ n
  pub room : root.children.used < 15
  pub leaf : Leaf K V
  pub there : get a.leaves n ≡ Some leaf
  pub full : leaf.array.used ≡ 15
  pub some : 0 < length leaf.array.pairs
  pub key : key_at leaf.array.pairs (length leaf.array.pairs - 1) ≡ Some greatest
  pub countable : a.len + 15 < 2 ^ 64
