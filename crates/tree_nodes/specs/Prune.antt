-- A leaf that leaves a tree, and what leaves it with that leaf.
use Rattle.std.specs.Prelude.{◌≡◌, ◌≢◌, ◌≤◌, ◌<◌, ◌-◌, ℕ, zero, suc, not, List, [], ◌∷◌, ◌++◌, Some, None}
use Rattle.std.specs.List.{filter}
use Rattle.std.specs.BTreeMap.Range.{range_contains}
use Rattle.std.specs.declared.ops.Bound.{Bound}
use Rattle.std.specs.declared.cmp.Ordering.{Ordering}
use Rattle.slab.specs.Slab.{get}
use Rattle.leaf_array.specs.Cells.{Cells, lesser}
use Rattle.tree_nodes.specs.declared.node.InnerNode.{InnerNode}
use Rattle.tree_nodes.specs.declared.arenas.Arenas.{Arenas}
use Rattle.tree_nodes.specs.declared.prune.Fork.{Fork}
use Rattle.tree_nodes.specs.Shape.{ArenaContent, child_for, way, node_times}
use Rattle.tree_nodes.specs.Chain.{times}
use Rattle.tree_nodes.specs.Content.{content_of, pairs_of, leaves_of, leaf_on_way}
use Rattle.tree_nodes.specs.Walk.{pairs_in_leaf}

module _ {K V : Type 0} where
  -- this many nodes with one child each lead from a number to a leaf
  abbrev pub IsSingle : ArenaContent K V → ℕ → ℕ → ℕ → Type 0
  IsSingle a zero at leaf = at ≡ leaf
  IsSingle a (suc height) at leaf = (n : Cells K ℕ × ℕ) × (a.node at ≡ Some n) × (n.0.pairs ≡ []) × IsSingle a height n.1 leaf

  -- a node with more than one child on the way to a key, below which each has one
  pub record IsFork (cmp : K → K → Ordering) (key : K) (a : Arenas K V) (f : Fork) : Type 0 where
    pub above : f.height < a.height
    pub on : f.node ≡ way cmp (content_of a) key (a.height - suc f.height) a.root
    pub node : InnerNode K
    pub there : get a.nodes f.node ≡ Some node
    pub more : node.children.pairs ≢ []
    pub place : f.place ≡ lesser cmp key node.children.pairs
    pub child : f.child ≡ child_for cmp key node.children.pairs node.last
    pub single : IsSingle (content_of a) f.height f.child (leaf_on_way cmp key a)

  -- a leaf, and the nodes from a number down to it, aren't in the tree
  pub record IsCutOff (a : Arenas K V) (height at leaf : ℕ) : Type 0 where
    pub planted : a.height ≢ 0
    pub single : IsSingle (content_of a) height at leaf
    pub once : (n : ℕ) → node_times (content_of a) n height at ≤ 1
    pub apart : (n : ℕ) → node_times (content_of a) n height at ≢ 0 → node_times (content_of a) n a.height a.root ≡ 0
    pub there : get a.leaves leaf ≢ None
    pub out : times leaf (leaves_of a) ≡ 0

  -- the tree without one of its leaves
  pub record IsWithout (leaf : ℕ) (old new : Arenas K V) : Type 0 where
    pub front : List (K × V)
    pub back : List (K × V)
    pub was : pairs_of old ≡ front ++ (pairs_in_leaf old leaf ++ back)
    pub now : pairs_of new ≡ front ++ back
    pub fore : List ℕ
    pub rear : List ℕ
    pub order_was : leaves_of old ≡ fore ++ leaf ∷ rear
    pub order : leaves_of new ≡ fore ++ rear
    pub kept : (n : ℕ) → n ≢ leaf → pairs_in_leaf new n ≡ pairs_in_leaf old n

  -- the root has one child, which is a node
  pub record IsLowerable (a : Arenas K V) : Type 0 where
    pub tall : 1 < a.height
    pub root : InnerNode K
    pub there : get a.nodes a.root ≡ Some root
    pub single : root.children.pairs ≡ []

  -- the same pairs lie outside two bounds
  abbrev pub AreSameOutside : (K → K → Ordering) → Bound K → Bound K → List (K × V) → List (K × V) → Type 0
  AreSameOutside cmp lower upper old new = filter (λ p. not (range_contains cmp lower upper p.0)) new ≡ filter (λ p. not (range_contains cmp lower upper p.0)) old
