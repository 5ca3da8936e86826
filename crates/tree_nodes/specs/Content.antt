-- What the arenas of a tree hold.
use Rattle.std.specs.Prelude.{◌≡◌, ◌≢◌, ◌<◌, ◌-◌, ◌⊎◌, ℕ, List, length, Some, None, false}
use Rattle.std.specs.declared.cmp.Ordering.{Ordering}
use Rattle.std.specs.Option.{option_map}
use Rattle.slab.specs.Slab.{Slab, get}
use Rattle.tree_nodes.specs.declared.leaf.Leaf.{Leaf}
use Rattle.tree_nodes.specs.declared.node.InnerNode.{InnerNode}
use Rattle.tree_nodes.specs.declared.arenas.Arenas.{Arenas}
use Rattle.tree_nodes.specs.declared.leaf.SplitPoint.{SplitPoint}
use Rattle.tree_nodes.specs.SplitPoints.{IsSplitPoint}
use Rattle.tree_nodes.specs.Shape.{ArenaContent, pairs_under, leaves_under, way, Stands}
use Rattle.tree_nodes.specs.Chain.{leaf_links, IsLinked}

module _ {K V : Type 0} where
  -- the arrays in two arenas
  abbrev pub content : Slab (Leaf K V) → Slab (InnerNode K) → ArenaContent K V
  content leaves nodes = record {
    leaf = λ at. option_map (λ l. l.array) (get leaves at);
    node = λ at. option_map (λ n. (n.children, n.last)) (get nodes at);
  }

  abbrev pub content_of : Arenas K V → ArenaContent K V
  content_of a = content a.leaves a.nodes

  -- the pairs in order
  abbrev pub pairs_of : Arenas K V → List (K × V)
  pairs_of a = pairs_under (content_of a) a.height a.root

  -- the numbers of the leaves in order
  abbrev pub leaves_of : Arenas K V → List ℕ
  leaves_of a = leaves_under (content_of a) a.height a.root

  -- nothing is planted
  pub record HasNoTree (a : Arenas K V) : Type 0 where
    pub flat : a.height ≡ 0
    pub empty : (at : ℕ) → get a.leaves at ≡ None

  -- nothing is planted, or there is a tree of at least one node
  pub record IsSound (cmp : K → K → Ordering) (a : Arenas K V) : Type 0 where
    pub stands : HasNoTree a ⊎ (a.height ≢ 0) × Stands cmp (content_of a) a.height a.root
    pub linked : a.height ≢ 0 → IsLinked (leaf_links a.leaves) None (leaves_of a) None
    pub count : a.len ≡ length (pairs_of a)

  -- the leaf on the way to a key takes one more pair
  pub record LeafHasRoom (cmp : K → K → Ordering) (key : K) (a : Arenas K V) : Type 0 where
    pub leaf : Leaf K V
    pub there : get a.leaves (way cmp (content_of a) key a.height a.root) ≡ Some leaf
    pub living : leaf.array.retired ≡ false
    pub room : leaf.array.used < 15

  -- all places of the leaf on the way to a key are used
  pub record IsLeafFull (cmp : K → K → Ordering) (key : K) (a : Arenas K V) : Type 0 where
    pub leaf : Leaf K V
    pub there : get a.leaves (way cmp (content_of a) key a.height a.root) ≡ Some leaf
    pub full : leaf.array.used ≡ 15

  -- each number holds the same array
  abbrev pub AreSameArrays : Slab (Leaf K V) → Slab (Leaf K V) → Type 0
  AreSameArrays old new = (n : ℕ) → option_map (λ l. l.array) (get new n) ≡ option_map (λ l. l.array) (get old n)

  -- the node at this height on the way to a key is full
  pub record IsNodeFull (cmp : K → K → Ordering) (key : K) (a : Arenas K V) (left : ℕ) : Type 0 where
    pub node : InnerNode K
    pub there : get a.nodes (way cmp (content_of a) key (a.height - left) a.root) ≡ Some node
    pub full : node.children.used ≡ 15

  -- the node at this height on the way to a key has room for one more child
  pub record NodeHasRoom (cmp : K → K → Ordering) (key : K) (a : Arenas K V) (left : ℕ) : Type 0 where
    pub node : InnerNode K
    pub there : get a.nodes (way cmp (content_of a) key (a.height - left) a.root) ≡ Some node
    pub room : node.children.used < 15

  -- the leaf on the way to a key is to be cut there
  pub record IsSplitPointThere (cmp : K → K → Ordering) (key : K) (a : Arenas K V) (split_point : SplitPoint K) : Type 0 where
    pub leaf : Leaf K V
    pub there : get a.leaves (way cmp (content_of a) key a.height a.root) ≡ Some leaf
    pub fits : IsSplitPoint cmp key leaf.array.pairs split_point

  -- the leaf on the way to a key
  abbrev pub leaf_on_way : (K → K → Ordering) → K → Arenas K V → ℕ
  leaf_on_way cmp key a = way cmp (content_of a) key a.height a.root
