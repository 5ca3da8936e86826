-- What a node of a tree holds.
use Rattle.std.specs.Prelude.{ℕ, Bool, true, false, List}
use Rattle.tree_nodes.specs.declared.node.Node.{Node}
use Rattle.tree_nodes.specs.declared.node.Node.TheVariants.{Internal, Leaf}

module _ {K V : Type 0} where
  -- the pairs under it
  abbrev pub node_pairs : Node K V → List (K × V)
  node_pairs (Internal n) = n.pairs
  node_pairs (Leaf pairs) = pairs

  -- how many nodes lie from it down to a leaf
  abbrev pub height_in : Node K V → ℕ
  height_in (Internal n) = n.height
  height_in (Leaf pairs) = 1

  -- its children are nodes
  abbrev pub is_internal : Node K V → Bool
  is_internal (Internal n) = true
  is_internal (Leaf pairs) = false
