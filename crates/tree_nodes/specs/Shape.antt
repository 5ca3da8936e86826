-- The shape of a tree, over what its arenas hold at each number.
use Rattle.std.specs.Prelude.{◌≡◌, ◌≤◌, ℕ, zero, suc, ◌+◌, ◌==◌, false, cond, List, [], ◌∷◌, ◌++◌, length, Option, Some, None}
use Rattle.std.specs.declared.cmp.Ordering.{Ordering}
use Rattle.std.specs.declared.cmp.Ordering.TheVariants.{Less}
use Rattle.std.specs.Ordering.{is_gt, is_lt}
use Rattle.leaf_array.specs.Cells.{Cells}
use Rattle.leaf_array.specs.Pairs.{IsAscending}

-- what the arenas hold at each number: the array of a leaf; the children of a node with their separators, and the one behind them
pub record ArenaContent (K V : Type 0) : Type 0 where
  pub leaf : ℕ → Option (Cells K V)
  pub node : ℕ → Option (Cells K ℕ × ℕ)

module _ {K : Type 0} (cmp : K → K → Ordering) where
  -- the key is above the lower bound, if there is one
  abbrev pub IsOver : Option K → K → Type 0
  IsOver None k = Unit {0}
  IsOver (Some low) k = cmp low k ≡ Less

  -- the key is not above the upper bound, if there is one
  abbrev pub IsUpTo : Option K → K → Type 0
  IsUpTo None k = Unit {0}
  IsUpTo (Some high) k = is_gt (cmp k high) ≡ false

  abbrev pub IsWithin : Option K → Option K → K → Type 0
  IsWithin low high k = IsOver low k × IsUpTo high k

  -- the child on the way to a key: that of the least separator not below it, or the last
  abbrev pub child_for : K → List (K × ℕ) → ℕ → ℕ
  child_for key [] last = last
  child_for key (e ∷ es) last = cond (is_lt (cmp e.0 key)) (child_for key es last) e.1

  -- each child lies between its separators
  abbrev pub AreBetween : (ℕ → Option K → Option K → Type 0) → List (K × ℕ) → ℕ → Option K → Option K → Type 0
  AreBetween P [] last low high = P last low high
  AreBetween P (e ∷ es) last low high = IsWithin low high e.0 × P e.1 low (Some e.0) × AreBetween P es last (Some e.0) high

abbrev pub first_child : {K : Type 0} → List (K × ℕ) → ℕ → ℕ
first_child [] last = last
first_child (e ∷ es) last = e.1

-- every key of a list of pairs
abbrev pub AllKeys : {K V : Type 0} → (K → Type 0) → List (K × V) → Type 0
AllKeys P [] = Unit {0}
AllKeys P (p ∷ ps) = P p.0 × AllKeys P ps

-- what the children hold, in order
abbrev pub joined_along : {K X : Type 0} → (ℕ → List X) → List (K × ℕ) → ℕ → List X
joined_along f [] last = f last
joined_along f (e ∷ es) last = f e.1 ++ joined_along f es last

-- what numbers hold, in their order
abbrev pub joined_over : {X : Type 0} → (ℕ → List X) → List ℕ → List X
joined_over f [] = []
joined_over f (n ∷ ns) = f n ++ joined_over f ns

-- the sum over the children
abbrev pub sum_along : {K : Type 0} → (ℕ → ℕ) → List (K × ℕ) → ℕ → ℕ
sum_along f [] last = f last
sum_along f (e ∷ es) last = f e.1 + sum_along f es last

module _ {K : Type 0} where
  abbrev pub node_sum : (ℕ → ℕ) → Option (Cells K ℕ × ℕ) → ℕ
  node_sum f None = 0
  node_sum f (Some n) = sum_along f n.0.pairs n.1

  -- the child of a node on the way to a key
  abbrev pub child_in : (K → K → Ordering) → K → ℕ → Option (Cells K ℕ × ℕ) → ℕ
  child_in cmp key at None = at
  child_in cmp key at (Some n) = child_for cmp key n.0.pairs n.1

  -- a node from which no child was removed
  pub record IsNode (n : Cells K ℕ) : Type 0 where
    pub thawed : n.frozen ≡ false
    pub living : n.retired ≡ false
    pub packed : n.used ≡ length n.pairs

abbrev pub node_joined : {K X : Type 0} → (ℕ → List X) → Option (Cells K ℕ × ℕ) → List X
node_joined f None = []
node_joined f (Some n) = joined_along f n.0.pairs n.1

module _ {K V : Type 0} where
  abbrev pub leaf_pairs : Option (Cells K V) → List (K × V)
  leaf_pairs None = []
  leaf_pairs (Some c) = c.pairs

  -- the pairs under a number at this height, in order
  abbrev pub pairs_under : ArenaContent K V → ℕ → ℕ → List (K × V)
  pairs_under a zero at = leaf_pairs (a.leaf at)
  pairs_under a (suc height) at = node_joined (pairs_under a height) (a.node at)

  -- the numbers of the leaves under a number at this height, in order
  abbrev pub leaves_under : ArenaContent K V → ℕ → ℕ → List ℕ
  leaves_under a zero at = at ∷ []
  leaves_under a (suc height) at = node_joined (leaves_under a height) (a.node at)

  -- how often a leaf, and how often a node, is under a number at this height
  abbrev pub leaf_times : ArenaContent K V → ℕ → ℕ → ℕ → ℕ
  leaf_times a n zero at = cond (at == n) 1 0
  leaf_times a n (suc height) at = node_sum (leaf_times a n height) (a.node at)

  abbrev pub node_times : ArenaContent K V → ℕ → ℕ → ℕ → ℕ
  node_times a n zero at = 0
  node_times a n (suc height) at = cond (at == n) 1 0 + node_sum (node_times a n height) (a.node at)

  module _ (cmp : K → K → Ordering) where
    -- the number that this many steps down lead to, on the way to a key
    abbrev pub way : ArenaContent K V → K → ℕ → ℕ → ℕ
    way a key zero at = at
    way a key (suc steps) at = way a key steps (child_in cmp key at (a.node at))

    -- a leaf between two bounds: it is not frozen, and its keys rise
    pub record IsLeaf (low high : Option K) (c : Cells K V) : Type 0 where
      pub thawed : c.frozen ≡ false
      pub rising : IsAscending cmp c.pairs
      pub within : AllKeys (IsWithin cmp low high) c.pairs

    -- a tree of this height, whose keys lie between two bounds
    abbrev pub IsTree : ArenaContent K V → ℕ → ℕ → Option K → Option K → Type 0
    IsTree a zero at low high = (c : Cells K V) × (a.leaf at ≡ Some c) × IsLeaf low high c
    IsTree a (suc height) at low high = (n : Cells K ℕ × ℕ) × (a.node at ≡ Some n) × IsNode n.0 × AreBetween cmp (IsTree a height) n.0.pairs n.1 low high

    -- a tree that has each leaf and each node once
    pub record Stands (a : ArenaContent K V) (height root : ℕ) : Type 0 where
      pub tree : IsTree a height root None None
      pub leaf_once : (n : ℕ) → leaf_times a n height root ≤ 1
      pub node_once : (n : ℕ) → node_times a n height root ≤ 1
