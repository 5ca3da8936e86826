-- Places in the leaves of a tree.
use Rattle.std.specs.Prelude.{◌≡◌, ◌≢◌, ◌≤◌, ◌<◌, ◌+◌, ◌-◌, ℕ, suc, ◌==◌, cond, List, [], ◌∷◌, ◌++◌, length, Option, Some, None}
use Rattle.slab.specs.Slab.{get}
use Rattle.tree_nodes.specs.declared.arenas.Arenas.{Arenas}
use Rattle.tree_nodes.specs.declared.walk.Position.{Position}
use Rattle.tree_nodes.specs.Shape.{AllKeys, joined_over, leaf_pairs}
use Rattle.tree_nodes.specs.Chain.{times, first_or}
use Rattle.tree_nodes.specs.Content.{content_of, pairs_of, leaves_of}

-- how many pairs are in the leaves before one
abbrev pub pairs_before : {X : Type 0} → (ℕ → List X) → ℕ → List ℕ → ℕ
pairs_before f n [] = 0
pairs_before f n (m ∷ ms) = cond (m == n) 0 (length (f m) + pairs_before f n ms)

-- how many numbers come from one on
abbrev pub rest : List ℕ → Option ℕ → ℕ
rest ns None = 0
rest ns (Some n) = suc (length ns - pairs_before (λ k. k ∷ []) n ns)

module _ {K V : Type 0} where
  abbrev pub pairs_in_leaf : Arenas K V → ℕ → List (K × V)
  pairs_in_leaf a n = leaf_pairs ((content_of a).leaf n)

  -- how many pairs come before a place
  abbrev pub position : Arenas K V → Position K V → ℕ
  position a s = pairs_before (pairs_in_leaf a) s.at (leaves_of a) + s.place

  -- how many pairs come before the leaf with this number: all, where none is named
  abbrev pub starts_at : Arenas K V → Option ℕ → ℕ
  starts_at a None = length (pairs_of a)
  starts_at a (Some n) = pairs_before (pairs_in_leaf a) n (leaves_of a)

  -- how many pairs there are up to the end of the leaf with this number: none, where none is named
  abbrev pub ends_at : Arenas K V → Option ℕ → ℕ
  ends_at a None = 0
  ends_at a (Some n) = pairs_before (pairs_in_leaf a) n (leaves_of a) + length (pairs_in_leaf a n)

  -- the number, if there is one, is that of a leaf of the tree
  abbrev pub IsOwnLeaf : Arenas K V → Option ℕ → Type 0
  IsOwnLeaf a None = Unit {0}
  IsOwnLeaf a (Some n) = (a.height ≢ 0) × (times n (leaves_of a) ≢ 0)

  -- a place in a leaf of the tree, at one of its pairs or behind them
  pub record IsInsertionPoint (a : Arenas K V) (s : Position K V) : Type 0 where
    pub there : get a.leaves s.at ≡ Some s.leaf.now
    pub own : IsOwnLeaf a (Some s.at)
    pub most : s.place ≤ length s.leaf.now.array.pairs

  -- the place of a pair
  pub record IsPosition (a : Arenas K V) (s : Position K V) : Type 0 where
    pub insertion_point : IsInsertionPoint a s
    pub within : s.place < length s.leaf.now.array.pairs

  -- the leaves up to the one with this number, or all if none is named, hold only such keys
  pub record IsPassed (P : K → Type 0) (a : Arenas K V) (next : Option ℕ) : Type 0 where
    pub fore : List ℕ
    pub rear : List ℕ
    pub all : leaves_of a ≡ fore ++ rear
    pub first : next ≡ first_or None rear
    pub keys : AllKeys P (joined_over (pairs_in_leaf a) fore)

  -- the place behind n pairs, if there is a pair
  abbrev pub IsFirstPosition : Arenas K V → ℕ → Option (Position K V) → Type 0
  IsFirstPosition a n None = n ≡ length (pairs_of a)
  IsFirstPosition a n (Some s) = position a s ≡ n

  -- the place of the last of the first n pairs, if there is one
  abbrev pub IsLastPosition : Arenas K V → ℕ → Option (Position K V) → Type 0
  IsLastPosition a n None = n ≡ 0
  IsLastPosition a n (Some s) = position a s + 1 ≡ n
