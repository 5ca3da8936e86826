-- How far the pairs of a tree have been cloned into another one.
use Rattle.std.specs.Prelude.{◌≡◌, ◌≤◌, ◌+◌, ◌-◌, ◌++◌, ℕ, List, drop, length, take, Option, Some, None}
use Rattle.std.specs.declared.cmp.Ordering.{Ordering}
use Rattle.tree_nodes.specs.declared.arenas.Arenas.{Arenas}
use Rattle.tree_nodes.specs.declared.walk.Position.{Position}
use Rattle.tree_nodes.specs.Content.{pairs_of, IsSound}
use Rattle.tree_nodes.specs.Depth.{ascending_headroom}
use Rattle.tree_nodes.specs.Walk.{position, IsPosition}

module _ {K V : Type 0} where
  -- how many pairs come before a place, where none is behind all of them
  abbrev pub place : Arenas K V → Option (Position K V) → ℕ
  place a None = length (pairs_of a)
  place a (Some s) = position a s

  abbrev pub IsPositionOrEnd : Arenas K V → Option (Position K V) → Type 0
  IsPositionOrEnd a None = Unit {0}
  IsPositionOrEnd a (Some s) = IsPosition a s

  -- a tree has the pairs of a list, and behind them those of a source from one place up to another, with this many left of a
  -- count; for each of them it has taken one of its own places at most
  pub record IsExtended (cmp : K → K → Ordering) (source : Arenas K V) (base : List (K × V)) (start count room : ℕ) (tree : Arenas K V) (next : Option (Position K V)) (left : ℕ) : Type 0 where
    pub sound : IsSound cmp tree
    pub spot : IsPositionOrEnd source next
    pub from : start ≤ place source next
    pub upto : place source next + left ≡ start + count
    pub pairs : pairs_of tree ≡ base ++ take (place source next - start) (drop start (pairs_of source))
    pub places : room ≤ ascending_headroom cmp tree + (place source next - start)

  -- one tree is another, and behind its pairs those of a source from one place on
  abbrev pub Extends : (K → K → Ordering) → Arenas K V → Option (Position K V) → ℕ → Arenas K V → Arenas K V → Option (Position K V) → ℕ → Type 0
  Extends cmp source from count before after next left = IsExtended cmp source (pairs_of before) (place source from) count (ascending_headroom cmp before) after next left
