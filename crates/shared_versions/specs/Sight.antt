-- what is seen of a version
use Rattle.std.specs.Prelude.{ℕ, List}
use Rattle.std.specs.Global.{Global}
use Rattle.std.specs.declared.sync.Arc.{Arc}
use Rattle.tree_index.specs.Tree.{Tree}

-- its number; the greatest number of pairs in a segment; the segments of the rows that it has itself; the pairs of its segments in order; those of each row that is an item, and none for a row that the version has itself; the slots and rounds of the owners of rows
pub record Sight (K V : Type 0) : Type 0 where
  pub number : ℕ
  pub width : ℕ
  pub own : List (List (Arc (Tree K V) Global))
  pub blocks : List (List (K × V))
  pub rows : List (List (List (K × V)))
  pub owners : List (ℕ × ℕ)
