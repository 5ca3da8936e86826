-- The tree of a segment.
use Rattle.std.specs.Prelude.{◌+◌, ◌≤◌, length}
use Rattle.tree_index.specs.Tree.{Tree}

-- at most 225 pairs, each of which has taken one place at most of the 240 that a tree has by rising keys before it is deeper than 1
pub record IsRisen {K V : Type 0} (t : Tree K V) : Type 0 where
  pub places : 241 ≤ t.ascending_headroom + length t.pairs
  pub few : length t.pairs ≤ 225
