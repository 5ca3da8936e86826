-- Rows of neighbouring blocks.
use Rattle.std.specs.Prelude.{◌≡◌, ℕ, zero, suc, ◌+◌, ◌-◌, ◌≤◌, ◌<◌, List, Some, drop, length, map, take, get_or, slice_get}
use Rattle.std.specs.List.{All, flat_map}
use Rattle.version_views.specs.Cuts.{IsSeparated, greatest_key, pairs_in}
use Rattle.version_views.specs.Items.{row_keys, row_owners}
use Rattle.version_views.specs.declared.directory.Directory.{Directory}
use Rattle.version_views.specs.declared.directory.Spot.{Spot}
use Rattle.version_views.specs.declared.row.Row.{Row}

-- how many places lie before a row, where the ends are how many lie up to the end of each
abbrev pub start_of : List ℕ → ℕ → ℕ
start_of ends zero = 0
start_of ends (suc row) = get_or ends row 0

abbrev pub end_of : List ℕ → ℕ → ℕ
end_of ends row = get_or ends row 0

-- how many places all rows have
abbrev pub count_in : List ℕ → ℕ
count_in ends = start_of ends (length ends)

-- the place among all of a place in a row
abbrev pub place_at : List ℕ → Spot → ℕ
place_at ends spot = start_of ends spot.row + spot.at

-- a place that its row has
pub record IsInside (ends : List ℕ) (spot : Spot) : Type 0 where
  pub row : spot.row < length ends
  pub at : place_at ends spot < end_of ends spot.row

-- what lies from one place of a list up to another, and what lies in a row
abbrev pub between : {X : Type 0} → ℕ → ℕ → List X → List X
between from upto xs = take (upto - from) (drop from xs)

abbrev pub row_part : {X : Type 0} → List ℕ → ℕ → List X → List X
row_part ends row xs = between (start_of ends row) (end_of ends row) xs

-- the ends say how much the rows have up to the end of each
pub record AreEnds {R O : Type 0} (owners : R → List O) (rows : List R) (ends : List ℕ) : Type 0 where
  pub count : length ends ≡ length rows
  pub each : (i : ℕ) → i < length rows → end_of ends i ≡ length (flat_map owners (take (suc i) rows))

-- a row of 1 to 1023 blocks, each but the last with its greatest key
pub record IsRow {K V : Type 0} (blocks : List (List (K × V))) (keys : List K) : Type 0 where
  pub some : 1 ≤ length blocks
  pub few : length blocks ≤ 1023
  pub separated : IsSeparated blocks keys

-- a directory's rows, which have these blocks, are such rows, each but the last with its greatest key; and its ends are theirs
pub record IsRowed {K V R : Type 0} (blocks : R → List (List (K × V))) (d : Directory K R) : Type 0 where
  pub rows : All (λ r. IsRow (blocks r.segments) (row_keys r)) d.rows.items
  pub separated : IsSeparated (map (λ r. pairs_in (blocks r.segments)) d.rows.items) d.separators.items
  pub ends : AreEnds (row_owners blocks) d.rows.items d.ends.items

-- a directory's ends cut these blocks into such rows, which have its keys, and the greatest key of each but the last is its separator
pub record CutsInRows {K V R : Type 0} (blocks : List (List (K × V))) (d : Directory K R) : Type 0 where
  pub count : length d.ends.items ≡ length d.rows.items
  pub upto : count_in d.ends.items ≡ length blocks
  pub rising : (i : ℕ) → i < length d.ends.items → start_of d.ends.items i < end_of d.ends.items i
  pub within : (i : ℕ) → i < length d.ends.items → end_of d.ends.items i ≤ length blocks
  pub rows : (i : ℕ) (r : Row K R) → slice_get d.rows.items i ≡ Some r → IsRow (row_part d.ends.items i blocks) (row_keys r)
  pub greatest : (i : ℕ) (k : K) → slice_get d.separators.items i ≡ Some k → greatest_key (pairs_in (row_part d.ends.items i blocks)) ≡ Some k
