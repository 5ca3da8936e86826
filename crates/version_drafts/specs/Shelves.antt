-- rows of a version that is being built
use Rattle.std.specs.Prelude.{◌≡◌, ℕ, ◌+◌, ◌≤◌, ◌<◌, List, [], ◌∷◌, ◌++◌, Some, length, map, sum_by, vec_capacity, vec_len}
use Rattle.std.specs.List.{All, flat_map}
use Rattle.version_views.specs.Cuts.{greatest_key, pairs_in}
use Rattle.version_views.specs.Items.{row_keys, row_owners}
use Rattle.version_views.specs.Rows.{AreEnds, IsRow, IsRowed, between, end_of, start_of}
use Rattle.version_views.specs.declared.directory.Directory.{Directory}
use Rattle.version_views.specs.declared.row.Row.{Row}
use Rattle.version_drafts.specs.Parts.{blocks_of_parts, made_in}
use Rattle.version_drafts.specs.declared.segments.Part.{Part}
use Rattle.version_drafts.specs.declared.segments.Part.TheVariants as parts
use Rattle.version_drafts.specs.declared.shelves.Shelf.{Shelf}
use Rattle.version_drafts.specs.declared.shelves.Shelf.TheVariants as shelves
use Rattle.version_drafts.specs.declared.shelving.Shelving.{Shelving}

-- a stretch has a segment, and lies in one row of the older version, whose rows have these ends
pub record LiesInRow (ends : List ℕ) (from upto : ℕ) : Type 0 where
  pub row : ℕ
  pub inside : row < length ends
  pub begins : start_of ends row ≤ from
  pub some : from < upto
  pub stops : upto ≤ end_of ends row

-- a place lies in a row
pub record HasPlace (ends : List ℕ) (row place : ℕ) : Type 0 where
  pub inside : row < length ends
  pub begins : start_of ends row ≤ place
  pub stops : place < end_of ends row

-- a stretch is a whole row
pub record IsWholeRow (ends : List ℕ) (row from upto : ℕ) : Type 0 where
  pub inside : row < length ends
  pub begins : from ≡ start_of ends row
  pub stops : upto ≡ end_of ends row

-- a stretch begins with a whole row
pub record BeginsRow (ends : List ℕ) (row from upto : ℕ) : Type 0 where
  pub inside : row < length ends
  pub begins : from ≡ start_of ends row
  pub stops : end_of ends row ≤ upto

module _ {K V : Type 0} where
  -- the blocks of a row, where the older version has these; and those of all rows, in order
  abbrev pub shelf_blocks : List (List (K × V)) → Shelf K V → List (List (K × V))
  shelf_blocks blocks (shelves.Older row from upto) = between from upto blocks
  shelf_blocks blocks (shelves.New ps) = blocks_of_parts blocks ps.items

  abbrev pub shelved_blocks : List (List (K × V)) → List (Row K (Shelf K V)) → List (List (K × V))
  shelved_blocks blocks rows = flat_map (row_owners (shelf_blocks blocks)) rows

  -- how many trees were made for a row, and for all
  abbrev pub made_on : Shelf K V → ℕ
  made_on (shelves.Older row from upto) = 0
  made_on (shelves.New ps) = made_in ps.items

  abbrev pub made_on_all : List (Row K (Shelf K V)) → ℕ
  made_on_all rows = sum_by (λ r. made_on r.segments) rows

  -- no stretch crosses a row of the older version, which has what is taken over
  abbrev pub LiesInside : List ℕ → Part K V → Type 0
  LiesInside ends (parts.Taken from upto) = LiesInRow ends from upto
  LiesInside ends (parts.Made tree) = Unit {0}

  abbrev pub LiesOn : List ℕ → Shelf K V → Type 0
  LiesOn ends (shelves.Older row from upto) = IsWholeRow ends row from upto
  LiesOn ends (shelves.New ps) = All (LiesInside ends) ps.items

  -- how many trees were given to rows that are being built
  abbrev pub trees_given : Shelving K V → ℕ
  trees_given c = made_on_all c.rows.items + made_in c.parts.items

-- rows that are being built
module _ {K V : Type 0} (blocks : List (List (K × V))) where
  -- the blocks of all that was given
  abbrev pub blocks_given : Shelving K V → List (List (K × V))
  blocks_given c = shelved_blocks blocks c.rows.items ++ blocks_of_parts blocks c.parts.items

  -- the lists of rows
  abbrev pub row_lists : List (Row K (Shelf K V)) → List (List (K × V))
  row_lists rows = map (λ r. pairs_in (shelf_blocks blocks r.segments)) rows

  -- rows that are closed, with their greatest keys and ends; and the parts of an open one, with the greatest keys of its segments
  pub record IsShelving (older : List ℕ) (c : Shelving K V) : Type 0 where
    pub rows : All (λ r. IsRow (shelf_blocks blocks r.segments) (row_keys r)) c.rows.items
    pub there : All (λ r. LiesOn older r.segments) c.rows.items
    pub greatest : map Some c.greatest.items ≡ map greatest_key (row_lists c.rows.items)
    pub ends : AreEnds (row_owners (shelf_blocks blocks)) c.rows.items c.ends.items
    pub count : c.count ≡ length (shelved_blocks blocks c.rows.items)
    pub keys : map Some c.keys.items ≡ map greatest_key (blocks_of_parts blocks c.parts.items)
    pub inside : All (LiesInside older) c.parts.items
    pub few : length c.keys.items ≤ 480

  -- more blocks were given, of which so many are trees that were made
  pub record TakesMore (ends : List ℕ) (more : List (List (K × V))) (made : ℕ) (c c' : Shelving K V) : Type 0 where
    pub whole : IsShelving ends c'
    pub given : blocks_given c' ≡ blocks_given c ++ more
    pub trees : trees_given c' ≡ trees_given c + made

  -- whole rows were given, from one up to the next, which begins at or before a place
  pub record TakesRows (ends : List ℕ) (first next upto : ℕ) (c c' : Shelving K V) : Type 0 where
    pub inside : next ≤ length ends
    pub more : start_of ends first < start_of ends next
    pub within : start_of ends next ≤ upto
    pub taken : TakesMore ends (between (start_of ends first) (start_of ends next) blocks) 0 c c'

  -- they are the rows of this directory
  pub record IsShelved (ends : List ℕ) (c : Shelving K V) (d : Directory K (Shelf K V)) : Type 0 where
    pub given : shelved_blocks blocks d.rows.items ≡ blocks_given c
    pub trees : made_on_all d.rows.items ≡ trees_given c
    pub rowed : IsRowed (shelf_blocks blocks) d
    pub there : All (λ r. LiesOn ends r.segments) d.rows.items

-- there is room for so many rows more
pub record HasRoom {K V : Type 0} (more : ℕ) (c : Shelving K V) : Type 0 where
  pub rows : vec_len c.rows + more ≤ vec_capacity c.rows
  pub greatest : vec_len c.greatest + more ≤ vec_capacity c.greatest
  pub ends : vec_len c.ends + more ≤ vec_capacity c.ends

-- a row more is closed
pub record ClosesRow {K V : Type 0} (row : Row K (Shelf K V)) (last : K) (size : ℕ) (c c' : Shelving K V) : Type 0 where
  pub rows : c'.rows.items ≡ c.rows.items ++ row ∷ []
  pub greatest : c'.greatest.items ≡ c.greatest.items ++ last ∷ []
  pub count : c'.count ≡ c.count + size
  pub ends : c'.ends.items ≡ c.ends.items ++ c'.count ∷ []
  pub parts : c'.parts.items ≡ c.parts.items
  pub keys : c'.keys.items ≡ c.keys.items
