-- versions that aren't placed yet
use Rattle.std.specs.Prelude.{◌≡◌, ℕ, ◌+◌, ◌*◌, ◌/◌, ◌≤◌, List, length}
use Rattle.std.specs.List.{All}
use Rattle.std.specs.declared.cmp.Ordering.{Ordering}
use Rattle.version_views.specs.Cuts.{IsCut, pairs_in, separators_of}
use Rattle.version_views.specs.Rows.{IsRowed}
use Rattle.version_views.specs.declared.directory.Directory.{Directory}
use Rattle.version_drafts.specs.Shelves.{LiesOn, made_on_all, shelf_blocks, shelved_blocks}
use Rattle.version_drafts.specs.declared.shelves.Shelf.{Shelf}

-- a version to be placed, of segments of at most s pairs: a directory, of whose rows some are those of an older version, and the
-- others have parts, of which some are stretches of it
pub record Plan (K V : Type 0) (s : ℕ) : Type 0 where
  pub shelves : Directory K (Shelf K V)

module _ {K V : Type 0} {s : ℕ} where
  -- its number, and how many slots it takes: one for each new segment, and one for its directory
  abbrev pub number_of : Plan K V s → ℕ
  number_of p = p.shelves.number

  abbrev pub slots_for : Plan K V s → ℕ
  slots_for p = made_on_all p.shelves.rows.items + 1

  -- the pairs of its segments, and its list, where the older version has these
  abbrev pub blocks_planned : List (List (K × V)) → Plan K V s → List (List (K × V))
  blocks_planned blocks p = shelved_blocks blocks p.shelves.rows.items

  abbrev pub list_planned : List (List (K × V)) → Plan K V s → List (K × V)
  list_planned blocks p = pairs_in (blocks_planned blocks p)

  -- its segments are cut as they should be and stand in rows, its pairs are counted, and the older version, whose rows have these
  -- ends, has what it takes over
  pub record IsPlanned (cmp : K → K → Ordering) (blocks : List (List (K × V))) (ends : List ℕ) (p : Plan K V s) : Type 0 where
    pub cut : IsCut cmp s (blocks_planned blocks p) (separators_of (blocks_planned blocks p))
    pub rowed : IsRowed (shelf_blocks blocks) p.shelves
    pub counted : p.shelves.length ≡ length (list_planned blocks p)
    pub there : All (λ r. LiesOn ends r.segments) p.shelves.rows.items

-- so many slots are counted, and they are few, where segments have at most s pairs
pub record IsDrafted {K V : Type 0} (s : ℕ) (shelves : Directory K (Shelf K V)) (slots : ℕ) : Type 0 where
  pub few : slots ≤ 2 * (shelves.length / (s + 1)) + 2
  pub counted : slots ≡ made_on_all shelves.rows.items + 1
