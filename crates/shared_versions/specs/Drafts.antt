-- versions that aren't placed yet, each of an older one
use Rattle.std.specs.Prelude.{◌≡◌, ℕ, ◌+◌, ◌*◌, ◌/◌, ◌≤◌, List, [], length, map, get_or, sum_by, vec_capacity}
use Rattle.std.specs.Arc.{arc_value}
use Rattle.std.specs.Global.{Global}
use Rattle.std.specs.declared.sync.Arc.{Arc}
use Rattle.std.specs.List.{flat_map}
use Rattle.std.specs.declared.cmp.Ordering.{Ordering}
use Rattle.tree_index.specs.Tree.{Tree}
use Rattle.version_views.specs.Cuts.{IsCut, pairs_in, separators_of}
use Rattle.version_views.specs.Items.{row_keys, row_owners}
use Rattle.version_views.specs.Rows.{IsRowed}
use Rattle.version_views.specs.declared.directory.Directory.{Directory}
use Rattle.version_views.specs.declared.row.Row.{Row}
use Rattle.version_drafts.specs.Shelves.{made_on_all, shelf_blocks}
use Rattle.version_drafts.specs.declared.shelves.Shelf.{Shelf}
use Rattle.shared_versions.specs.Nodes.{blocks_of, rows_of, segment_pairs}
use Rattle.shared_versions.specs.Sight.{Sight}
use Rattle.shared_versions.specs.declared.node.RowOwner.{RowOwner}
use Rattle.shared_versions.specs.declared.planned.Planned.{Planned}
use Rattle.shared_versions.specs.declared.planned.Planned.TheVariants as planned
use Rattle.shared_versions.specs.declared.room.Room.{Room}

-- a version to be placed, of segments of at most s pairs: a directory, of whose rows some are those of an older version
pub record Plan (K V : Type 0) (s : ℕ) : Type 0 where
  pub shelves : Directory K (Planned K V)

module _ {K V : Type 0} where
  -- a version without segments
  abbrev pub nothing : Sight K V
  nothing = record { number = 0; width = 0; own = []; blocks = []; rows = []; owners = [] }

  -- the list of a version
  abbrev pub list_of : Sight K V → List (K × V)
  list_of v = pairs_in v.blocks

  -- the pairs of a planned row's segments, where the older version's rows that are items have these; and those of a row that is to be an item
  abbrev pub planned_blocks : List (List (List (K × V))) → Planned K V → List (List (K × V))
  planned_blocks rows (planned.Older number) = get_or rows number []
  planned_blocks rows (planned.New segments) = map segment_pairs segments.items
  planned_blocks rows (planned.Own segments) = map segment_pairs (arc_value segments).items

  abbrev pub planned_placed : List (List (List (K × V))) → Planned K V → List (List (K × V))
  planned_placed rows (planned.Older number) = get_or rows number []
  planned_placed rows (planned.New segments) = map segment_pairs segments.items
  planned_placed rows (planned.Own segments) = []

  -- how many slots a planned row takes, and how many all rows
  abbrev pub slots_on : Planned K V → ℕ
  slots_on (planned.Older number) = 0
  slots_on (planned.New segments) = 1
  slots_on (planned.Own segments) = 0

  abbrev pub slots_on_all : List (Row K (Planned K V)) → ℕ
  slots_on_all rows = sum_by (λ r. slots_on r.segments) rows

  -- its number, and how many slots it takes: one for each row that is placed, and one for its directory
  abbrev pub number_of : {s : ℕ} → Plan K V s → ℕ
  number_of p = p.shelves.number

  abbrev pub slots_for : {s : ℕ} → Plan K V s → ℕ
  slots_for p = slots_on_all p.shelves.rows.items + 1

  -- the pairs of the segments of a version to be placed, and its list
  abbrev pub blocks_planned : {s : ℕ} → Sight K V → Plan K V s → List (List (K × V))
  blocks_planned old p = flat_map (row_owners (planned_blocks old.rows)) p.shelves.rows.items

  abbrev pub list_planned : {s : ℕ} → Sight K V → Plan K V s → List (K × V)
  list_planned old p = pairs_in (blocks_planned old p)

  -- its segments are cut as they should be and stand in rows, and its pairs are counted
  pub record IsPlaceable (cmp : K → K → Ordering) (s : ℕ) (old : Sight K V) (p : Plan K V s) : Type 0 where
    pub cut : IsCut cmp s (blocks_planned old p) (separators_of (blocks_planned old p))
    pub rowed : IsRowed (planned_blocks old.rows) p.shelves
    pub counted : p.shelves.length ≡ length (list_planned old p)

  -- upon an older version, it is planned as these rows of parts say, and takes no more slots than they do
  pub record IsPlannedAs {s : ℕ} (own : List (List (Arc (Tree K V) Global))) (old : Directory K (RowOwner K V)) (shelves : Directory K (Shelf K V)) (p : Plan K V s) : Type 0 where
    pub number : p.shelves.number ≡ shelves.number
    pub count : p.shelves.length ≡ shelves.length
    pub blocks : map (λ r. planned_blocks (rows_of old) r.segments) p.shelves.rows.items ≡ map (λ r. shelf_blocks (blocks_of own old) r.segments) shelves.rows.items
    pub keys : map row_keys p.shelves.rows.items ≡ map row_keys shelves.rows.items
    pub separators : p.shelves.separators.items ≡ shelves.separators.items
    pub ends : p.shelves.ends.items ≡ shelves.ends.items
    pub slots : slots_for p ≤ made_on_all shelves.rows.items + 1

-- so many slots are counted, and they are few, where segments have at most s pairs
pub record IsDrafted {K V : Type 0} (s : ℕ) (shelves : Directory K (Planned K V)) (slots : ℕ) : Type 0 where
  pub few : slots ≤ 2 * (shelves.length / (s + 1)) + 2
  pub counted : slots ≡ slots_on_all shelves.rows.items + 1

-- nothing is in it
pub record IsUnused {K V : Type 0} (room : Room K V) : Type 0 where
  pub none_granted : room.granted.items ≡ []
  pub no_rows : room.rows.items ≡ []
  pub none_own : room.own.items ≡ []
  pub none_to_keep : room.to_keep.items ≡ []
  pub no_kept : room.kept.items ≡ []

-- and there is room for so many rows
pub record HasRoomFor {K V : Type 0} (count : ℕ) (room : Room K V) : Type 0 where
  pub unused : IsUnused room
  pub granted : count ≤ vec_capacity room.granted
  pub rows : count ≤ vec_capacity room.rows
  pub own : count ≤ vec_capacity room.own
  pub to_keep : count ≤ vec_capacity room.to_keep
  pub kept : count ≤ vec_capacity room.kept
