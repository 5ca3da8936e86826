-- owners of what is in a place
use Rattle.std.specs.List.{All}
use Rattle.std.specs.Mem.{manually_drop_value}
use Rattle.std.specs.Option.{option_map}
use Rattle.std.specs.Prelude.{◌≡◌, ◌≢◌, ℕ, ◌<◌, ◌≤◌, ◌++◌, List, [], length, map, set, get_or, Option, None, Some}
use Rattle.std.specs.Arc.{arc_value}
use Rattle.std.specs.Global.{Global}
use Rattle.std.specs.declared.sync.Arc.{Arc}
use Rattle.atomic_table.specs.Seated.{TableId}
use Rattle.sdd_domain.specs.CellSteps.{HasStored}
use Rattle.sdd_domain.specs.Comparing.{owner_code}
use Rattle.sdd_domain.specs.Sharing.{kept_in}
use Rattle.sdd_domain.specs.Tokens.{home_of, misses_of, nest_in, number_of, own_of}
use Rattle.sdd_domain.specs.declared.local.Local.{Local}
use Rattle.sdd_domain.specs.declared.shared.Shared.{Shared}
use Rattle.tree_index.specs.Tree.{Tree}
use Rattle.version_views.specs.Items.{row_keys}
use Rattle.version_views.specs.declared.row.Row.{Row}
use Rattle.shared_versions.specs.Drafts.{Plan, blocks_planned, nothing, planned_blocks, planned_placed}
use Rattle.shared_versions.specs.Nodes.{IsItem, item_blocks, placed_blocks, row_blocks, segment_pairs}
use Rattle.shared_versions.specs.Readers.{HasWidth, version_in}
use Rattle.shared_versions.specs.Sight.{Sight}
use Rattle.shared_versions.specs.declared.granting.Granted.{Granted}
use Rattle.shared_versions.specs.declared.granting.Granted.TheVariants as granted
use Rattle.shared_versions.specs.declared.keeping.ToKeep.{ToKeep}
use Rattle.shared_versions.specs.declared.keeping.ToKeep.TheVariants as to_keep
use Rattle.shared_versions.specs.declared.node.Node.{Node}
use Rattle.shared_versions.specs.declared.node.RowOwner.{RowOwner}
use Rattle.shared_versions.specs.declared.planned.Planned.{Planned}
use Rattle.shared_versions.specs.declared.planned.Planned.TheVariants as planned

-- the item that an owner reads
abbrev pub item_owned : {T : Type 0} → Shared T → Option T
item_owned s = option_map manually_drop_value s.part.part.seen.value

-- the owner is of this place
abbrev pub IsOwnedIn : {T : Type 0} → TableId → Shared T → Type 0
IsOwnedIn place s = kept_in s ≡ place

-- its one step on a cell put this owner into that cell, without a tag
abbrev pub HasPut : {T : Type 0} → Local T → ℕ → Shared T → Local T → Type 0
HasPut old cell s new = (w : ℕ) × HasStored old cell w 0 (owner_code (Some s)) new

-- the same participant of the same place, with the same guards open; its misses may differ
abbrev pub IsStillButMisses : {T : Type 0} → Local T → Local T → Type 0
IsStillButMisses old new = (home_of new ≡ home_of old) × (number_of new ≡ number_of old) × (nest_in new ≡ nest_in old) × ((own_of new).nesting ≡ (own_of old).nesting)

-- and it has as many misses
abbrev pub IsStill : {T : Type 0} → Local T → Local T → Type 0
IsStill old new = (home_of new ≡ home_of old) × (number_of new ≡ number_of old) × (nest_in new ≡ nest_in old) × ((own_of new).nesting ≡ (own_of old).nesting) × (misses_of new ≡ misses_of old)

module _ {K V : Type 0} where
  -- the version that an owner owns
  abbrev pub version_owned : Shared (Node K V) → Option (Sight K V)
  version_owned s = version_in (item_owned s)

  -- its one step on a cell put an owner of this version into that cell of its place, without a tag
  abbrev pub HasPublished : Local (Node K V) → ℕ → Sight K V → Local (Node K V) → Type 0
  HasPublished old cell version new = (s : Shared (Node K V)) × (version_owned s ≡ Some version) × HasPut old cell s new

  -- the pairs of the segments of the row that it owns
  abbrev pub blocks_owned : Shared (Node K V) → List (List (K × V))
  blocks_owned s = item_blocks (item_owned s)

  -- it owns a row in this place
  abbrev pub IsRowOf : TableId → Shared (Node K V) → Type 0
  IsRowOf place s = IsOwnedIn place s × IsItem (item_owned s)

  -- the version that is there, or the empty one
  abbrev pub sight_in : Option (Sight K V) → Sight K V
  sight_in None = nothing
  sight_in (Some v) = v

  -- an owner that is kept owns a row, with these pairs
  abbrev pub IsKeptRow : TableId → Option (Shared (Node K V)) → Type 0
  IsKeptRow place None = Unit {0}
  IsKeptRow place (Some s) = IsRowOf place s

  abbrev pub blocks_kept : Option (Shared (Node K V)) → List (List (K × V))
  blocks_kept None = []
  blocks_kept (Some s) = blocks_owned s

  -- what is known of an older version by the rows that are kept
  abbrev pub sight_kept : List (Option (Shared (Node K V))) → Sight K V
  sight_kept kept = record { number = 0; width = 0; own = []; blocks = []; rows = map blocks_kept kept; owners = [] }

  -- a row that is taken over is one of those, which have these pairs
  abbrev pub IsThere : List (List (List (K × V))) → Planned K V → Type 0
  IsThere rows (planned.Older number) = 1 ≤ length (get_or rows number [])
  IsThere rows (planned.New segments) = Unit {0}
  IsThere rows (planned.Own segments) = Unit {0}

  -- the number of the row that is taken over
  abbrev pub taken_from : Planned K V → Option ℕ
  taken_from (planned.Older number) = Some number
  taken_from (planned.New segments) = None
  taken_from (planned.Own segments) = None

  -- an owner that is granted owns a row in this place, if it is an item
  abbrev pub IsGrantedIn : TableId → Granted K V → Type 0
  IsGrantedIn place (granted.Item s) = IsRowOf place s
  IsGrantedIn place (granted.Own a) = Unit {0}

  -- the pairs of a row's segments, and the same where it is an item: as planned upon these rows, as granted, and as a version has it
  abbrev pub planned_face : List (List (List (K × V))) → Planned K V → List (List (K × V)) × List (List (K × V))
  planned_face rows p = (planned_blocks rows p, planned_placed rows p)

  abbrev pub granted_face : Granted K V → List (List (K × V)) × List (List (K × V))
  granted_face (granted.Item s) = (blocks_owned s, blocks_owned s)
  granted_face (granted.Own a) = (map segment_pairs (arc_value a).items, [])

  abbrev pub owner_face : List (List (Arc (Tree K V) Global)) → RowOwner K V → List (List (K × V)) × List (List (K × V))
  owner_face own r = (row_blocks own r, placed_blocks r)

  -- an owner to be kept that is new owns a row in this place
  abbrev pub IsNewIn : TableId → ToKeep K V → Type 0
  IsNewIn place (to_keep.New s) = IsRowOf place s
  IsNewIn place (to_keep.Old number) = Unit {0}
  IsNewIn place to_keep.Nothing = Unit {0}

  -- one that is kept already is one of this many
  abbrev pub IsWithinKept : ℕ → ToKeep K V → Type 0
  IsWithinKept n (to_keep.New s) = Unit {0}
  IsWithinKept n (to_keep.Old number) = number < n
  IsWithinKept n to_keep.Nothing = Unit {0}

  abbrev pub IsToKeep : TableId → ℕ → ToKeep K V → Type 0
  IsToKeep place n t = IsNewIn place t × IsWithinKept n t

  -- the pairs of its row, where those that are kept have these; none where nothing is kept
  abbrev pub blocks_to_keep : List (List (List (K × V))) → ToKeep K V → List (List (K × V))
  blocks_to_keep rows (to_keep.New s) = blocks_owned s
  blocks_to_keep rows (to_keep.Old number) = get_or rows number []
  blocks_to_keep rows to_keep.Nothing = []

  -- the place that it is moved from
  abbrev pub moved_from : ToKeep K V → Option ℕ
  moved_from (to_keep.New s) = None
  moved_from (to_keep.Old number) = Some number
  moved_from to_keep.Nothing = None

  -- the owner, and what is left of those that are kept once it was moved
  abbrev pub owner_of : List (Option (Shared (Node K V))) → ToKeep K V → Option (Shared (Node K V))
  owner_of kept (to_keep.New s) = Some s
  owner_of kept (to_keep.Old number) = get_or kept number None
  owner_of kept to_keep.Nothing = None

  abbrev pub without : ToKeep K V → List (Option (Shared (Node K V))) → List (Option (Shared (Node K V)))
  without (to_keep.New s) kept = kept
  without (to_keep.Old number) kept = set kept number None
  without to_keep.Nothing kept = kept

  -- it is the same owner in both
  abbrev pub IsSameIn : (old new : List (Option (Shared (Node K V)))) → ToKeep K V → Type 0
  IsSameIn old new t = owner_of new t ≡ owner_of old t

-- what is seen of a row: of its owner, as told, and its keys
abbrev pub row_face : {K X F : Type 0} → (X → F) → Row K X → F × List K
row_face face r = (face r.segments, row_keys r)

-- a list goes on where another one ends
abbrev pub Continues : {X : Type 0} → List X → List X → Type 0
Continues old new = (more : List _) × (new ≡ old ++ more)

-- two rows aren't from one place
abbrev pub AreApart : Option ℕ → Option ℕ → Type 0
AreApart None other = Unit {0}
AreApart (Some at) other = other ≢ Some at

-- what is seen of a present version: its place, and the version
pub record Placed (K V : Type 0) : Type 0 where
  pub place : TableId
  pub version : Sight K V

abbrev pub placed_of : {K V : Type 0} → Shared (Node K V) → Placed K V
placed_of s = record { place = kept_in s; version = sight_in (version_owned s) }

-- the owner owns a version of segments of at most s pairs, and these own its rows that are items, in order, in the same place
pub record IsPresent {K V : Type 0} (s : ℕ) (owner : Shared (Node K V)) (kept : List (Option (Shared (Node K V)))) : Type 0 where
  pub width : HasWidth s (version_owned owner)
  pub blocks : map blocks_kept kept ≡ (sight_in (version_owned owner)).rows
  pub rows : All (IsKeptRow (kept_in owner)) kept

-- the version is the planned one, of segments of at most s pairs
pub record IsPlanned {K V : Type 0} (s : ℕ) (old : Sight K V) (plan : Plan K V s) (new : Sight K V) : Type 0 where
  pub number : new.number ≡ plan.shelves.number
  pub width : new.width ≡ s
  pub blocks : new.blocks ≡ blocks_planned old plan
