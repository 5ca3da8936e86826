-- what is in the slots of versions
use Rattle.std.specs.Prelude.{◌≡◌, ℕ, ◌<◌, List, [], ◌∷◌, length, map, get_or, reverse, Option, None, Some, MatchOption}
use Rattle.std.specs.Arc.{arc_value}
use Rattle.std.specs.Global.{Global, Vec}
use Rattle.std.specs.List.{All, flat_map}
use Rattle.std.specs.Mem.{manually_drop_value}
use Rattle.std.specs.Option.{option_map}
use Rattle.std.specs.declared.cmp.Ordering.{Ordering}
use Rattle.std.specs.declared.sync.Arc.{Arc}
use Rattle.sdd_domain.specs.Holding.{told_of}
use Rattle.sdd_domain.specs.declared.held.Held.{Held}
use Rattle.tree_index.specs.Tree.{Tree}
use Rattle.version_views.specs.Cuts.{IsCut, pairs_in, separators_of}
use Rattle.version_views.specs.Items.{row_owners, shared_items}
use Rattle.version_views.specs.Rows.{IsRowed}
use Rattle.version_views.specs.Views.{blocks_at}
use Rattle.version_views.specs.declared.directory.Directory.{Directory}
use Rattle.version_views.specs.declared.row.Row.{Row}
use Rattle.shared_versions.specs.Sight.{Sight}
use Rattle.shared_versions.specs.declared.node.Node.{Node}
use Rattle.shared_versions.specs.declared.node.Node.TheVariants as nodes
use Rattle.shared_versions.specs.declared.node.RowOwner.{RowOwner}
use Rattle.shared_versions.specs.declared.node.RowOwner.TheVariants as owners

-- the item that an owner reads
abbrev pub item_held : {T : Type 0} → Held T → Option T
item_held h = option_map manually_drop_value h.part.part.seen.value

-- the last owner was taken out, or there was none; the lists tell of each owner by its slot and round
abbrev pub TakesLast : {T : Type 0} → Option (Held T) → List (ℕ × ℕ) → List (ℕ × ℕ) → Type 0
TakesLast result old new = MatchOption result ((reverse old ≡ []) × (reverse new ≡ [])) (λ h. reverse old ≡ told_of h ∷ reverse new)

module _ {K V : Type 0} where
  -- the pairs of a segment that rows share
  abbrev pub segment_pairs : {Z : Type 0} → Arc (Tree K V) Z → List (K × V)
  segment_pairs a = (arc_value a).pairs

  -- the segments of an item, where it is a row
  abbrev pub item_segments : Option (Node K V) → List (Arc (Tree K V) Global)
  item_segments None = []
  item_segments (Some (nodes.Version d)) = []
  item_segments (Some (nodes.Row d)) = d.items
  item_segments (Some (nodes.Rest os)) = []

  -- their pairs
  abbrev pub item_blocks : Option (Node K V) → List (List (K × V))
  item_blocks item = map segment_pairs (item_segments item)

  -- an item is a row
  abbrev pub IsItem : Option (Node K V) → Type 0
  IsItem None = ⊥
  IsItem (Some (nodes.Version d)) = ⊥
  IsItem (Some (nodes.Row d)) = Unit {0}
  IsItem (Some (nodes.Rest os)) = ⊥

  -- the version that it is
  abbrev pub version_of : Node K V → Option (Sight K V)
  version_of (nodes.Version v) = Some v
  version_of (nodes.Row d) = None
  version_of (nodes.Rest os) = None

  -- an owner has a row
  abbrev pub OwnsItem : Held (Node K V) → Type 0
  OwnsItem h = IsItem (item_held h)

  -- the segments of rows that versions have themselves
  abbrev pub own_segments : {Z : Type 0} → List (Arc (Vec (Arc (Tree K V) Global)) Z) → List (List (Arc (Tree K V) Global))
  own_segments own = map shared_items own

  -- a version has a row, by an owner that has it or among those that it has itself
  abbrev pub OwnsRow : List (List (Arc (Tree K V) Global)) → RowOwner K V → Type 0
  OwnsRow own (owners.Item h) = OwnsItem h
  OwnsRow own (owners.Own at) = at < length own

  -- the segments of a row, and their pairs
  abbrev pub row_segments : List (List (Arc (Tree K V) Global)) → RowOwner K V → List (Arc (Tree K V) Global)
  row_segments own (owners.Item h) = item_segments (item_held h)
  row_segments own (owners.Own at) = get_or own at []

  abbrev pub row_blocks : List (List (Arc (Tree K V) Global)) → RowOwner K V → List (List (K × V))
  row_blocks own row = map segment_pairs (row_segments own row)

  -- these pairs, where the row is an item
  abbrev pub placed_blocks : RowOwner K V → List (List (K × V))
  placed_blocks (owners.Item h) = item_blocks (item_held h)
  placed_blocks (owners.Own at) = []

  -- the owner of a row, if it is an item; and those of rows, in order
  abbrev pub row_holds : RowOwner K V → List (Held (Node K V))
  row_holds (owners.Item h) = h ∷ []
  row_holds (owners.Own at) = []

  abbrev pub holds_in : List (Row K (RowOwner K V)) → List (Held (Node K V))
  holds_in rows = flat_map (row_owners row_holds) rows

  -- the pairs of a directory's segments, and those of each row that is an item
  abbrev pub blocks_of : List (List (Arc (Tree K V) Global)) → Directory K (RowOwner K V) → List (List (K × V))
  blocks_of own d = blocks_at (row_segments own) segment_pairs d

  abbrev pub rows_of : Directory K (RowOwner K V) → List (List (List (K × V)))
  rows_of d = map (λ r. placed_blocks r.segments) d.rows.items

  abbrev pub sight_of : List (List (Arc (Tree K V) Global)) → ℕ → Directory K (RowOwner K V) → Sight K V
  sight_of own s d = record { number = d.number; width = s; own = own; blocks = blocks_of own d; rows = rows_of d; owners = map told_of (holds_in d.rows.items) }

  -- it has its rows, and the segments stand in them
  pub record IsReadable (own : List (List (Arc (Tree K V) Global))) (d : Directory K (RowOwner K V)) : Type 0 where
    pub owned : All (λ r. OwnsRow own r.segments) d.rows.items
    pub rowed : IsRowed (row_blocks own) d

  -- it has its rows, whose segments are cut as they should be, and counted
  pub record IsWhole (cmp : K → K → Ordering) (own : List (List (Arc (Tree K V) Global))) (s : ℕ) (d : Directory K (RowOwner K V)) : Type 0 where
    pub owned : All (λ r. OwnsRow own r.segments) d.rows.items
    pub cut : IsCut cmp s (blocks_of own d) (separators_of (blocks_of own d))
    pub rowed : IsRowed (row_blocks own) d
    pub counted : d.length ≡ length (pairs_in (blocks_of own d))

  -- a version gives its owners up from the last one on
  abbrev pub held_by : Node K V → List (ℕ × ℕ)
  held_by (nodes.Version v) = reverse v.owners
  held_by (nodes.Row d) = []
  held_by (nodes.Rest os) = reverse os
