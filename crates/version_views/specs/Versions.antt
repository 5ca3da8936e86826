-- a version: a directory whose segments, in order, are its list
use Rattle.std.specs.Prelude.{◌≡◌, ℕ, List, [], map, length, Option, None, Some}
use Rattle.std.specs.declared.cmp.Ordering.{Ordering}
use Rattle.std.specs.List.{All}
use Rattle.version_views.specs.Cuts.{IsCut, pairs_in, separators_of}
use Rattle.version_views.specs.Items.{slots_in, slots_of}
use Rattle.version_views.specs.Rows.{IsRowed}
use Rattle.sdd_table.specs.Groups.{GroupState}
use Rattle.sdd_table.specs.declared.groups.Group.{Group}
use Rattle.version_views.specs.declared.directory.Directory.{Directory}
use Rattle.version_views.specs.declared.item.Item.{Item}
use Rattle.version_views.specs.declared.item.Item.TheVariants as items

module _ {K V : Type 0} {s : ℕ} where
  -- the pairs of a segment
  abbrev pub segment_pairs : Option (Item K V s) → List (K × V)
  segment_pairs None = []
  segment_pairs (Some (items.Directory d)) = []
  segment_pairs (Some (items.Segment t)) = t.pairs

  abbrev pub IsSegment : Option (Item K V s) → Type 0
  IsSegment None = ⊥
  IsSegment (Some (items.Directory d)) = ⊥
  IsSegment (Some (items.Segment t)) = Unit {0}

  -- the segments of a row, where groups have these rows, and these items are in the slots; those of a directory; and its list
  abbrev pub blocks_in : List GroupState → (ℕ → Option (Item K V s)) → Group → List (List (K × V))
  blocks_in gs at g = map (λ i. segment_pairs (at i)) (slots_in gs g)

  abbrev pub blocks_of : List GroupState → (ℕ → Option (Item K V s)) → Directory K Group → List (List (K × V))
  blocks_of gs at d = map (λ i. segment_pairs (at i)) (slots_of gs d)

  abbrev pub list_of : List GroupState → (ℕ → Option (Item K V s)) → Directory K Group → List (K × V)
  list_of gs at d = pairs_in (blocks_of gs at d)

  -- the directory is a version: its slots have segments, which are cut as they should be and stand in rows
  pub record IsVersion (cmp : K → K → Ordering) (gs : List GroupState) (at : ℕ → Option (Item K V s)) (d : Directory K Group) : Type 0 where
    pub segments : All (λ i. IsSegment (at i)) (slots_of gs d)
    pub cut : IsCut cmp s (blocks_of gs at d) (separators_of (blocks_of gs at d))
    pub rowed : IsRowed (blocks_in gs at) d
    pub counted : d.length ≡ length (list_of gs at d)
