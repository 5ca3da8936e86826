-- the versions that a store keeps in a place: the present one, which a root names, and those that readers have open
use Rattle.std.specs.Prelude.{◌≡◌, ◌≢◌, ℕ, ◌+◌, ◌<◌, ◌≤◌, ◌^◌, List, [], ◌∷◌, Option, None, Some, get_or, length, map, replicate, slice_get, ◌⊎◌}
use Rattle.std.specs.Option.{option_map}
use Rattle.std.specs.declared.cmp.Ordering.{Ordering}
use Rattle.sdd_world.specs.Counting.{Counted}
use Rattle.sdd_world.specs.Holding.{SharedIn}
use Rattle.sdd_world.specs.Passing.{IsPlain, IsQuiet, slot_kept}
use Rattle.sdd_world.specs.Frame.{IsLive}
use Rattle.sdd_world.specs.Place.{IsPlace}
use Rattle.sdd_world.specs.State.{State, cell_at, in_use, local_at, value_at}
use Rattle.sdd_world.specs.Tokens.{loaded_slot, guard_participant}
use Rattle.sdd_world.specs.declared.status.Cell.TheVariants as cell
use Rattle.sdd_world.specs.declared.tag.Tag.{Tag}
use Rattle.sdd_world.specs.declared.tag.Tag.TheVariants as tag
use Rattle.version_views.specs.Items.{held_by}
use Rattle.local_versions.specs.Placing.{HasVersion, IsLevelled}
use Rattle.local_versions.specs.Staying.{IsSeen}
use Rattle.version_views.specs.Sizes.{room_for}
use Rattle.version_views.specs.Versions.{list_of}
use Rattle.sdd_world.specs.declared.groups.Group.{Group}
use Rattle.version_views.specs.Writes.{after_writes}
use Rattle.version_views.specs.declared.directory.Directory.{Directory}
use Rattle.version_views.specs.declared.item.Item.{Item}
use Rattle.version_views.specs.declared.item.Item.TheVariants as items
use Rattle.local_versions.specs.declared.store.readers.Opened.{Opened}
use Rattle.version_views.specs.declared.write.Write.{Write}

-- a list, and its number
pub record Version (K V : Type 0) : Type 0 where
  pub number : ℕ
  pub pairs : List (K × V)

-- the version that writes leave of one, under the next number
abbrev pub next_version : {K V : Type 0} → (K → K → Ordering) → List (Write K V) → Version K V → Version K V
next_version cmp writes v = record { number = v.number + 1; pairs = after_writes cmp writes v.pairs }

-- the present version; at each place the one that its reader has; how many slots there are and are in use; how often the
-- epoch was raised
pub record Store (K V : Type 0) : Type 0 where
  pub present : Version K V
  pub readers : List (Option (Version K V))
  pub slots : ℕ
  pub used : ℕ
  pub raises : ℕ

-- a store of this version, with no reader at any place
abbrev pub fresh_store : {K V : Type 0} → Version K V → (readers slots used : ℕ) → Store K V
fresh_store version readers slots used = record { present = version; readers = replicate readers None; slots = slots; used = used; raises = 0 }

-- the version is the present one, or a reader's
abbrev pub IsKeptHere : {K V : Type 0} → Version K V → Store K V → Type 0
IsKeptHere v s = (v ≡ s.present) ⊎ (place : ℕ) × (slice_get s.readers place ≡ Some (Some v))

-- fewer slots are free than segments of up to s pairs and a directory take at most, where they hold these pairs
abbrev pub LacksRoom : {K V : Type 0} → (s : ℕ) → List (K × V) → Store K V → Type 0
LacksRoom s pairs store = store.slots < store.used + room_for s (length pairs)

-- 1 for a place without a reader
abbrev pub gap : {X : Type 0} → Option X → ℕ
gap None = 1
gap (Some x) = 0

abbrev pub no_version : {K V : Type 0} → Version K V
no_version = record { number = 0; pairs = [] }

module _ {K V : Type 0} {s : ℕ} where
  -- the version of a directory
  abbrev pub directory_version : State (Item K V s) → Directory K Group → Version K V
  directory_version w d = record { number = d.number; pairs = list_of w.groups (value_at w) d }

  abbrev pub version_of : State (Item K V s) → Option (Item K V s) → Version K V
  version_of w None = no_version
  version_of w (Some (items.Directory d)) = directory_version w d
  version_of w (Some (items.Segment t)) = no_version

  -- the version in a slot
  abbrev pub version_in : State (Item K V s) → Option ℕ → Version K V
  version_in w None = no_version
  version_in w (Some i) = version_of w (value_at w i)

  abbrev pub read_by : State (Item K V s) → Opened K V s → Version K V
  read_by w o = version_in w (loaded_slot o.root)

  -- the reader of a place has this version open
  abbrev pub HasOpen : State (Item K V s) → List (Option (Opened K V s)) → ℕ → Version K V → Type 0
  HasOpen w readers place version = slice_get (map (option_map (read_by w)) readers) place ≡ Some (Some version)

  -- the version that a cell names is this directory, and has an owner
  abbrev pub IsNamedBy : State (Item K V s) → ℕ → Directory K Group → Type 0
  IsNamedBy w c d = (i : ℕ) (tag : Tag) → cell_at w c ≡ cell.OfShared (Some i) tag → IsLive w i × (value_at w i ≡ Some (items.Directory d))

  -- what a place, the cell of its root, and the guards of readers are
  abbrev pub store_of : State (Item K V s) → ℕ → List (Option (Opened K V s)) → Store K V
  store_of w root places = record {
    present = version_in w (slot_kept (cell_at w root));
    readers = map (option_map (read_by w)) places;
    slots = length w.states;
    used = in_use w;
    raises = w.count;
  }

  module _ (cmp : K → K → Ordering) where
    -- the one guard of participant p, under which it has a version that stays while the guard is open
    pub record HasVersionOpen (w : State (Item K V s)) (p : ℕ) (o : Opened K V s) : Type 0 where
      pub once : (local_at w p).nesting ≡ 1
      pub guard : guard_participant o.guard ≡ p
      pub slot : ℕ
      pub named : loaded_slot o.root ≡ Some slot
      pub number : ℕ
      pub pairs : List (K × V)
      pub version : HasVersion cmp w slot number pairs
      pub seen : IsSeen w p slot version.directory

    -- participant p has a reader, or no guard
    abbrev pub IsReader : State (Item K V s) → ℕ → Option (Opened K V s) → Type 0
    IsReader w p None = (local_at w p).nesting ≡ 0
    IsReader w p (Some o) = HasVersionOpen w p o

    -- there are so few slots that owners can be counted; the root's version is there, and the readers'; nothing else has
    -- an owner outside; only the writer, which comes behind the readers, has anything that waits
    pub record IsStore (w : State (Item K V s)) (root : ℕ) (places : List (Option (Opened K V s))) : Type 0 where
      pub place : IsPlace w
      pub participants : length w.participants ≡ length places + 1
      pub slots : length w.states ≤ 2 ^ 30
      pub cells : length w.cells ≡ 1
      pub counted : Counted held_by (SharedIn root ∷ []) w
      pub plain : IsPlain w
      pub levelled : IsLevelled w
      pub slot : ℕ
      pub named : cell_at w root ≡ cell.OfShared (Some slot) tag.None
      pub number : ℕ
      pub pairs : List (K × V)
      pub version : HasVersion cmp w slot number pairs
      pub readers : (p : ℕ) → IsReader w p (get_or places p None)
      pub quiet : (p : ℕ) → p ≢ length places → IsQuiet w p
