-- what placing a version makes of a place
use Rattle.std.specs.Prelude.{◌≡◌, ℕ, ◌+◌, ◌<◌, ◌≤◌, ◌∷◌, ◌++◌, List, [], map, length, replicate, reverse, sum_by, Option, None, Some, ◌-◌}
use Rattle.std.specs.declared.cmp.Ordering.{Ordering}
use Rattle.std.specs.List.{All}
use Rattle.leaf_array.specs.Pairs.{IsAscending}
use Rattle.sdd_world.specs.Counting.{Counted, tally}
use Rattle.sdd_world.specs.Frame.{Frame, IsLive}
use Rattle.sdd_world.specs.Groups.{GroupState, GroupsGrow, IsOut, count_at, free_names, no_group, row_at}
use Rattle.sdd_world.specs.Holding.{Hold, OwnerGroup, SharedItem}
use Rattle.sdd_world.specs.Passing.{IsPlain}
use Rattle.sdd_world.specs.Place.{AddsOwners, IsPlace, IsShared, row_between}
use Rattle.sdd_world.specs.State.{IsFree, State, cell_at, in_use, placed, status_at, vacancy, value_at, with_cell, with_groups}
use Rattle.sdd_world.specs.Steps.{released, times}
use Rattle.sdd_world.specs.Tokens.{loaded_slot}
use Rattle.sdd_world.specs.declared.groups.Group.{Group}
use Rattle.sdd_world.specs.declared.pointer.Loaded.{Loaded}
use Rattle.sdd_world.specs.declared.status.Cell.TheVariants as cell
use Rattle.sdd_world.specs.declared.status.Status.TheVariants as status
use Rattle.sdd_world.specs.declared.tag.Tag.{Tag}
use Rattle.sdd_world.specs.declared.tag.Tag.TheVariants as tag
use Rattle.version_views.specs.Cuts.{pairs_in}
use Rattle.version_views.specs.Items.{held_by, names_of, row_owners, slots_in, slots_of}
use Rattle.version_views.specs.Rows.{AreEnds}
use Rattle.version_views.specs.Versions.{IsSegment, IsVersion, blocks_of, segment_pairs, list_of}
use Rattle.version_views.specs.declared.directory.Directory.{Directory}
use Rattle.version_views.specs.declared.item.Item.{Item}
use Rattle.version_views.specs.declared.item.Item.TheVariants as items
use Rattle.version_views.specs.declared.row.Row.{Row}
pub use Rattle.version_drafts.specs.Drafts.{Plan, blocks_planned, list_planned, number_of, slots_for}
use Rattle.version_drafts.specs.Drafts.{IsPlanned}
use Rattle.version_drafts.specs.Parts.{between}
use Rattle.version_drafts.specs.Shelves.{IsWholeRow, LiesInside, LiesOn, shelved_blocks}
use Rattle.version_drafts.specs.declared.shelves.Shelf.{Shelf}
use Rattle.version_drafts.specs.declared.shelves.Shelf.TheVariants as shelves
use Rattle.version_drafts.specs.declared.segments.Part.{Part}
use Rattle.version_drafts.specs.declared.segments.Part.TheVariants as parts
use Rattle.local_versions.specs.declared.placing.PlaceRefused.{PlaceRefused}
use Rattle.local_versions.specs.declared.placing.PlaceRefused.TheVariants as refused

-- the slot that a pointer names, where there is one
abbrev pub older_slot : {T : Type 0} → Option (Loaded T) → Option ℕ
older_slot None = None
older_slot (Some at) = loaded_slot at

-- ---- places

module _ {K V : Type 0} {s : ℕ} where
  -- the slots of the segments of the version that is in a slot, the pairs of the segments, and the ends of its rows
  abbrev pub slots_in_item : List GroupState → Option (Item K V s) → List ℕ
  slots_in_item gs None = []
  slots_in_item gs (Some (items.Directory d)) = slots_of gs d
  slots_in_item gs (Some (items.Segment t)) = []

  abbrev pub ends_in_item : Option (Item K V s) → List ℕ
  ends_in_item None = []
  ends_in_item (Some (items.Directory d)) = d.ends.items
  ends_in_item (Some (items.Segment t)) = []

  abbrev pub slots_at : State (Item K V s) → Option ℕ → List ℕ
  slots_at w None = []
  slots_at w (Some i) = slots_in_item w.groups (value_at w i)

  abbrev pub ends_at : State (Item K V s) → Option ℕ → List ℕ
  ends_at w None = []
  ends_at w (Some i) = ends_in_item (value_at w i)

  abbrev pub blocks_at : State (Item K V s) → Option ℕ → List (List (K × V))
  blocks_at w older = map (λ i. segment_pairs (value_at w i)) (slots_at w older)

  abbrev pub IsNoDirectory : Option (Item K V s) → Type 0
  IsNoDirectory None = Unit {0}
  IsNoDirectory (Some (items.Directory d)) = ⊥
  IsNoDirectory (Some (items.Segment t)) = Unit {0}

  -- no directory that is there, also one that waits, holds a directory
  abbrev pub IsFlat : State (Item K V s) → Type 0
  IsFlat w = (i : ℕ) (d : Directory K Group) → value_at w i ≡ Some (items.Directory d) → All (λ j. IsNoDirectory (value_at w j)) (slots_of w.groups d)

  -- nor does one hold a row twice, or a segment
  pub record IsLevelled (w : State (Item K V s)) : Type 0 where
    pub flat : IsFlat w
    pub rows : (i : ℕ) (d : Directory K Group) → value_at w i ≡ Some (items.Directory d) → (g : ℕ) → times g (names_of d.rows.items) ≤ 1
    pub once : (i : ℕ) (d : Directory K Group) → value_at w i ≡ Some (items.Directory d) → (j : ℕ) → times j (slots_of w.groups d) ≤ 1

  -- owners are counted, no group is in hand, and there are so few slots and cells that owners can't run out
  pub record IsSettled (w : State (Item K V s)) : Type 0 where
    pub hand : List Hold
    pub counted : Counted held_by hand w
    pub ungrouped : (g : ℕ) → tally (OwnerGroup g) hand ≡ 0
    pub levelled : IsLevelled w
    pub few : 8 + length hand + length w.states + length w.cells < 4294967295

  -- n items more, and groups, and all else as it was
  pub record AddsItems (n : ℕ) (w w' : State (Item K V s)) : Type 0 where
    pub count : w'.count ≡ w.count
    pub participants : w'.participants ≡ w.participants
    pub cells : w'.cells ≡ w.cells
    pub keeps : Frame w w'
    pub groups : GroupsGrow w.groups w'.groups
    pub lives : (i : ℕ) → IsLive w i → IsLive w' i
    pub owned : (i : ℕ) → IsShared w i → IsShared w' i
    pub uses : in_use w' ≡ in_use w + n
    pub frees : sum_by vacancy w'.states + n ≡ sum_by vacancy w.states
    pub plain : IsPlain w → IsPlain w'
    pub levelled : (hand : List Hold) → Counted held_by hand w → IsLevelled w → IsLevelled w'

  -- some names for groups more, and all else as it was
  abbrev pub OnlyNamesCome : (w w' : State (Item K V s)) → Type 0
  OnlyNamesCome w w' = (n : ℕ) × (w' ≡ with_groups (w.groups ++ replicate n no_group) w)

  -- an item with owners, of which there may be one more, and so a group
  pub record CanBeShared (w : State (Item K V s)) (i : ℕ) : Type 0 where
    pub inside : i < length w.states
    pub owners : ℕ
    pub is : status_at w i ≡ status.Shared owners
    pub room : owners < 4294967295

  abbrev pub CanBeRaised : State (Item K V s) → ℕ → Type 0
  CanBeRaised w g = IsOut w.groups g × (count_at w.groups g < 4294967295)

  -- a segment with owners, of which there may be one more
  pub record IsTakeable (w : State (Item K V s)) (i : ℕ) : Type 0 where
    pub shared : CanBeShared w i
    pub segment : IsSegment (value_at w i)

-- ---- versions

module _ {K V : Type 0} {s : ℕ} where
  -- a directory is in this slot, which is the version of that number with that list
  pub record HasVersion (cmp : K → K → Ordering) (w : State (Item K V s)) (slot number : ℕ) (pairs : List (K × V)) : Type 0 where
    pub directory : Directory K Group
    pub is : value_at w slot ≡ Some (items.Directory directory)
    pub whole : IsVersion cmp w.groups (value_at w) directory
    pub numbered : directory.number ≡ number
    pub list : list_of w.groups (value_at w) directory ≡ pairs

  -- the directory is the version of this number with this list
  abbrev pub HasNumberAndList : State (Item K V s) → ℕ → List (K × V) → Directory K Group → Type 0
  HasNumberAndList w number pairs d = (list_of w.groups (value_at w) d ≡ pairs) × (d.number ≡ number)

  -- n items more, among them the version of this number with this list, whose one owner is in hand
  pub record Places (cmp : K → K → Ordering) (n number : ℕ) (pairs : List (K × V)) (slot : ℕ) (w w' : State (Item K V s)) : Type 0 where
    pub adds : AddsItems n w w'
    pub version : HasVersion cmp w' slot number pairs
    pub shared : IsShared w' slot
    pub counted : (hand : List Hold) → Counted held_by hand w → Counted held_by (SharedItem slot ∷ hand) w'

  -- the older version, where there is one, has an owner and is whole
  pub record IsOlder (cmp : K → K → Ordering) (w : State (Item K V s)) (slot : ℕ) : Type 0 where
    pub live : IsLive w slot
    pub directory : Directory K Group
    pub is : value_at w slot ≡ Some (items.Directory directory)
    pub whole : IsVersion cmp w.groups (value_at w) directory

  abbrev pub HasOlder : (K → K → Ordering) → State (Item K V s) → Option ℕ → Type 0
  HasOlder cmp w None = Unit {0}
  HasOlder cmp w (Some i) = IsOlder cmp w i

  -- the names of its rows
  abbrev pub names_in_item : Option (Item K V s) → List ℕ
  names_in_item None = []
  names_in_item (Some (items.Directory d)) = names_of d.rows.items
  names_in_item (Some (items.Segment t)) = []

  abbrev pub names_at : State (Item K V s) → Option ℕ → List ℕ
  names_at w None = []
  names_at w (Some i) = names_in_item (value_at w i)

  -- a version that can be placed beside the older one in this slot: it is planned of that one's rows and segments
  pub record IsPlaceable (cmp : K → K → Ordering) (w : State (Item K V s)) (older : Option ℕ) (p : Plan K V s) : Type 0 where
    pub planned : IsPlanned cmp (blocks_at w older) (ends_at w older) p
    pub there : HasOlder cmp w older

  -- it can be placed beside this directory, wherever that is and has an owner
  abbrev pub IsPlaceableBeside : (K → K → Ordering) → State (Item K V s) → Directory K Group → Plan K V s → Type 0
  IsPlaceableBeside cmp w d p = (i : ℕ) → IsLive w i → value_at w i ≡ Some (items.Directory d) → IsPlaceable cmp w (Some i) p

  -- the list of a version that takes over of this directory
  abbrev pub list_beside : State (Item K V s) → Directory K Group → Plan K V s → List (K × V)
  list_beside w d p = list_planned (blocks_of w.groups (value_at w) d) p

  -- the list of a version that takes nothing over
  abbrev pub list_alone : Plan K V s → List (K × V)
  list_alone p = list_planned [] p

  -- a version that takes nothing over: it can be placed anywhere, and its list doesn't depend on what is there
  pub record StandsAlone (cmp : K → K → Ordering) (p : Plan K V s) : Type 0 where
    pub placeable : (w : State (Item K V s)) → IsPlaceable cmp w None p
    pub list : (blocks : List (List (K × V))) → list_planned blocks p ≡ list_alone p

-- ---- rows that are placed

module _ {K V : Type 0} where
  -- the slots of the segments that a part takes over, where the older version has these, and that parts do
  abbrev pub part_slots : List ℕ → Part K V → List ℕ
  part_slots slots (parts.Taken from upto) = between from upto slots
  part_slots slots (parts.Made t) = []

  abbrev pub taken_slots : List ℕ → List (Part K V) → List ℕ
  taken_slots slots [] = []
  taken_slots slots (p ∷ ps) = part_slots slots p ++ taken_slots slots ps

module _ {K V : Type 0} {s : ℕ} where
  -- the directory of the older version, where there is one, has an owner, and its ends are those of its rows
  pub record IsThere (w : State (Item K V s)) (slot : ℕ) : Type 0 where
    pub live : IsLive w slot
    pub directory : Directory K Group
    pub is : value_at w slot ≡ Some (items.Directory directory)
    pub ends : AreEnds (row_owners (slots_in w.groups)) directory.rows.items directory.ends.items

  abbrev pub HasRows : State (Item K V s) → Option ℕ → Type 0
  HasRows w None = Unit {0}
  HasRows w (Some i) = IsThere w i

  -- the older version is there, and has the stretches in its rows; their segments can be taken over
  pub record CanTakeOver (w : State (Item K V s)) (older : Option ℕ) (ps : List (Part K V)) : Type 0 where
    pub there : HasRows w older
    pub inside : All (LiesInside (ends_at w older)) ps
    pub segments : All (IsTakeable w) (taken_slots (slots_at w older) ps)

  -- a row can be placed: the older version has it, and one more owner of it can be counted, or what its parts take over can be
  pub record CanRaise (cmp : K → K → Ordering) (w : State (Item K V s)) (older : Option ℕ) (row from upto : ℕ) : Type 0 where
    pub there : HasOlder cmp w older
    pub whole : IsWholeRow (ends_at w older) row from upto
    pub segments : All (IsTakeable w) (slots_at w older)
    pub raised : All (CanBeRaised w) (names_at w older)

  abbrev pub CanPlace : (K → K → Ordering) → State (Item K V s) → Option ℕ → Shelf K V → Type 0
  CanPlace cmp w older (shelves.Older row from upto) = CanRaise cmp w older row from upto
  CanPlace cmp w older (shelves.New ps) = CanTakeOver w older ps.items × ((j : ℕ) → times j (taken_slots (slots_at w older) ps.items) ≤ 1)

  -- rows of a version that is planned of the older one: it has what they take over, and their segments have pairs by rising keys
  pub record AreRowsOf (cmp : K → K → Ordering) (w : State (Item K V s)) (older : Option ℕ) (rows : List (Row K (Shelf K V))) : Type 0 where
    pub there : HasOlder cmp w older
    pub inside : All (λ r. LiesOn (ends_at w older) r.segments) rows
    pub sizes : All (λ b. (1 ≤ length b) × (length b ≤ s)) (shelved_blocks (blocks_at w older) rows)
    pub rising : IsAscending cmp (pairs_in (shelved_blocks (blocks_at w older) rows))

  -- group g has the segments from one place of the older version up to another, the first one at this place of its row
  pub record IsStretch (w : State (Item K V s)) (older : Option ℕ) (g first from upto : ℕ) : Type 0 where
    pub within : first + (upto - from) ≤ length (row_at w.groups g)
    pub slots : row_between w g first (first + (upto - from)) ≡ between from upto (slots_at w older)

  -- a part of a row is placed in slots: a new segment, or segments that were there and have one more owner each
  abbrev pub HasPlaced : List ℕ → Part K V → List ℕ → State (Item K V s) → State (Item K V s) → Type 0
  HasPlaced slots (parts.Taken from upto) xs w w' = (xs ≡ between from upto slots) × AddsOwners xs w w'
  HasPlaced slots (parts.Made t) xs w w' = (i : ℕ) × (xs ≡ i ∷ []) × IsPlace w × IsFree w i × (w' ≡ placed i (items.Segment t) (status.Shared 1) w) × Frame w w'

  -- the slots of a part that is placed come behind those that are kept
  abbrev pub KeepsPlaced : List ℕ → Part K V → (old new : List ℕ) → State (Item K V s) → State (Item K V s) → Type 0
  KeepsPlaced slots part old new w w' = (xs : List ℕ) × (new ≡ old ++ xs) × HasPlaced slots part xs w w'

  -- segments with these pairs are in these slots, n of which are new, and their owners are in hand
  pub record StandsIn (n : ℕ) (slots : List ℕ) (blocks : List (List (K × V))) (w w' : State (Item K V s)) : Type 0 where
    pub adds : AddsItems n w w'
    pub same : w'.groups ≡ w.groups
    pub segments : All (λ i. IsSegment (value_at w' i)) slots
    pub lives : All (λ i. IsLive w' i) slots
    pub hold : map (λ i. segment_pairs (value_at w' i)) slots ≡ blocks
    pub counted : (hand : List Hold) → Counted held_by hand w → Counted held_by (reverse (map SharedItem slots) ++ hand) w'

  -- group g, whose owner is in hand, has segments with these pairs in its row, n of which are new; at most one name was used
  pub record StandsOn (n g : ℕ) (blocks : List (List (K × V))) (w w' : State (Item K V s)) : Type 0 where
    pub adds : AddsItems n w w'
    pub out : IsOut w'.groups g
    pub segments : All (λ i. IsSegment (value_at w' i)) (row_at w'.groups g)
    pub lives : All (λ i. IsLive w' i) (row_at w'.groups g)
    pub hold : map (λ i. segment_pairs (value_at w' i)) (row_at w'.groups g) ≡ blocks
    pub counted : (hand : List Hold) → Counted held_by hand w → Counted held_by (OwnerGroup g ∷ hand) w'
    pub names : free_names w.groups ≤ free_names w'.groups + 1

  -- so of all rows that were placed since w, in order
  pub record StandOn (n : ℕ) (gs : List ℕ) (blocks : List (List (List (K × V)))) (w w' : State (Item K V s)) : Type 0 where
    pub adds : AddsItems n w w'
    pub out : All (λ g. IsOut w'.groups g) gs
    pub segments : All (λ g. All (λ i. IsSegment (value_at w' i)) (row_at w'.groups g)) gs
    pub lives : All (λ g. All (λ i. IsLive w' i) (row_at w'.groups g)) gs
    pub hold : map (λ g. map (λ i. segment_pairs (value_at w' i)) (row_at w'.groups g)) gs ≡ blocks
    pub counted : (hand : List Hold) → Counted held_by hand w → Counted held_by (reverse (map OwnerGroup gs) ++ hand) w'
    pub names : free_names w.groups ≤ free_names w'.groups + length gs

-- why a version wasn't placed, and which
module _ {K V : Type 0} {s : ℕ} where
  abbrev pub IsForSlots : PlaceRefused K V s → Type 0
  IsForSlots (refused.NoSlot p) = Unit {0}
  IsForSlots (refused.Memory p) = ⊥

  abbrev pub refused_plan : PlaceRefused K V s → Plan K V s
  refused_plan (refused.NoSlot p) = p
  refused_plan (refused.Memory p) = p

-- p gives back what the cell kept, if it kept an owner
abbrev pub owner_given_back : {T : Type 0} → ℕ → Option ℕ → State T → State T
owner_given_back p None w = w
owner_given_back p (Some i) w = released p i w

-- cell c names the item in slot i, without a tag, and p gives back what the cell kept
abbrev pub root_set : {T : Type 0} → ℕ → ℕ → ℕ → Option ℕ → State T → State T
root_set p c i kept w = owner_given_back p kept (with_cell c (cell.OfShared (Some i) tag.None) w)

-- that is all that has become of the place, whatever the cell kept
abbrev pub Publishes : {T : Type 0} → ℕ → ℕ → ℕ → State T → State T → Type 0
Publishes p c i w w' = (kept : Option ℕ) (tag : Tag) → cell_at w c ≡ cell.OfShared kept tag → w' ≡ root_set p c i kept w
