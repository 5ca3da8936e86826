-- owners and cells, counted over all that hold them
use Rattle.std.specs.Prelude.{◌≡◌, ℕ, ◌+◌, ◌<◌, ◌≤◌, Option, None, Some, List, [], ◌∷◌, ◌++◌, length, map}
use Rattle.std.specs.List.{sum_by}
use Rattle.sdd_table.specs.Groups.{GroupState, IsFreeName, IsOut, count_at, more_owned, no_group, row_at, rows_of, with_row}
use Rattle.sdd_table.specs.Holding.{Hold, OwnedItem, SharedItem, OwnedIn, SharedIn, OwnerGroup}
use Rattle.sdd_table.specs.State.{State, status_at, value_at, cell_at, placed, with_value, with_status, with_cell, with_groups, waiting_as, IsFree, IsFreeCell, IsIdle, fresh}
use Rattle.sdd_table.specs.Steps.{hit, times, held_in, given, guard_opened, guard_closed, set_aside, purged, handed_over}
use Rattle.sdd_table.specs.Dropping.{Dropped}
use Rattle.sdd_table.specs.Frame.{IsLive}
use Rattle.sdd_table.specs.Place.{IsPlace, IsShared, IsOwned, IsSharedCell}
use Rattle.sdd_table.specs.declared.sizes.Sizes.{Sizes}
use Rattle.sdd_table.specs.declared.tag.Tag.{Tag}
use Rattle.sdd_table.specs.declared.status.Status.{Status}
use Rattle.sdd_table.specs.declared.status.Status.TheVariants as status
use Rattle.sdd_table.specs.declared.status.Cell.{Cell}
use Rattle.sdd_table.specs.declared.status.Cell.TheVariants as cell

-- 1 where k is an owner of the kind and item, the cell, or an owner of the group, of h
abbrev pub same_hold : Hold → Hold → ℕ
same_hold (OwnedItem i) (OwnedItem j) = hit j i
same_hold (OwnedItem i) (SharedItem j) = 0
same_hold (OwnedItem i) (OwnedIn j) = 0
same_hold (OwnedItem i) (SharedIn j) = 0
same_hold (OwnedItem i) (OwnerGroup j) = 0
same_hold (SharedItem i) (OwnedItem j) = 0
same_hold (SharedItem i) (SharedItem j) = hit j i
same_hold (SharedItem i) (OwnedIn j) = 0
same_hold (SharedItem i) (SharedIn j) = 0
same_hold (SharedItem i) (OwnerGroup j) = 0
same_hold (OwnedIn i) (OwnedItem j) = 0
same_hold (OwnedIn i) (SharedItem j) = 0
same_hold (OwnedIn i) (OwnedIn j) = hit j i
same_hold (OwnedIn i) (SharedIn j) = 0
same_hold (OwnedIn i) (OwnerGroup j) = 0
same_hold (SharedIn i) (OwnedItem j) = 0
same_hold (SharedIn i) (SharedItem j) = 0
same_hold (SharedIn i) (OwnedIn j) = 0
same_hold (SharedIn i) (SharedIn j) = hit j i
same_hold (SharedIn i) (OwnerGroup j) = 0
same_hold (OwnerGroup i) (OwnedItem j) = 0
same_hold (OwnerGroup i) (SharedItem j) = 0
same_hold (OwnerGroup i) (OwnedIn j) = 0
same_hold (OwnerGroup i) (SharedIn j) = 0
same_hold (OwnerGroup i) (OwnerGroup j) = hit j i

-- how often h is among what is held
abbrev pub tally : Hold → List Hold → ℕ
tally h ks = sum_by (λ k. same_hold h k) ks

-- what a cell keeps
abbrev pub kept_by : Cell → List Hold
kept_by cell.Free = []
kept_by (cell.OfOwned None t) = []
kept_by (cell.OfOwned (Some i) t) = OwnedItem i ∷ []
kept_by (cell.OfShared None t) = []
kept_by (cell.OfShared (Some i) t) = SharedItem i ∷ []
kept_by (cell.OfRaw o t) = []

-- how many owners of its kind a slot has by its use
abbrev pub single_owner : Status → ℕ
single_owner status.Free = 0
single_owner status.Owned = 1
single_owner (status.Shared n) = 0
single_owner status.Raw = 0
single_owner (status.Collected n b) = 0
single_owner status.Retired = 0
single_owner status.Idle = 0
single_owner status.Deferred = 0

abbrev pub shared_owners : Status → ℕ
shared_owners status.Free = 0
shared_owners status.Owned = 0
shared_owners (status.Shared n) = n
shared_owners status.Raw = 0
shared_owners (status.Collected n b) = 0
shared_owners status.Retired = 0
shared_owners status.Idle = 0
shared_owners status.Deferred = 0

-- 1 for a cell of the kind that is in use
abbrev pub keeps_owned : Cell → ℕ
keeps_owned cell.Free = 0
keeps_owned (cell.OfOwned o t) = 1
keeps_owned (cell.OfShared o t) = 0
keeps_owned (cell.OfRaw o t) = 0

abbrev pub keeps_shared : Cell → ℕ
keeps_shared cell.Free = 0
keeps_shared (cell.OfOwned o t) = 0
keeps_shared (cell.OfShared o t) = 1
keeps_shared (cell.OfRaw o t) = 0

-- how many owners the item or the group of h has, or whether the cell of h is in use
abbrev pub owners_of : {T : Type 0} → Hold → State T → ℕ
owners_of (OwnedItem i) w = single_owner (status_at w i)
owners_of (SharedItem i) w = shared_owners (status_at w i)
owners_of (OwnedIn c) w = keeps_owned (cell_at w c)
owners_of (SharedIn c) w = keeps_shared (cell_at w c)
owners_of (OwnerGroup g) w = count_at w.groups g

-- the owners that stand in rows of groups
abbrev pub rows_held : List GroupState → List Hold
rows_held gs = map SharedItem (rows_of gs)

-- what is in hand, in items, in cells and in rows adds up to the owners of each item and group, and each cell has one owner
pub record Counted {T : Type 0} (holds : T → List Hold) (hand : List Hold) (w : State T) : Type 0 where
  pub each : (h : Hold) → tally h hand + sum_by (λ v. tally h (held_in holds v)) w.values + sum_by (λ c. tally h (kept_by c)) w.cells + tally h (rows_held w.groups) ≡ owners_of h w

-- the owners that are out, whoever has them, stay counted over every call
pub record OwnersAreCounted {T : Type 0} (holds : T → List Hold) : Type 0 where
  -- nothing is held in a new place
  pub fresh : (n : Sizes) → Counted holds [] (fresh n)
  -- an owner in hand names an item that is there
  pub shared : (i : ℕ) (hand : List Hold) (w : State T) → Counted holds (SharedItem i ∷ hand) w → IsShared w i
  pub owned : (i : ℕ) (hand : List Hold) (w : State T) → Counted holds (OwnedItem i ∷ hand) w → IsOwned w i
  -- and so does one in a cell, or in an item
  pub kept : (c i : ℕ) (t : Tag) (hand : List Hold) (w : State T) → cell_at w c ≡ cell.OfShared (Some i) t → Counted holds hand w → IsShared w i
  pub held : (i j : ℕ) (v : T) (hand : List Hold) (w : State T) → value_at w j ≡ Some v → 1 ≤ tally (SharedItem i) (holds v) → Counted holds hand w → IsShared w i
  -- a cell in hand, or in an item, is in use
  pub cell_in_hand : (c : ℕ) (hand : List Hold) (w : State T) → Counted holds (SharedIn c ∷ hand) w → IsSharedCell w c
  pub cell_in_item : (c j : ℕ) (v : T) (hand : List Hold) (w : State T) → value_at w j ≡ Some v → 1 ≤ tally (SharedIn c) (holds v) → Counted holds hand w → IsSharedCell w c
  -- a group in hand, or in an item, has owners; and each item that the row of such a group names is there
  pub group_in_hand : (g : ℕ) (hand : List Hold) (w : State T) → Counted holds (OwnerGroup g ∷ hand) w → IsOut w.groups g
  pub group_in_item : (g j : ℕ) (v : T) (hand : List Hold) (w : State T) → value_at w j ≡ Some v → 1 ≤ tally (OwnerGroup g) (holds v) → Counted holds hand w → IsOut w.groups g
  pub in_row : (i g : ℕ) (hand : List Hold) (w : State T) → IsOut w.groups g → 1 ≤ times i (row_at w.groups g) → Counted holds hand w → IsShared w i
  -- an item is made of what it will hold
  pub placed_shared : (i : ℕ) (v : T) (hand : List Hold) (w : State T) → IsPlace w → IsFree w i → Counted holds (holds v ++ hand) w → Counted holds (SharedItem i ∷ hand) (placed i v (status.Shared 1) w)
  pub placed_owned : (i : ℕ) (v : T) (hand : List Hold) (w : State T) → IsPlace w → IsFree w i → Counted holds (holds v ++ hand) w → Counted holds (OwnedItem i ∷ hand) (placed i v status.Owned w)
  -- one owner more
  pub cloned : (i n : ℕ) (hand : List Hold) (w : State T) → status_at w i ≡ status.Shared n → i < length w.states → Counted holds hand w → Counted holds (SharedItem i ∷ hand) (with_status i (status.Shared (n + 1)) w)
  -- an owner, a cell with what it keeps, or an owner of a group is given back
  pub given : (p : ℕ) (h : Hold) (hand : List Hold) (w : State T) → Counted holds (h ∷ hand) w → Counted holds hand (given p h w)
  -- an owner is given back at once, with all that only it held
  pub dropped : (h : Hold) (hand : List Hold) (w w' : State T) → IsPlace w → Counted holds (h ∷ hand) w → Dropped holds h w w' → Counted holds hand w'
  -- an item is written: what it will hold is taken from the hand, and what it held is put there
  pub written : (i : ℕ) (u v : T) (hand : List Hold) (w : State T) → i < length w.values → value_at w i ≡ Some u → Counted holds (holds v ++ hand) w → Counted holds (holds u ++ hand) (with_value i v w)
  -- a name for a group comes, a group is made of what its row will keep, and gets one owner more
  pub groups_grown : (hand : List Hold) (w : State T) → Counted holds hand w → Counted holds hand (with_groups (w.groups ++ no_group ∷ []) w)
  pub group_made : (g : ℕ) (row : List ℕ) (hand : List Hold) (w : State T) → IsFreeName w.groups g → Counted holds (map SharedItem row ++ hand) w → Counted holds (OwnerGroup g ∷ hand) (with_groups (with_row g row w.groups) w)
  pub group_raised : (g : ℕ) (hand : List Hold) (w : State T) → IsOut w.groups g → Counted holds hand w → Counted holds (OwnerGroup g ∷ hand) (with_groups (more_owned g w.groups) w)
  -- guards open and close
  pub opened : (p : ℕ) (hand : List Hold) (w : State T) → IsPlace w → p < length w.participants → Counted holds hand w → Counted holds hand (guard_opened holds p w)
  pub closed : (p : ℕ) (hand : List Hold) (w : State T) → Counted holds hand w → Counted holds hand (guard_closed p w)
  -- a cell of shared items is made, changed and ended
  pub cell_made : (c : ℕ) (o : Option ℕ) (t : Tag) (hand : List Hold) (w : State T) → IsFreeCell w c → Counted holds (kept_by (cell.OfShared o t) ++ hand) w → Counted holds (SharedIn c ∷ hand) (with_cell c (cell.OfShared o t) w)
  pub cell_swapped : (c : ℕ) (o o' : Option ℕ) (t t' : Tag) (hand : List Hold) (w : State T) → c < length w.cells → cell_at w c ≡ cell.OfShared o t → Counted holds (kept_by (cell.OfShared o' t') ++ hand) w → Counted holds (kept_by (cell.OfShared o t) ++ hand) (with_cell c (cell.OfShared o' t') w)
  pub cell_ended : (c : ℕ) (o : Option ℕ) (t : Tag) (hand : List Hold) (w : State T) → c < length w.cells → cell_at w c ≡ cell.OfShared o t → Counted holds (SharedIn c ∷ hand) w → Counted holds (kept_by (cell.OfShared o t) ++ hand) (with_cell c cell.Free w)
  -- a cell of owned items is made, changed and ended
  pub owned_cell_made : (c : ℕ) (o : Option ℕ) (t : Tag) (hand : List Hold) (w : State T) → IsFreeCell w c → Counted holds (kept_by (cell.OfOwned o t) ++ hand) w → Counted holds (OwnedIn c ∷ hand) (with_cell c (cell.OfOwned o t) w)
  pub owned_cell_swapped : (c : ℕ) (o o' : Option ℕ) (t t' : Tag) (hand : List Hold) (w : State T) → c < length w.cells → cell_at w c ≡ cell.OfOwned o t → Counted holds (kept_by (cell.OfOwned o' t') ++ hand) w → Counted holds (kept_by (cell.OfOwned o t) ++ hand) (with_cell c (cell.OfOwned o' t') w)
  pub owned_cell_ended : (c : ℕ) (o : Option ℕ) (t : Tag) (hand : List Hold) (w : State T) → c < length w.cells → cell_at w c ≡ cell.OfOwned o t → Counted holds (OwnedIn c ∷ hand) w → Counted holds (kept_by (cell.OfOwned o t) ++ hand) (with_cell c cell.Free w)
  -- an owner is handed out as a raw pointer, and taken back
  pub raw_out : (i : ℕ) (hand : List Hold) (w : State T) → Counted holds (OwnedItem i ∷ hand) w → Counted holds hand (with_status i status.Raw w)
  pub raw_back : (i : ℕ) (hand : List Hold) (w : State T) → status_at w i ≡ status.Raw → Counted holds hand w → Counted holds (OwnedItem i ∷ hand) (with_status i status.Owned w)
  -- a cell of raw pointers is made, changed and ended
  pub raw_cell_made : (c : ℕ) (o : Option ℕ) (t : Tag) (hand : List Hold) (w : State T) → IsFreeCell w c → Counted holds hand w → Counted holds hand (with_cell c (cell.OfRaw o t) w)
  pub raw_cell_changed : (c : ℕ) (o o' : Option ℕ) (t t' : Tag) (hand : List Hold) (w : State T) → c < length w.cells → cell_at w c ≡ cell.OfRaw o t → Counted holds hand w → Counted holds hand (with_cell c (cell.OfRaw o' t') w)
  pub raw_cell_ended : (c : ℕ) (o : Option ℕ) (t : Tag) (hand : List Hold) (w : State T) → c < length w.cells → cell_at w c ≡ cell.OfRaw o t → Counted holds hand w → Counted holds hand (with_cell c cell.Free w)
  -- an item is collected by its last owner, what is overdue is reclaimed, and the rest is handed over
  pub collected_owned : (p n i : ℕ) (is : List ℕ) (hand : List Hold) (w : State T) → Counted holds (OwnedItem i ∷ hand) w → Counted holds hand (set_aside p n is i w)
  pub collected_shared : (p n i : ℕ) (is : List ℕ) (hand : List Hold) (w : State T) → status_at w i ≡ status.Shared 1 → Counted holds (SharedItem i ∷ hand) w → Counted holds hand (set_aside p n is i w)
  pub purged : (p : ℕ) (is : List ℕ) (hand : List Hold) (w : State T) → Counted holds hand w → Counted holds hand (purged holds p is w)
  pub handed : (p : ℕ) (is : List ℕ) (hand : List Hold) (w : State T) → Counted holds hand w → Counted holds hand (handed_over p is w)
  -- a job waits
  pub deferred : (p i : ℕ) (hand : List Hold) (w : State T) → IsIdle w i → Counted holds hand w → Counted holds hand (waiting_as status.Deferred p i w)

-- what a cell keeps stays while a guard opens, whatever that reclaims
pub record HeldCellsStay {T : Type 0} (holds : T → List Hold) : Type 0 where
  -- where the cell's owner is in hand
  pub hand : (c p : ℕ) (hand : List Hold) (w : State T) → IsPlace w → p < length w.participants → 1 ≤ tally (SharedIn c) hand → Counted holds hand w → cell_at (guard_opened holds p w) c ≡ cell_at w c
  -- where it is in an item that has an owner
  pub item : (c i p : ℕ) (hand : List Hold) (w : State T) → IsPlace w → p < length w.participants → IsLive w i → 1 ≤ tally (SharedIn c) (held_in holds (value_at w i)) → Counted holds hand w → cell_at (guard_opened holds p w) c ≡ cell_at w c
