-- what holds of every place of one thread between two calls
use Rattle.std.specs.Prelude.{◌≡◌, ◌≢◌, ℕ, ◌+◌, ◌-◌, ◌<◌, ◌≤◌, Bool, List, [], ◌∷◌, drop, leb, length, is_some, Option, None, Some, take, true}
use Rattle.std.specs.List.{All, sum_by}
use Rattle.sdd_table.specs.State.{State, ParticipantState, status_at, value_at, cell_at, participant_at, local_at, weight, is_used, IsFree, IsFreeCell, placed, with_status, with_cell}
use Rattle.sdd_table.specs.Groups.{row_at}
use Rattle.sdd_table.specs.Steps.{times}
use Rattle.sdd_plain.specs.declared.tag.Tag.{Tag}
use Rattle.sdd_plain.specs.declared.sizes.Sizes.{Sizes}
use Rattle.sdd_table.specs.declared.status.Status.{Status}
use Rattle.sdd_table.specs.declared.status.Status.TheVariants as status
use Rattle.sdd_table.specs.declared.status.Cell.{Cell}
use Rattle.sdd_table.specs.declared.status.Cell.TheVariants as cell

-- how often place j waits in the bags of m
abbrev pub held_times : ℕ → ParticipantState → ℕ
held_times j m = times j m.current + times j m.prior + times j m.oldest + times j m.due

-- each place that waits does so in one bag, no other place is in a bag; a slot has a value if and only if it is used
pub record Sound {T : Type 0} (w : State T) : Type 0 where
  pub sizes : length w.values ≡ length w.states
  pub once : (j : ℕ) → sum_by (held_times j) w.participants ≡ weight (status_at w j)
  pub filled : (j : ℕ) → is_some (value_at w j) ≡ is_used (status_at w j)

-- participant p has a guard open
abbrev pub IsOpen : {T : Type 0} → State T → ℕ → Type 0
IsOpen w p = 0 < (local_at w p).nesting

pub record IsPlace {T : Type 0} (w : State T) : Type 0 where
  pub sound : Sound w
  -- there is a participant
  pub some : 0 < length w.participants
  -- nothing is being reclaimed
  pub idle : (k : ℕ) → (participant_at w k).due ≡ []
  -- no participant is ahead of the count, and it is at most one ahead of an open guard
  pub past : (k : ℕ) → (local_at w k).previous ≤ w.count
  pub began : (k : ℕ) → IsOpen w k → (local_at w k).published ≤ w.count
  pub near : (k : ℕ) → IsOpen w k → w.count ≤ (local_at w k).published + 1

-- an item of value v, used as s, was put into slot i, which was free
abbrev pub PlacesItem : {T : Type 0} → ℕ → T → Status → State T → State T → Type 0
PlacesItem i v s w w' = IsFree w i × (w' ≡ placed i v s w)

-- cell c, which was free, keeps k
abbrev pub ClaimsCell : {T : Type 0} → ℕ → Cell → State T → State T → Type 0
ClaimsCell c k w w' = IsFreeCell w c × (w' ≡ with_cell c k w)

-- slot i has an item with owners, n of them
pub record IsShared {T : Type 0} (w : State T) (i : ℕ) : Type 0 where
  pub inside : i < length w.states
  pub owners : ℕ
  pub is : status_at w i ≡ status.Shared owners

-- slot i has an item with one owner
pub record IsOwned {T : Type 0} (w : State T) (i : ℕ) : Type 0 where
  pub inside : i < length w.states
  pub is : status_at w i ≡ status.Owned

-- the item in slot i, which was out as a raw pointer, has an owner
abbrev pub OwnsRaw : {T : Type 0} → ℕ → State T → State T → Type 0
OwnsRaw i w w' = (status_at w i ≡ status.Raw) × (w' ≡ with_status i status.Owned w)

-- cell c keeps the owner of an item, or none, with a tag
pub record IsOwnedCell {T : Type 0} (w : State T) (c : ℕ) : Type 0 where
  pub inside : c < length w.cells
  pub item : Option ℕ
  pub tag : Tag
  pub is : cell_at w c ≡ cell.OfOwned item tag

-- cell c keeps an owner of a shared item, or none, with a tag
pub record IsSharedCell {T : Type 0} (w : State T) (c : ℕ) : Type 0 where
  pub inside : c < length w.cells
  pub item : Option ℕ
  pub tag : Tag
  pub is : cell_at w c ≡ cell.OfShared item tag

-- cell c names an item that it doesn't own, or none, with a tag
pub record IsRawCell {T : Type 0} (w : State T) (c : ℕ) : Type 0 where
  pub inside : c < length w.cells
  pub item : Option ℕ
  pub tag : Tag
  pub is : cell_at w c ≡ cell.OfRaw item tag

-- slot i has an item
pub record HasItem {T : Type 0} (w : State T) (i : ℕ) : Type 0 where
  pub inside : i < length w.states
  pub used : is_used (status_at w i) ≡ true

-- slot i has a shared item with one owner alone
abbrev pub HasOneOwner : {T : Type 0} → State T → ℕ → Type 0
HasOneOwner w i = (n : ℕ) × (status_at w i ≡ status.Shared n) × (n ≤ 1)

-- the item in slot i has one owner more
abbrev pub AddsOwner : {T : Type 0} → ℕ → State T → State T → Type 0
AddsOwner i w w' = (n : ℕ) × (status_at w i ≡ status.Shared n) × (w' ≡ with_status i (status.Shared (n + 1)) w)

-- slot i has a shared item with fewer owners than can be counted
abbrev pub TakesOwner : {T : Type 0} → ℕ → State T → Type 0
TakesOwner i w = (n : ℕ) × (status_at w i ≡ status.Shared n) × (n < 4294967295)

-- a shared item in slot i has fewer owners than can be counted
abbrev pub HasOwnersLeft : {T : Type 0} → ℕ → State T → Type 0
HasOwnersLeft i w = (n : ℕ) → status_at w i ≡ status.Shared n → n < 4294967295

-- the items in slots have one owner more each, one after the other
abbrev pub AddsOwners : {T : Type 0} → List ℕ → State T → State T → Type 0
AddsOwners [] w w' = w' ≡ w
AddsOwners {T} (i ∷ is) w w' = (v : State T) × AddsOwner i w v × AddsOwners is v w'

-- the items in slots take one owner more each: none is named twice
pub record TakeOwners {T : Type 0} (is : List ℕ) (w : State T) : Type 0 where
  pub each : All (λ i. TakesOwner i w) is
  pub once : (j : ℕ) → times j is ≤ 1

-- the slots of the items whose owners the item in a slot keeps, where it is there
abbrev pub kept_in : {T : Type 0} → (T → List ℕ) → Option T → List ℕ
kept_in kept None = []
kept_in kept (Some v) = kept v

abbrev pub kept_at : {T : Type 0} → (T → List ℕ) → State T → Option ℕ → List ℕ
kept_at kept w None = []
kept_at kept w (Some i) = kept_in kept (value_at w i)

-- those from one place of its row up to another
abbrev pub kept_between : {T : Type 0} → (T → List ℕ) → State T → Option ℕ → ℕ → ℕ → List ℕ
kept_between kept w o from upto = take (upto - from) (drop from (kept_at kept w o))

-- the items that the row of a group names, from one place of it up to another
abbrev pub row_between : {T : Type 0} → State T → ℕ → ℕ → ℕ → List ℕ
row_between w g from upto = take (upto - from) (drop from (row_at w.groups g))

-- slot i has a shared item with more than one owner
abbrev pub HasOtherOwners : {T : Type 0} → State T → ℕ → Type 0
HasOtherOwners w i = (n : ℕ) × (status_at w i ≡ status.Shared n) × (1 < n)

-- the answer says whether an owner of the shared item in slot i is its last
abbrev pub SaysLast : {T : Type 0} → Bool → ℕ → State T → Type 0
SaysLast last i w = (n : ℕ) → status_at w i ≡ status.Shared n → last ≡ leb n 1

-- the item in slot i, which had more than one owner, has one owner less
abbrev pub LosesOwner : {T : Type 0} → ℕ → State T → State T → Type 0
LosesOwner i w w' = (n : ℕ) × (status_at w i ≡ status.Shared n) × (1 < n) × (w' ≡ with_status i (status.Shared (n - 1)) w)

-- slot i has no shared item, or one with as many owners as are counted
abbrev pub TakesNoOwner : {T : Type 0} → ℕ → State T → Type 0
TakesNoOwner i w = (n : ℕ) → n < 4294967295 → status_at w i ≢ status.Shared n

-- a new cell c copies a cell of shared items, which keeps an item or none, with a tag
pub record CopiesCell {T : Type 0} (c : ℕ) (item : Option ℕ) (tag : Tag) (w w' : State T) : Type 0 where
  -- it keeps one more owner of the item
  pub more : (i n : ℕ) → item ≡ Some i → status_at w i ≡ status.Shared n → n < 4294967295 → w' ≡ with_cell c (cell.OfShared (Some i) tag) (with_status i (status.Shared (n + 1)) w)
  -- and none where the item takes none
  pub none : (i : ℕ) → item ≡ Some i → TakesNoOwner i w → w' ≡ with_cell c (cell.OfShared None tag) w
  pub null : item ≡ None → w' ≡ with_cell c (cell.OfShared None tag) w

-- a pointer is null, or names an item that is there
abbrev pub IsReadable : {T : Type 0} → State T → Option ℕ → Type 0
IsReadable w None = Unit {0}
IsReadable w (Some i) = (i < length w.states) × (is_used (status_at w i) ≡ true)

-- the sizes that a place may have
pub record IsSized (n : Sizes) : Type 0 where
  pub some : 1 ≤ n.participants
  pub participants : n.participants ≤ 1073741824
  pub slots : n.slots ≤ 1073741824
  pub cells : n.cells ≤ 1073741824
  pub jobs : n.jobs ≤ 1073741824
