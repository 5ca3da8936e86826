-- the state of a place of one thread, as callers see it, and its smallest changes
use Rattle.std.specs.Prelude.{◌≡◌, ◌≢◌, ◌<◌, ℕ, ◌+◌, ◌==◌, ◌||◌, Bool, true, false, cond, Option, None, Some, List, [], ◌∷◌, ◌++◌, get_or, set, length, replicate, reverse, sum_by, take, drop, ◌-◌}
use Rattle.sdd_table.specs.declared.status.Status.{Status}
use Rattle.sdd_table.specs.declared.status.Status.TheVariants as status
use Rattle.sdd_table.specs.declared.status.Cell.{Cell}
use Rattle.sdd_table.specs.declared.status.Cell.TheVariants as cell
use Rattle.sdd_plain.specs.declared.local_state.LocalState.{LocalState}
use Rattle.sdd_plain.specs.declared.sizes.Sizes.{Sizes}
use Rattle.sdd_plain.specs.declared.tag.Tag.{Tag}
use Rattle.sdd_table.specs.Groups.{GroupState, NoneOut}
pub use Rattle.sdd_plain.specs.Locals.{no_local}

-- a participant: its notes on itself, the places in its three bags (of age 0, 1 and 2), and those that are being reclaimed
pub record ParticipantState : Type 0 where
  pub local : LocalState
  pub current : List ℕ
  pub prior : List ℕ
  pub oldest : List ℕ
  pub due : List ℕ

-- the count of raises, the value and the use of each place (item slots, then job places), the cells, the participants, and the
-- groups of owners
pub record State (T : Type 0) : Type 0 where
  pub count : ℕ
  pub values : List (Option T)
  pub states : List Status
  pub cells : List Cell
  pub participants : List ParticipantState
  pub groups : List GroupState

-- places of these uses, and nothing else
abbrev pub uses_alone : List Status → State ℕ
uses_alone ss = record { count = 0; values = []; states = ss; cells = []; participants = []; groups = [] }

-- reading: numbers out of range name nothing
abbrev pub nobody : ParticipantState
nobody = record { local = no_local; current = []; prior = []; oldest = []; due = [] }

abbrev pub value_at : {T : Type 0} → State T → ℕ → Option T
value_at w i = get_or w.values i None

abbrev pub status_at : {T : Type 0} → State T → ℕ → Status
status_at w i = get_or w.states i status.Free

abbrev pub cell_at : {T : Type 0} → State T → ℕ → Cell
cell_at w c = get_or w.cells c cell.Free

abbrev pub participant_at : {T : Type 0} → State T → ℕ → ParticipantState
participant_at w p = get_or w.participants p nobody

abbrev pub local_at : {T : Type 0} → State T → ℕ → LocalState
local_at w p = (participant_at w p).local

-- an item is in the slot
abbrev pub is_used : Status → Bool
is_used status.Free = false
is_used status.Owned = true
is_used (status.Shared n) = true
is_used status.Raw = true
is_used (status.Collected n b) = true
is_used status.Retired = true
is_used status.Idle = false
is_used status.Deferred = false

-- 1 for a slot with an item
abbrev pub usage : Status → ℕ
usage s = cond (is_used s) 1 0

-- 1 for a place that waits in an ordinary bag
abbrev pub weight : Status → ℕ
weight status.Free = 0
weight status.Owned = 0
weight (status.Shared n) = 0
weight status.Raw = 0
weight (status.Collected n b) = 0
weight status.Retired = 1
weight status.Idle = 0
weight status.Deferred = 1

-- 1 for a place with an item or a job
abbrev pub occupied : Status → ℕ
occupied status.Free = 0
occupied status.Owned = 1
occupied (status.Shared n) = 1
occupied status.Raw = 1
occupied (status.Collected n b) = 1
occupied status.Retired = 1
occupied status.Idle = 0
occupied status.Deferred = 1

-- 1 for a free slot
abbrev pub vacancy : Status → ℕ
vacancy status.Free = 1
vacancy status.Owned = 0
vacancy (status.Shared n) = 0
vacancy status.Raw = 0
vacancy (status.Collected n b) = 0
vacancy status.Retired = 0
vacancy status.Idle = 0
vacancy status.Deferred = 0

-- 1 for a job place without a job
abbrev pub idleness : Status → ℕ
idleness status.Free = 0
idleness status.Owned = 0
idleness (status.Shared n) = 0
idleness status.Raw = 0
idleness (status.Collected n b) = 0
idleness status.Retired = 0
idleness status.Idle = 1
idleness status.Deferred = 0

-- a place for jobs, with one or without
abbrev pub is_job : Status → Bool
is_job status.Free = false
is_job status.Owned = false
is_job (status.Shared n) = false
is_job status.Raw = false
is_job (status.Collected n b) = false
is_job status.Retired = false
is_job status.Idle = true
is_job status.Deferred = true

-- 1 for a free cell
abbrev pub emptiness : Cell → ℕ
emptiness cell.Free = 1
emptiness (cell.OfOwned o t) = 0
emptiness (cell.OfShared o t) = 0
emptiness (cell.OfRaw o t) = 0

-- what a place is once it was reclaimed
abbrev pub vacated : Status → Status
vacated status.Free = status.Free
vacated status.Owned = status.Free
vacated (status.Shared n) = status.Free
vacated status.Raw = status.Free
vacated (status.Collected n b) = status.Free
vacated status.Retired = status.Free
vacated status.Idle = status.Idle
vacated status.Deferred = status.Idle

-- what the use of an item in a private bag names: the count that was noted, and the place that came into the bag behind it
abbrev pub mark_of : Status → Option (ℕ × ℕ)
mark_of status.Free = None
mark_of status.Owned = None
mark_of (status.Shared n) = None
mark_of status.Raw = None
mark_of (status.Collected n b) = Some (n, b)
mark_of status.Retired = None
mark_of status.Idle = None
mark_of status.Deferred = None

abbrev pub named_by : Option (ℕ × ℕ) → ℕ
named_by None = 0
named_by (Some m) = m.1

-- the place that came into a private bag behind place i, as the use of i names it
abbrev pub behind_at : {T : Type 0} → State T → ℕ → ℕ
behind_at w i = named_by (mark_of (status_at w i))

abbrev pub IsFree : {T : Type 0} → State T → ℕ → Type 0
IsFree w i = (i < length w.states) × (status_at w i ≡ status.Free)

abbrev pub NoneFree : {T : Type 0} → State T → Type 0
NoneFree w = (i : ℕ) → i < length w.states → status_at w i ≢ status.Free

-- place i is for jobs, and has none
abbrev pub IsIdle : {T : Type 0} → State T → ℕ → Type 0
IsIdle w i = (i < length w.states) × (status_at w i ≡ status.Idle)

abbrev pub NoneIdle : {T : Type 0} → State T → Type 0
NoneIdle w = (i : ℕ) → i < length w.states → status_at w i ≢ status.Idle

abbrev pub IsFreeCell : {T : Type 0} → State T → ℕ → Type 0
IsFreeCell w c = (c < length w.cells) × (cell_at w c ≡ cell.Free)

abbrev pub NoCellFree : {T : Type 0} → State T → Type 0
NoCellFree w = (c : ℕ) → c < length w.cells → cell_at w c ≢ cell.Free

-- how many slots have an item
abbrev pub in_use : {T : Type 0} → State T → ℕ
in_use w = sum_by usage w.states

-- no slot has an item, every cell is free, and no group has an owner
abbrev pub IsUnused : {T : Type 0} → State T → Type 0
IsUnused w = (in_use w ≡ 0) × (sum_by emptiness w.cells ≡ length w.cells) × NoneOut w.groups

-- changing
abbrev pub with_status : {T : Type 0} → ℕ → Status → State T → State T
with_status i s w = record w { states = set w.states i s }

abbrev pub with_cell : {T : Type 0} → ℕ → Cell → State T → State T
with_cell c k w = record w { cells = set w.cells c k }

abbrev pub with_groups : {T : Type 0} → List GroupState → State T → State T
with_groups gs w = record w { groups = gs }

-- a cell that has tag t, where it is in use
abbrev pub with_tag : Tag → Cell → Cell
with_tag t cell.Free = cell.Free
with_tag t (cell.OfOwned o s) = cell.OfOwned o t
with_tag t (cell.OfShared o s) = cell.OfShared o t
with_tag t (cell.OfRaw o s) = cell.OfRaw o t

abbrev pub placed : {T : Type 0} → ℕ → T → Status → State T → State T
placed i v s w = record w { values = set w.values i (Some v); states = set w.states i s }

-- the item in slot i is v
abbrev pub with_value : {T : Type 0} → ℕ → T → State T → State T
with_value i v w = record w { values = set w.values i (Some v) }

-- slot i is free, and has no value
abbrev pub slot_freed : {T : Type 0} → ℕ → State T → State T
slot_freed i w = record w { values = set w.values i None; states = set w.states i status.Free }

abbrev pub raised : {T : Type 0} → State T → State T
raised w = record w { count = w.count + 1 }

-- participant p is changed by f
abbrev pub changing : {T : Type 0} → ℕ → (ParticipantState → ParticipantState) → State T → State T
changing p f w = record w { participants = set w.participants p (f (participant_at w p)) }

abbrev pub with_local_state : LocalState → ParticipantState → ParticipantState
with_local_state k m = record m { local = k }

-- the outermost guard of m opens, and publishes the count n
abbrev pub published_at : ℕ → ParticipantState → ParticipantState
published_at n m = with_local_state (record m.local { nesting = 1; published = n; previous = n; accelerated = false }) m

-- the outermost guard of m closes, with so many closings since the last scan
abbrev pub concluded_with : ℕ → ParticipantState → ParticipantState
concluded_with closings m = with_local_state (record m.local { nesting = 0; closings = closings }) m

-- m asks that its closing scans
abbrev pub hastened : ParticipantState → ParticipantState
hastened m = with_local_state (record m.local { accelerated = true }) m

abbrev pub with_local : {T : Type 0} → ℕ → LocalState → State T → State T
with_local p k w = changing p (with_local_state k) w

-- place i waits in the current bag of m, which has garbage from now on
abbrev pub put_participant : ℕ → ParticipantState → ParticipantState
put_participant i m = record m { local = record m.local { garbage = true }; current = m.current ++ i ∷ [] }

-- participant p retires what is in place i; s is Retired for an item, Deferred for a job
abbrev pub waiting_as : {T : Type 0} → Status → ℕ → ℕ → State T → State T
waiting_as s p i w = record w { states = set w.states i s; participants = set w.participants p (put_participant i (participant_at w p)) }

abbrev pub retired : {T : Type 0} → ℕ → ℕ → State T → State T
retired p i w = waiting_as status.Retired p i w

-- the bags move on, and what was in the oldest is due
abbrev pub bags_moved_on : ParticipantState → ParticipantState
bags_moved_on m = record m { due = reverse m.oldest; oldest = m.prior; prior = m.current; current = [] }

abbrev pub rotated_bags : {T : Type 0} → ℕ → State T → State T
rotated_bags p w = changing p bags_moved_on w

-- the place that came last into the current bag is due
abbrev pub recalled : ParticipantState → ParticipantState
recalled m = record m { current = take (length m.current - 1) m.current; due = drop (length m.current - 1) m.current ++ m.due }

abbrev pub left_due : List ℕ → ParticipantState → ParticipantState
left_due is m = record m { due = is }

-- place i is vacated, and is are still due to p
abbrev pub taken : {T : Type 0} → ℕ → ℕ → List ℕ → State T → State T
taken p i is w = record w { values = set w.values i None; states = set w.states i (vacated (status_at w i)); participants = set w.participants p (left_due is (participant_at w p)) }

-- the next place that was due to p is vacated, and v was there
pub record TakesDue {T : Type 0} (p : ℕ) (v : Option T) (w w' : State T) : Type 0 where
  pub place : ℕ
  pub rest : List ℕ
  pub was : (participant_at w p).due ≡ place ∷ rest
  pub value : value_at w place ≡ v
  pub now : w' ≡ taken p place rest w

-- an open guard of m published the count n
abbrev pub is_present : ℕ → ParticipantState → Bool
is_present n m = (m.local.nesting == 0) || (m.local.published == n)

-- a new place
abbrev pub fresh : {T : Type 0} → Sizes → State T
fresh n = record {
  count = 0;
  values = replicate (n.slots + n.jobs) None;
  states = replicate n.slots status.Free ++ replicate n.jobs status.Idle;
  cells = replicate n.cells cell.Free;
  participants = replicate n.participants nobody;
  groups = [];
}
