-- what accelerated guards, opened and closed one by one, make of what waits
use Rattle.std.specs.Prelude.{◌≡◌, ◌≢◌, ℕ, zero, suc, ◌+◌, ◌-◌, ◌<◌, ◌≤◌, Bool, true, false, ltb, Option, None, Some, List, length}
use Rattle.sdd_table.specs.Groups.{GroupsShrink, row_at}
use Rattle.sdd_table.specs.Holding.{Hold, OwnedItem, SharedItem, OwnedIn, SharedIn, OwnerGroup}
use Rattle.sdd_table.specs.State.{State, participant_at, local_at, status_at, value_at, cell_at, with_local, in_use}
use Rattle.sdd_table.specs.Steps.{times, guard_opened, guard_closed, released, bags_empty, NoneOpen}
use Rattle.sdd_table.specs.Place.{IsPlace, held_times}
use Rattle.sdd_table.specs.Frame.{OnlyParticipant}
use Rattle.sdd_world.specs.Counting.{tally}
use Rattle.sdd_table.specs.declared.status.Status.{Status}
use Rattle.sdd_table.specs.declared.status.Status.TheVariants as status
use Rattle.sdd_table.specs.declared.status.Cell.{Cell}
use Rattle.sdd_table.specs.declared.status.Cell.TheVariants as cell

-- the slot that a cell names
abbrev pub slot_kept : Cell → Option ℕ
slot_kept cell.Free = None
slot_kept (cell.OfOwned o t) = o
slot_kept (cell.OfShared o t) = o
slot_kept (cell.OfRaw o t) = o

-- an item with owners, an item that waits, or no item: what there is in a place that keeps shared items alone
abbrev pub is_plain : Status → Bool
is_plain status.Free = true
is_plain status.Owned = false
is_plain (status.Shared n) = ltb 0 n
is_plain status.Raw = false
is_plain (status.Collected n b) = false
is_plain status.Retired = true
is_plain status.Idle = false
is_plain status.Deferred = false

-- every place is so
abbrev pub IsPlain : {T : Type 0} → State T → Type 0
IsPlain w = (j : ℕ) → is_plain (status_at w j) ≡ true

-- values, what cells and rows name, groups and jobs only go; a plain place stays plain
pub record Shrinks {T : Type 0} (w w' : State T) : Type 0 where
  pub values : (j : ℕ) (u : T) → value_at w' j ≡ Some u → value_at w j ≡ Some u
  pub cells : (c j : ℕ) → slot_kept (cell_at w' c) ≡ Some j → slot_kept (cell_at w c) ≡ Some j
  pub rows : (g j : ℕ) → 1 ≤ times j (row_at w'.groups g) → 1 ≤ times j (row_at w.groups g)
  pub groups : GroupsShrink w.groups w'.groups
  pub jobs : (j : ℕ) → status_at w' j ≡ status.Deferred → status_at w j ≡ status.Deferred
  pub plain : (j : ℕ) → is_plain (status_at w j) ≡ true → is_plain (status_at w' j) ≡ true

-- nothing waits for p, it has nothing to scan for, and no guard of its last nesting was accelerated
pub record IsQuiet {T : Type 0} (w : State T) (p : ℕ) : Type 0 where
  pub empty : bags_empty (participant_at w p) ≡ true
  pub clean : (local_at w p).garbage ≡ false
  pub slow : (local_at w p).accelerated ≡ false

-- all but the participants is as it was
pub record OnlyParticipantsChange {T : Type 0} (w w' : State T) : Type 0 where
  pub count : w'.count ≡ w.count
  pub values : w'.values ≡ w.values
  pub states : w'.states ≡ w.states
  pub cells : w'.cells ≡ w.cells
  pub groups : w'.groups ≡ w.groups

-- what guards and owners that are given back leave
pub record GivesOnly {T : Type 0} (holds : T → List Hold) : Type 0 where
  -- a guard that opens only takes away; it counts
  pub opening : (p : ℕ) (w : State T) → IsPlace w → p < length w.participants → Shrinks w (guard_opened holds p w) × (in_use (guard_opened holds p w) ≤ in_use w) × ((local_at (guard_opened holds p w) p).nesting ≡ (local_at w p).nesting + 1)
  -- one that closes leaves all items, cells and groups
  pub closing : (p : ℕ) (w : State T) → p < length w.participants → ((guard_closed p w).values ≡ w.values) × ((guard_closed p w).states ≡ w.states) × ((guard_closed p w).cells ≡ w.cells) × ((guard_closed p w).groups ≡ w.groups) × ((local_at (guard_closed p w) p).nesting ≡ (local_at w p).nesting - 1)
  -- where nothing waits for p, its guards leave the count too, and nothing waits for it
  pub quiet_opening : (p : ℕ) (w : State T) → IsPlace w → p < length w.participants → IsQuiet w p → OnlyParticipantsChange w (guard_opened holds p w) × IsQuiet (guard_opened holds p w) p
  pub quiet_closing : (p : ℕ) (w : State T) → p < length w.participants → IsQuiet w p → OnlyParticipantsChange w (guard_closed p w) × IsQuiet (guard_closed p w) p
  -- an owner that is given back takes nothing away yet
  pub giving_back : (p i : ℕ) (w : State T) → IsPlace w → p < length w.participants → Shrinks w (released p i w) × (in_use (released p i w) ≡ in_use w) × ((released p i w).count ≡ w.count)

-- p asks that its closing scans
abbrev pub accelerated : {T : Type 0} → ℕ → State T → State T
accelerated p w = with_local p (record (local_at w p) { accelerated = true }) w

-- p opens a guard, accelerates it and closes it
abbrev pub passed : {T : Type 0} → (T → List Hold) → ℕ → State T → State T
passed holds p w = guard_closed p (accelerated p (guard_opened holds p w))

-- so n times, one by one
abbrev pub passed_times : {T : Type 0} → (T → List Hold) → ℕ → ℕ → State T → State T
passed_times holds p zero w = w
passed_times holds p (suc n) w = passed_times holds p n (passed holds p w)

-- no guard is open, and the count can be raised n times
pub record CanPass {T : Type 0} (n p : ℕ) (w : State T) : Type 0 where
  pub place : IsPlace w
  pub known : p < length w.participants
  pub none_open : NoneOpen w
  pub room : w.count + n ≤ 18446744073709551615

-- an owner of the item in slot j, a cell that keeps one, or a group whose row does
abbrev pub Reaches : {T : Type 0} → State T → Hold → ℕ → Type 0
Reaches w (OwnedItem i) j = i ≡ j
Reaches w (SharedItem i) j = i ≡ j
Reaches w (OwnedIn c) j = slot_kept (cell_at w c) ≡ Some j
Reaches w (SharedIn c) j = slot_kept (cell_at w c) ≡ Some j
Reaches w (OwnerGroup g) j = 1 ≤ times j (row_at w.groups g)

-- what an item holds has a lower level than it
abbrev pub IsLayered : {T : Type 0} → (T → List Hold) → (T → ℕ) → State T → Type 0
IsLayered {T} holds level w = (i j : ℕ) (v u : T) (h : Hold) → value_at w i ≡ Some v → 1 ≤ tally h (holds v) → Reaches w h j → value_at w j ≡ Some u → level u < level v

-- what waits in the bags of p has a level below n
abbrev pub WaitsBelow : {T : Type 0} → (T → ℕ) → ℕ → ℕ → State T → Type 0
WaitsBelow {T} level n p w = (j : ℕ) (v : T) → 1 ≤ held_times j (participant_at w p) → value_at w j ≡ Some v → level v < n

-- no job waits
abbrev pub NoJobWaits : {T : Type 0} → State T → Type 0
NoJobWaits w = (j : ℕ) → status_at w j ≢ status.Deferred

-- accelerated guards of one participant, where no other guard is open, reclaim level by level
pub record PassesReclaim {T : Type 0} (holds : T → List Hold) : Type 0 where
  -- each raises the count once, and changes no other participant
  pub raised : (n m p : ℕ) (w : State T) → CanPass (n + m) p w → ((passed_times holds p n w).count ≡ w.count + n) × CanPass m p (passed_times holds p n w) × OnlyParticipant p w (passed_times holds p n w)
  -- four of them reclaim all that waited; what waits then was held by it
  pub lowered : (level : T → ℕ) (n p : ℕ) (w : State T) → CanPass 4 p w → IsLayered holds level w → WaitsBelow level (n + 1) p w → IsLayered holds level (passed_times holds p 4 w) × WaitsBelow level n p (passed_times holds p 4 w)
  -- no item waits at level 0, so the bags are empty
  pub emptied : (level : T → ℕ) (p : ℕ) (w : State T) → IsPlace w → p < length w.participants → NoJobWaits w → WaitsBelow level 0 p w → bags_empty (participant_at w p) ≡ true
  pub no_job : (n p : ℕ) (w : State T) → CanPass n p w → NoJobWaits w → NoJobWaits (passed_times holds p n w)
