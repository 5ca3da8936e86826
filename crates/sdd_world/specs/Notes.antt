-- what collectors keep: the slots that they name, and the counts that were noted of them
use Rattle.std.specs.Prelude.{◌≡◌, ℕ, ◌<◌, ◌≤◌, false, cond, is_some, Option, None, Some, List, [], ◌∷◌, ◌++◌, length}
use Rattle.sdd_table.specs.Holding.{Hold}
use Rattle.sdd_table.specs.State.{State, behind_at, status_at, placed, with_value, with_status, with_cell, waiting_as, IsFree, IsIdle, fresh}
use Rattle.sdd_table.specs.Steps.{times, given, guard_opened, guard_closed, overdue, set_aside, enqueued, purged, left_waiting, handed_over}
use Rattle.sdd_table.specs.Dropping.{Dropped}
use Rattle.sdd_table.specs.Place.{IsPlace}
use Rattle.sdd_table.specs.declared.sizes.Sizes.{Sizes}
use Rattle.sdd_table.specs.declared.status.Status.{Status}
use Rattle.sdd_table.specs.declared.status.Status.TheVariants as status
use Rattle.sdd_table.specs.declared.status.Cell.{Cell}

-- the count that was noted of an item that waits in a collector
abbrev pub note_of : Status → Option ℕ
note_of status.Free = None
note_of status.Owned = None
note_of (status.Shared n) = None
note_of status.Raw = None
note_of (status.Collected n b) = Some n
note_of status.Retired = None
note_of status.Idle = None
note_of status.Deferred = None

abbrev pub note_at : {T : Type 0} → State T → ℕ → Option ℕ
note_at w i = note_of (status_at w i)

-- 1 for a slot of which a count was noted
abbrev pub note_count : Status → ℕ
note_count s = cond (is_some (note_of s)) 1 0

-- the collectors, one behind the other, name each slot of which a count was noted once, and no other
abbrev pub AreCollected : {T : Type 0} → List ℕ → State T → Type 0
AreCollected all w = (j : ℕ) → times j all ≡ note_count (status_at w j)

-- the notes rise along a collector from low on, at most to the count
abbrev pub NotesRise : {T : Type 0} → State T → ℕ → List ℕ → Type 0
NotesRise w low [] = low ≤ w.count
NotesRise w low (i ∷ is) = (n : ℕ) × (note_at w i ≡ Some n) × (low ≤ n) × NotesRise w n is

-- each place along a collector names the next one
abbrev pub IsLinked : {T : Type 0} → State T → List ℕ → Type 0
IsLinked w [] = Unit {0}
IsLinked w (i ∷ []) = Unit {0}
IsLinked w (i ∷ j ∷ is) = (behind_at w i ≡ j) × IsLinked w (j ∷ is)

-- no note is added, removed or changed, nor what it names, and the count doesn't fall
pub record SameNotes {T : Type 0} (w w' : State T) : Type 0 where
  pub count : w.count ≤ w'.count
  pub notes : (i : ℕ) → note_at w' i ≡ note_at w i
  pub behind : (i : ℕ) → behind_at w' i ≡ behind_at w i

-- a collector beside others: they name what was collected, its notes rise, and its places name one another
pub record IsInOrder {T : Type 0} (mine others : List ℕ) (w : State T) : Type 0 where
  pub named : AreCollected (mine ++ others) w
  pub rise : NotesRise w 0 mine
  pub linked : IsLinked w mine

-- nothing in a collector is overdue
abbrev pub NoneOverdue : {T : Type 0} → List ℕ → State T → Type 0
NoneOverdue mine w = (j : ℕ) → 1 ≤ times j mine → overdue w.count (status_at w j) ≡ false

-- what collectors keep, over every call
pub record CollectorsAreInOrder {T : Type 0} (holds : T → List Hold) : Type 0 where
  pub fresh : (n : Sizes) → AreCollected {T = T} [] (fresh n)
  -- calls that collect nothing leave the notes
  pub placed : (i : ℕ) (v : T) (s : Status) (w : State T) → IsFree w i → note_of s ≡ None → SameNotes w (placed i v s w)
  pub written : (i : ℕ) (v : T) (w : State T) → SameNotes w (with_value i v w)
  pub used : (i : ℕ) (s : Status) (w : State T) → i < length w.states → note_at w i ≡ None → note_of s ≡ None → SameNotes w (with_status i s w)
  pub celled : (c : ℕ) (k : Cell) (w : State T) → SameNotes w (with_cell c k w)
  pub given : (p : ℕ) (h : Hold) (w : State T) → SameNotes w (given p h w)
  pub dropped : (h : Hold) (w w' : State T) → IsPlace w → Dropped holds h w w' → SameNotes w w'
  pub deferred : (p i : ℕ) (w : State T) → IsIdle w i → SameNotes w (waiting_as status.Deferred p i w)
  pub opened : (p : ℕ) (w : State T) → IsPlace w → p < length w.participants → SameNotes w (guard_opened holds p w)
  pub closed : (p : ℕ) (w : State T) → SameNotes w (guard_closed p w)
  -- so collectors name the same slots, their notes rise, and their places name one another
  pub named : (all : List ℕ) (w w' : State T) → SameNotes w w' → AreCollected all w → AreCollected all w'
  pub rise : (low : ℕ) (mine : List ℕ) (w w' : State T) → SameNotes w w' → NotesRise w low mine → NotesRise w' low mine
  pub linked : (mine : List ℕ) (w w' : State T) → SameNotes w w' → IsLinked w mine → IsLinked w' mine
  -- a collector with room for all places has room for one more item
  pub room : (mine others : List ℕ) (i : ℕ) (w : State T) → AreCollected (mine ++ others) w → i < length w.states → note_at w i ≡ None → length mine < length w.states
  -- what is done with a collector leaves another one in order
  pub collected_beside : (p n i : ℕ) (mine other rest : List ℕ) (w : State T) → i < length w.states → note_at w i ≡ None → IsInOrder mine (other ++ rest) w → IsInOrder other (mine ++ rest) w → IsInOrder other (enqueued n mine i ++ rest) (set_aside p n mine i w)
  pub purged_beside : (p : ℕ) (mine other rest : List ℕ) (w : State T) → IsInOrder mine (other ++ rest) w → IsInOrder other (mine ++ rest) w → IsInOrder other (left_waiting holds p mine w ++ rest) (purged holds p mine w)
  pub handed_beside : (p : ℕ) (mine other rest : List ℕ) (w : State T) → IsInOrder mine (other ++ rest) w → IsInOrder other (mine ++ rest) w → IsInOrder other rest (handed_over p mine w)
  -- an item is collected, what is overdue is reclaimed, and the rest is handed over
  pub collected : (p n i : ℕ) (mine others : List ℕ) (w : State T) → i < length w.states → note_at w i ≡ None → IsInOrder mine others w → IsInOrder (enqueued n mine i) others (set_aside p n mine i w)
  pub purged : (p : ℕ) (mine others : List ℕ) (w : State T) → IsInOrder mine others w → IsInOrder (left_waiting holds p mine w) others (purged holds p mine w) × NoneOverdue (left_waiting holds p mine w) (purged holds p mine w)
  pub handed : (p : ℕ) (mine others : List ℕ) (w : State T) → IsInOrder mine others w → AreCollected others (handed_over p mine w)
