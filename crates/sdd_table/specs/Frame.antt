-- what a call leaves alone: values of live items, and what open guards protect
use Rattle.std.specs.Prelude.{◌≡◌, ◌≢◌, ℕ, ◌<◌, ◌≤◌, Bool, true, false, List, [], ◌∷◌, length}
use Rattle.sdd_table.specs.State.{State, status_at, value_at, participant_at, local_at, is_used}
use Rattle.sdd_table.specs.Steps.{times}
use Rattle.sdd_table.specs.Place.{IsOpen, IsPlace}
use Rattle.sdd_table.specs.declared.status.Status.{Status}
use Rattle.sdd_table.specs.declared.status.Status.TheVariants as status

-- an item with this use has an owner, or is out as a raw pointer
abbrev pub has_owner : Status → Bool
has_owner status.Free = false
has_owner status.Owned = true
has_owner (status.Shared n) = true
has_owner status.Raw = true
has_owner (status.Collected n b) = false
has_owner status.Retired = false
has_owner status.Idle = false
has_owner status.Deferred = false

-- slot i has an item with an owner
abbrev pub IsLive : {T : Type 0} → State T → ℕ → Type 0
IsLive w i = has_owner (status_at w i) ≡ true

-- the open guard of q protects the item in slot i: its retirer, if it has one, can't come to its reclaim while the guard is open
pub record Protects {T : Type 0} (w : State T) (q i : ℕ) : Type 0 where
  pub used : is_used (status_at w i) ≡ true
  pub prior : (k : ℕ) → 1 ≤ times i (participant_at w k).prior → (local_at w q).published ≤ (local_at w k).previous
  pub oldest : (k : ℕ) → 1 ≤ times i (participant_at w k).oldest → (local_at w q).published < (local_at w k).previous
  pub noted : (n b : ℕ) → status_at w i ≡ status.Collected n b → (local_at w q).published ≤ n

-- what every call leaves
pub record Frame {T : Type 0} (w w' : State T) : Type 0 where
  -- how many places, cells and participants there are
  pub states : length w'.states ≡ length w.states
  pub cells : length w'.cells ≡ length w.cells
  pub participants : length w'.participants ≡ length w.participants
  -- the value of an item with an owner
  pub lives : (i : ℕ) → IsLive w i → value_at w' i ≡ value_at w i
  -- the value of an item that a guard protects which stays open, and that it does
  pub protects : (q i : ℕ) → IsOpen w q → IsOpen w' q → Protects w q i → (value_at w' i ≡ value_at w i) × Protects w' q i

-- only participant p is changed
abbrev pub OnlyParticipant : {T : Type 0} → ℕ → State T → State T → Type 0
OnlyParticipant p w w' = (k : ℕ) → k ≢ p → participant_at w' k ≡ participant_at w k

-- each participant has as many guards open as before
abbrev pub SameNesting : {T : Type 0} → State T → State T → Type 0
SameNesting w w' = (q : ℕ) → (local_at w' q).nesting ≡ (local_at w q).nesting

-- states one after another, each call leaving what it has to leave, with the guard of q open in all of them
abbrev pub IsRun : {T : Type 0} → ℕ → State T → List (State T) → Type 0
IsRun q w [] = Unit {0}
IsRun q w (v ∷ vs) = Frame w v × IsOpen v q × IsRun q v vs

abbrev pub last_of : {T : Type 0} → State T → List (State T) → State T
last_of w [] = w
last_of w (v ∷ vs) = last_of v vs

-- an open guard protects every item that has an owner
abbrev pub OwnedIsProtected : Type 0 → Type 0
OwnedIsProtected T = (w : State T) (q i : ℕ) → IsPlace w → IsLive w i → Protects w q i

-- what was live while a guard was open stays as it was until that guard closes
abbrev pub StaysUntilClosed : Type 0 → Type 0
StaysUntilClosed T = (q i : ℕ) (w : State T) (later : List (State T)) → IsPlace w → IsOpen w q → IsLive w i → IsRun q w later → value_at (last_of w later) i ≡ value_at w i
