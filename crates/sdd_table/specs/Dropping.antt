-- dropping an item in place, and with it what it alone held
use Rattle.std.specs.Prelude.{◌≡◌, ℕ, zero, suc, true, List, length}
use Rattle.sdd_table.specs.Holding.{Hold}
use Rattle.sdd_table.specs.State.{State, changing, recalled, local_at, with_local, is_used, status_at, value_at}
use Rattle.sdd_table.specs.Steps.{due_reclaimed, given}

-- p reclaims what it retired last
abbrev pub undone : {T : Type 0} → (T → List Hold) → ℕ → State T → State T
undone holds p w = due_reclaimed holds p (changing p recalled w)

-- so n times, one by one
abbrev pub undone_times : {T : Type 0} → (T → List Hold) → ℕ → ℕ → State T → State T
undone_times holds p zero w = w
undone_times holds p (suc n) w = undone holds p (undone_times holds p n w)

-- an owner is given back, and what that leaves without one is reclaimed at once, one by one, until nothing of it waits
pub record Dropped {T : Type 0} (holds : T → List Hold) (h : Hold) (w w' : State T) : Type 0 where
  pub turns : ℕ
  pub now : w' ≡ with_local 0 (local_at w 0) (undone_times holds 0 turns (given 0 h w))
  -- the bags and the notes of the participants are as they were
  pub participants : w'.participants ≡ w.participants
  pub count : w'.count ≡ w.count
  pub states : length w'.states ≡ length w.states
  pub cells : length w'.cells ≡ length w.cells
  -- what is still there has its value
  pub kept : (j : ℕ) → is_used (status_at w' j) ≡ true → value_at w' j ≡ value_at w j
