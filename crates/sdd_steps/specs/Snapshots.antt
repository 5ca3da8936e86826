-- the state that the parts of one show, and the room that a step asks for
use Rattle.std.specs.Prelude.{◌≡◌, ℕ, ◌-◌, ◌^◌, ◌<◌, true, List, get_or}
use Rattle.sdd_steps.specs.State.{State, participant_at, item_at, no_item}
use Rattle.sdd_steps.specs.Steps.{is_turning}
use Rattle.sdd_steps.specs.declared.snapshot.Snapshot.{Snapshot}
use Rattle.sdd_steps.specs.declared.item.Item.{Item}
use Rattle.sdd_steps.specs.declared.item.ItemState.TheVariants.{Retired}

abbrev pub snapshot_state : Snapshot → State
snapshot_state s = record { count = s.count; participants = s.participants.items; cells = s.cells.items; items = s.items.items }

-- items retired by p may age by one
abbrev pub CanAge : ℕ → List Item → Type 0
CanAge p items = (i a : ℕ) → (get_or items i no_item).state ≡ Retired p a → a < 2 ^ 64 - 1

-- numbers that a step raises don't come to their end
pub record HasRoom (s : State) : Type 0 where
  pub hands : (i : ℕ) → (item_at s i).hand < 2 ^ 64 - 1
  pub owners : (i : ℕ) → (item_at s i).owners < 2 ^ 64 - 1
  pub ages : (p : ℕ) → is_turning (participant_at s p) ≡ true → CanAge p s.items
