-- what guards leave of containers whose cells somebody has in hand
use Rattle.std.specs.Prelude.{ℕ, ◌<◌, ◌≤◌, List, [], length, get_or}
use Rattle.sdd_world.specs.Counting.{Counted, tally}
use Rattle.sdd_world.specs.Holding.{Hold, SharedIn}
use Rattle.sdd_world.specs.Place.{IsPlace}
use Rattle.sdd_world.specs.State.{State}
use Rattle.sdd_world.specs.Steps.{guard_closed, guard_opened}
use Rattle.sdd_world.specs.declared.tag.Tag.{Tag}
use Rattle.world_containers.specs.Bags.{IsBag}
use Rattle.sdd_lists.specs.Chain.{Entry, IsList, Leaves}
use Rattle.sdd_lists.specs.Entries.{entry_holds, entry_link}
use Rattle.world_containers.specs.Queues.{IsQueue}
use Rattle.sdd_lists.specs.declared.linked_entry.LinkedEntry.{LinkedEntry}

-- a participant of a place can open a guard there, and all owners are counted with those in hand
pub record CanOpen {T : Type 0} (p : ℕ) (hand : List Hold) (w : State (LinkedEntry T)) : Type 0 where
  pub place : IsPlace w
  pub known : p < length w.participants
  pub counted : Counted entry_holds hand w

-- containers whose cells are in hand are the same while a guard opens, whatever that reclaims, and while one closes
pub record GuardsLeave (T : Type 0) : Type 0 where
  pub lists : (c p : ℕ) (t : Tag) (es : List (Entry (LinkedEntry T))) (hand : List Hold) (w : State (LinkedEntry T)) → CanOpen p hand w → 1 ≤ tally (SharedIn c) hand → IsList entry_link w c t es → IsList entry_link (guard_opened entry_holds p w) c t es
  pub queues : (c d p : ℕ) (es : List (Entry (LinkedEntry T))) (hand : List Hold) (w : State (LinkedEntry T)) → CanOpen p hand w → 1 ≤ tally (SharedIn c) hand → 1 ≤ tally (SharedIn d) hand → IsQueue entry_link w c d es → IsQueue entry_link (guard_opened entry_holds p w) c d es
  pub bags : (n p : ℕ) (cs : List ℕ) (ps os : List (Entry (LinkedEntry T))) (hand : List Hold) (w : State (LinkedEntry T)) → CanOpen p hand w → ((k : ℕ) → k < length cs → 1 ≤ tally (SharedIn (get_or cs k 0)) hand) → IsBag n w cs ps os → IsBag n (guard_opened entry_holds p w) cs ps os
  pub closing : (p : ℕ) (w : State (LinkedEntry T)) → Leaves [] [] w (guard_closed p w)
