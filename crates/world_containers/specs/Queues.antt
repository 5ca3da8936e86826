-- queues: entries that hang from one cell, the oldest first, and another cell that keeps the last of them
use Rattle.std.specs.Prelude.{◌≡◌, ◌≢◌, ◌≤◌, ℕ, Option, None, Some, List, [], ◌∷◌, ◌++◌}
use Rattle.sdd_world.specs.State.{State, status_at, cell_at, with_cell}
use Rattle.sdd_world.specs.Steps.{released}
use Rattle.sdd_world.specs.Tokens.{shared_cell}
use Rattle.sdd_world.specs.declared.tag.Tag.TheVariants as tag
use Rattle.sdd_world.specs.declared.status.Status.TheVariants as status
use Rattle.sdd_world.specs.declared.status.Cell.TheVariants as cell
use Rattle.sdd_lists.specs.Chain.{Entry, IsList, IsDetached, IsOut, links, slots, undeleted}
use Rattle.world_containers.specs.Stacks.{IsNew}
use Rattle.sdd_lists.specs.Entries.{entry_link}
use Rattle.sdd_lists.specs.declared.linked_entry.LinkedEntry.{LinkedEntry}
use Rattle.world_containers.specs.declared.queue.Queue.{Queue}

-- the cells of a queue
abbrev pub oldest_cell : {T : Type 0} → Queue T → ℕ
oldest_cell q = shared_cell q.oldest

abbrev pub newest_cell : {T : Type 0} → Queue T → ℕ
newest_cell q = shared_cell q.newest

-- the slot of the last entry, if there is one
abbrev pub last_slot : {L : Type 0} → List (Entry L) → Option ℕ
last_slot [] = None
last_slot (e ∷ []) = Some e.slot
last_slot (e ∷ f ∷ es) = last_slot (f ∷ es)

-- an item with at least two owners
pub record HasTwo {L : Type 0} (w : State L) (i : ℕ) : Type 0 where
  pub owners : ℕ
  pub is : status_at w i ≡ status.Shared owners
  pub two : 2 ≤ owners

-- a queue of these entries hangs from cell c, and cell d owns the last one too
pub record IsQueue {L : Type 0} (link : L → Option ℕ) (w : State L) (c d : ℕ) (es : List (Entry L)) : Type 0 where
  pub hung : IsList link w c tag.None es
  pub newest : cell_at w d ≡ cell.OfShared (last_slot es) tag.None
  pub apart : d ≢ c
  pub out : IsOut d (links es)
  pub spare : (i : ℕ) → last_slot es ≡ Some i → HasTwo w i

-- some queue hangs from the cells
pub record IsSomeQueue {L : Type 0} (link : L → Option ℕ) (w : State L) (c d : ℕ) : Type 0 where
  pub entries : List (Entry L)
  pub is : IsQueue link w c d entries

-- some queue with an undeleted entry hangs from the cells
pub record HasOldest {L : Type 0} (link : L → Option ℕ) (w : State L) (c d : ℕ) : Type 0 where
  pub entries : List (Entry L)
  pub is : IsQueue link w c d entries
  pub some : undeleted entries ≢ []

-- a queue has the same undeleted entries
pub record KeepsQueue {L : Type 0} (link : L → Option ℕ) (w' : State L) (c d : ℕ) (es : List (Entry L)) : Type 0 where
  pub rest : List (Entry L)
  pub same : undeleted rest ≡ undeleted es
  pub left : IsQueue link w' c d rest

-- an entry can come behind the last one of a queue
pub record Follows {L : Type 0} (c d : ℕ) (es : List (Entry L)) (e : Entry L) : Type 0 where
  pub oldest : e.link ≢ c
  pub newest : e.link ≢ d
  pub link : IsOut e.link (links es)
  pub slot : IsOut e.slot (slots es)

-- the item in slot i is an entry that can come behind the last one
pub record CanFollow {L : Type 0} (link : L → Option ℕ) (w : State L) (c d i : ℕ) : Type 0 where
  pub entries : List (Entry L)
  pub entry : Entry L
  pub queue : IsQueue link w c d entries
  pub loose : IsDetached link w entry
  pub follows : Follows c d entries entry
  pub at : i ≡ entry.slot

-- a new entry of the value, in slot i, was put behind a queue, and given to the caller as well
pub record Appends {T : Type 0} (w w' : State (LinkedEntry T)) (value : T) (c d i : ℕ) : Type 0 where
  pub entry : Entry (LinkedEntry T)
  pub new : IsNew w value entry
  pub at : i ≡ entry.slot
  -- those of the list and of the newest cell, and the one that is given
  pub owners : status_at w' i ≡ status.Shared 3
  pub puts : (es : List (Entry (LinkedEntry T))) → IsQueue entry_link w c d es → IsQueue entry_link w' c d (es ++ entry ∷ [])

-- the first undeleted entry, in slot i, was taken from a queue; it is deleted now, and in no list
pub record Takes {T : Type 0} (w' : State (LinkedEntry T)) (c d i : ℕ) (es : List (Entry (LinkedEntry T))) : Type 0 where
  pub entry : Entry (LinkedEntry T)
  pub rest : List (Entry (LinkedEntry T))
  pub is : undeleted es ≡ entry ∷ undeleted rest
  pub at : i ≡ entry.slot
  pub left : IsQueue entry_link w' c d rest
  pub apart : IsOut entry.slot (slots rest)
  pub gone : IsDetached entry_link w' (record entry { tag = tag.Second })

-- a cell is emptied, and participant p gives back what it kept
abbrev pub cell_vacated : {L : Type 0} → ℕ → ℕ → Option ℕ → State L → State L
cell_vacated p d None w = with_cell d (cell.OfShared None tag.None) w
cell_vacated p d (Some i) w = released p i (with_cell d (cell.OfShared None tag.None) w)
