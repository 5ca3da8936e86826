-- stacks: entries of values that hang from one cell, the newest first
use Rattle.std.specs.Prelude.{◌≡◌, ℕ, Bool, true, false, Option, None, Some, Result, Ok, Err, List, ◌∷◌}
use Rattle.sdd_world.specs.State.{State, status_at}
use Rattle.sdd_world.specs.Tokens.{shared_cell}
use Rattle.sdd_world.specs.declared.status.Status.TheVariants as status
use Rattle.sdd_world.specs.declared.tag.Tag.TheVariants as tag
pub use Rattle.sdd_lists.specs.Making.{IsNew, IsMade}
use Rattle.sdd_lists.specs.Chain.{Entry, IsList, IsDetached, IsOut, slots, undeleted}
use Rattle.sdd_lists.specs.Entries.{entry_link}
use Rattle.sdd_lists.specs.declared.linked_entry.LinkedEntry.{LinkedEntry}
use Rattle.world_containers.specs.declared.stack.Stack.{Stack}

-- the cell of a stack
abbrev pub stack_cell : {T : Type 0} → Stack T → ℕ
stack_cell s = shared_cell s.newest

-- a stack of these entries hangs from the cell
abbrev pub IsStack : {T : Type 0} → State (LinkedEntry T) → ℕ → List (Entry (LinkedEntry T)) → Type 0
IsStack w c es = IsList entry_link w c tag.None es

-- some stack hangs from the cell
pub record IsSomeStack {T : Type 0} (w : State (LinkedEntry T)) (c : ℕ) : Type 0 where
  pub entries : List (Entry (LinkedEntry T))
  pub is : IsStack w c entries

-- a new entry of the value, in slot i, was put in front of a stack, and given to the caller as well
pub record Pushes {T : Type 0} (w w' : State (LinkedEntry T)) (value : T) (c i : ℕ) : Type 0 where
  pub entry : Entry (LinkedEntry T)
  pub new : IsNew w value entry
  pub at : i ≡ entry.slot
  -- that of the stack, and the one that is given
  pub owners : status_at w' i ≡ status.Shared 2
  pub puts : (es : List (Entry (LinkedEntry T))) → IsStack w c es → IsStack w' c (entry ∷ es)

-- the first undeleted entry, in slot i, was taken from a stack; it is deleted now, and in no list
pub record Pops {T : Type 0} (w' : State (LinkedEntry T)) (c i : ℕ) (es : List (Entry (LinkedEntry T))) : Type 0 where
  pub entry : Entry (LinkedEntry T)
  pub rest : List (Entry (LinkedEntry T))
  pub is : undeleted es ≡ entry ∷ undeleted rest
  pub at : i ≡ entry.slot
  pub left : IsStack w' c rest
  pub apart : IsOut entry.slot (slots rest)
  pub gone : IsDetached entry_link w' (record entry { tag = tag.Second })

-- whether a call with a condition took an entry
abbrev pub took_entry : {S E : Type 0} → Result (Option S) E → Bool
took_entry (Ok None) = false
took_entry (Ok (Some s)) = true
took_entry (Err e) = false
