-- that a pop took an item out, by the steps on cells that it made
use Rattle.std.specs.Prelude.{◌≡◌, ◌≢◌, ◌⊎◌, ℕ, true, false, Some}
use Rattle.sdd_domain.specs.Cells.{cell_number}
use Rattle.sdd_domain.specs.CellSteps.{NamesWith, HasMadeOne, step_on}
use Rattle.sdd_domain.specs.Comparing.{owner_code, owner_slot}
use Rattle.sdd_domain.specs.Pointers.{ptr_slot}
use Rattle.sdd_domain.specs.declared.local.Local.{Local}
use Rattle.sdd_domain.specs.declared.pointer.Ptr.{Ptr}
use Rattle.sdd_domain.specs.declared.shared.Shared.{Shared}
use Rattle.shared_containers.specs.declared.bag.Bag.{Bag}
pub use Rattle.shared_lists.specs.Lists.{IsCellAt, IsLinkOf}
use Rattle.shared_lists.specs.declared.links.Links.{Links}
use Rattle.shared_containers.specs.declared.stack.Stack.{Stack}

-- one of its steps found this owner's item in the cell, and left another one there, or none
abbrev pub HasTakenOut : {T : Type 0} → Local T → ℕ → Shared T → Local T → Type 0
HasTakenOut old cell s new = (w : ℕ) × (v : ℕ) × (t : ℕ) × (u : ℕ) × (k : ℕ) × NamesWith w t (owner_code (Some s)) × NamesWith v u k × (k ≢ owner_code (Some s)) × HasMadeOne old (step_on old cell w v) new

-- one of its steps found this cell without a tag, and left it with the mark, naming what it named
abbrev pub HasMarked : {T : Type 0} → Local T → ℕ → Local T → Type 0
HasMarked old cell new = (w : ℕ) × (v : ℕ) × (k : ℕ) × NamesWith w 0 k × NamesWith v 2 k × HasMadeOne old (step_on old cell w v) new

-- it marked this cell, and the owner is one of the item that was found
abbrev pub HasMarkedFor : {T : Type 0} → Local T → ℕ → Ptr T → Shared T → Local T → Type 0
HasMarkedFor old cell found s new = (owner_slot (Some s) ≡ ptr_slot found) × HasMarked old cell new

-- it marked the link of this owner's item, which had no mark
abbrev pub HasMarkedLink : {T : Type 0} → Local T → Links T → Shared T → Local T → Type 0
HasMarkedLink old links s new = (cell : ℕ) × IsLinkOf links s.slot cell × HasMarked old cell new

-- it isn't the front of a queue
abbrev pub IsPlain : {T : Type 0} → Stack T → Type 0
IsPlain s = s.is_front ≡ false

-- a plain stack gave its item out by the step on its cell that took it out, and the front of a queue by the step on the item's link that marked it
abbrev pub HasPopped : {T : Type 0} → Local T → Stack T → Links T → Shared T → Local T → Type 0
HasPopped old stack links s new = (IsPlain stack → HasTakenOut old (cell_number stack.first) s new) × (stack.is_front ≡ true → HasMarkedLink old links s new)

-- a bag gave its item out by the step on one of its cells that took it out
abbrev pub HasPoppedOf : {T : Type 0} → {n : ℕ} → Local T → Bag T n → Shared T → Local T → Type 0
HasPoppedOf old bag s new = (cell : ℕ) × ((cell ≡ cell_number bag.overflow.first) ⊎ ((i : ℕ) × IsCellAt bag.primary i cell)) × HasTakenOut old cell s new
