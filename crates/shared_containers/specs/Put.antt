-- that a push put an item in, by the steps on cells that it made
use Rattle.std.specs.Prelude.{◌≡◌, ◌≢◌, ◌⊎◌, ◌+◌, ℕ, List, ◌++◌, ◌∷◌, [], Option, Some}
use Rattle.atomic_table.specs.Seated.{TableId}
use Rattle.sdd_domain.specs.Cells.{cell_number}
use Rattle.sdd_domain.specs.CellSteps.{CellStep, NamesWith, HasExchanged, HasMade, HasMadeOne, step_on}
use Rattle.sdd_domain.specs.Comparing.{code_of, owner_code}
use Rattle.sdd_domain.specs.Pointers.{ptr_slot, ptr_tag}
use Rattle.sdd_domain.specs.Tokens.{home_of}
use Rattle.sdd_domain.specs.declared.local.Local.{Local}
use Rattle.sdd_domain.specs.declared.pointer.Ptr.{Ptr}
use Rattle.sdd_domain.specs.declared.shared.Shared.{Shared}
use Rattle.sdd_plain.specs.Epochs.{tag_number}
use Rattle.shared_containers.specs.Outcomes.{IsPlaced}
use Rattle.shared_containers.specs.declared.bag.Bag.{Bag}
use Rattle.shared_containers.specs.declared.queue.Queue.{Queue}
use Rattle.shared_containers.specs.declared.stack.Stack.{Stack}
use Rattle.shared_lists.specs.Lists.{IsCellAt, IsLinkOf}
use Rattle.shared_lists.specs.declared.links.Links.{Links}
use Rattle.shared_lists.specs.declared.links.Row.{Row}

-- its last two steps on cells: it left in the one cell what the other one was then found to name, another item or none, and there this owner's item
abbrev pub HasPutBy : {T : Type 0} → Local T → ℕ → ℕ → Shared T → Local T → Type 0
HasPutBy old own cell s new = (xs : List CellStep) × (u : ℕ) × (z : ℕ) × (w : ℕ) × (v : ℕ) × (t : ℕ) × (k : ℕ) × NamesWith z 0 k × NamesWith w t k × (k ≢ owner_code (Some s)) × NamesWith v 0 (owner_code (Some s)) × HasMade old (xs ++ step_on old own u z ∷ step_on old cell w v ∷ []) new

-- its last step on cells found what this pointer shows in the cell, and left the owner's item there, with no tag
abbrev pub HasPutFor : {T : Type 0} → Local T → ℕ → Ptr T → Shared T → Local T → Type 0
HasPutFor old cell found owner new = HasExchanged old cell (tag_number (ptr_tag found)) (code_of (ptr_slot found)) 0 (owner_code (Some owner)) new

-- the first of them was on this item's link
abbrev pub HasPutBefore : {T : Type 0} → Local T → Links T → ℕ → Shared T → Local T → Type 0
HasPutBefore old links cell s new = (own : ℕ) × IsLinkOf links s.slot own × HasPutBy old own cell s new

-- its first step on cells found nothing in this one, and no tag, and left this owner's item there
abbrev pub HasFilledFirst : {T : Type 0} → Local T → ℕ → Shared T → Local T → Type 0
HasFilledFirst old cell s new = (ys : List CellStep) × (w : ℕ) × (v : ℕ) × NamesWith w 0 0 × NamesWith v 0 (owner_code (Some s)) × HasMade old (step_on old cell w v ∷ ys) new

-- the same of the link of the item in this slot
abbrev pub HasFilledLink : {T : Type 0} → Local T → Links T → Option ℕ → Shared T → Local T → Type 0
HasFilledLink old links o s new = (k : ℕ) × (cell : ℕ) × (o ≡ Some k) × IsLinkOf links k cell × HasFilledFirst old cell s new

-- one of its steps read this cell, and found it to name the item in this slot
abbrev pub HasFoundIn : {T : Type 0} → Local T → ℕ → ℕ → Local T → Type 0
HasFoundIn old cell k new = (w : ℕ) × (t : ℕ) × NamesWith w t (k + 1) × HasMadeOne old (step_on old cell w w) new

-- A way along a queue, by these steps, among others: one of its two cells was found to name an item, and the link of each item the next one, up to the item in this slot.
pub data Reaches {T : Type 0} (old : Local T) (q : Queue T) (links : Links T) : List CellStep → ℕ → Type 0 where
  from : (xs ys : List CellStep) (cell w t k : ℕ) → (cell ≡ cell_number q.last) ⊎ (cell ≡ cell_number q.front.first) → NamesWith w t (k + 1) → Reaches old q links (xs ++ step_on old cell w w ∷ ys) k
  on : {xs : List CellStep} {j : ℕ} (ys : List CellStep) (cell w t k : ℕ) → Reaches old q links xs j → IsLinkOf links j cell → NamesWith w t (k + 1) → Reaches old q links (xs ++ step_on old cell w w ∷ ys) k

-- it walked from the one slot to the other: whatever steps reach the one, these behind them reach the other
abbrev pub HasWalked : {T : Type 0} → Local T → Links T → Option ℕ → ℕ → Local T → Type 0
HasWalked {T} old links o k new = (ys : List CellStep) × (i : ℕ) × (o ≡ Some i) × HasMade old ys new × ((a : Local T) (q : Queue T) (xs : List CellStep) → home_of old ≡ home_of a → Reaches a q links xs i → Reaches a q links (xs ++ ys) k)

-- the cell that an item is appended by: that in front, or the link of an item that these steps reached
abbrev pub IsEndOf : {T : Type 0} → Local T → Queue T → Links T → List CellStep → ℕ → Type 0
IsEndOf old q links xs cell = (cell ≡ cell_number q.front.first) ⊎ ((k : ℕ) × Reaches old q links xs k × IsLinkOf links k cell)

-- one of these steps left the link of this owner's item empty, without a tag
abbrev pub Clears : {T : Type 0} → Local T → Links T → Shared T → List CellStep → Type 0
Clears old links s xs = (us : List CellStep) × (vs : List CellStep) × (own : ℕ) × (u : ℕ) × (z : ℕ) × IsLinkOf links s.slot own × NamesWith z 0 0 × (xs ≡ us ++ step_on old own u z ∷ vs)

-- these steps of it reached such a cell, and the next one found nothing there, and no tag, and left this owner's item
abbrev pub HasAppended : {T : Type 0} → Local T → Queue T → Links T → Shared T → List CellStep → Local T → Type 0
HasAppended old q links s xs new = (ys : List CellStep) × (cell : ℕ) × (w : ℕ) × (v : ℕ) × IsEndOf old q links xs cell × NamesWith w 0 0 × NamesWith v 0 (owner_code (Some s)) × HasMade old (xs ++ step_on old cell w v ∷ ys) new

-- behind steps that left the item's link empty
abbrev pub HasAppendedClear : {T : Type 0} → Local T → Queue T → Links T → Shared T → Local T → Type 0
HasAppendedClear old q links s new = (xs : List CellStep) × Clears old links s xs × HasAppended old q links s xs new

-- its last step on cells found nothing in this one, and no tag, and left this owner's item there
abbrev pub HasFilledLast : {T : Type 0} → Local T → ℕ → Shared T → Local T → Type 0
HasFilledLast old cell s new = (xs : List CellStep) × (w : ℕ) × (v : ℕ) × NamesWith w 0 0 × NamesWith v 0 (owner_code (Some s)) × HasMade old (xs ++ step_on old cell w v ∷ []) new

-- the same of one of the cells of a row
abbrev pub HasFilledOneOf : {T : Type 0} → Local T → Row T → Shared T → Local T → Type 0
HasFilledOneOf old row s new = (i : ℕ) × (cell : ℕ) × IsCellAt row i cell × HasFilledLast old cell s new

-- it filled a place of the bag's primary, or put this owner's item in front of its overflow
abbrev pub HasPutInto : {T : Type 0} → {n : ℕ} → Local T → Bag T n → Links T → Shared T → Local T → Type 0
HasPutInto old bag links s new = HasFilledOneOf old bag.primary s new ⊎ HasPutBefore old links (cell_number bag.overflow.first) s new

-- by an owner of an item with this value, that was put in front of a stack
abbrev pub HasPushed : {T : Type 0} → Local T → Stack T → Links T → T → TableId → Local T → Type 0
HasPushed {T} old stack links value place new = (s : Shared T) × IsPlaced s value place × HasPutBefore old links (cell_number stack.first) s new

-- or appended to a queue
abbrev pub HasPushedLast : {T : Type 0} → Local T → Queue T → Links T → T → TableId → Local T → Type 0
HasPushedLast {T} old q links value place new = (s : Shared T) × IsPlaced s value place × HasAppendedClear old q links s new

-- or into a bag
abbrev pub HasPushedInto : {T : Type 0} → {n : ℕ} → Local T → Bag T n → Links T → T → TableId → Local T → Type 0
HasPushedInto {T} old bag links value place new = (s : Shared T) × IsPlaced s value place × HasPutInto old bag links s new

-- or into the primary of one
abbrev pub HasPushedIntoPrimary : {T : Type 0} → {n : ℕ} → Local T → Bag T n → T → TableId → Local T → Type 0
HasPushedIntoPrimary {T} old bag value place new = (s : Shared T) × IsPlaced s value place × HasFilledOneOf old bag.primary s new
