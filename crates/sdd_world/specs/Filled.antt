-- cells that keep an item
use Rattle.std.specs.Prelude.{◌≡◌, ℕ, ◌<◌, length, None, Some}
use Rattle.sdd_table.specs.State.{State, cell_at}
use Rattle.sdd_table.specs.Place.{IsShared}
use Rattle.sdd_table.specs.Tokens.{shared_cell}
use Rattle.sdd_table.specs.declared.cell.AtomicShared.{AtomicShared}
use Rattle.sdd_table.specs.declared.tag.Tag.{Tag}
use Rattle.sdd_table.specs.declared.status.Cell.{Cell}
use Rattle.sdd_table.specs.declared.status.Cell.TheVariants as cell

-- the slot of the item that a cell keeps, 0 where it keeps none
abbrev pub cell_slot : Cell → ℕ
cell_slot cell.Free = 0
cell_slot (cell.OfOwned o t) = 0
cell_slot (cell.OfShared None t) = 0
cell_slot (cell.OfShared (Some i) t) = i
cell_slot (cell.OfRaw o t) = 0

abbrev pub slot_in : {T : Type 0} → State T → ℕ → ℕ
slot_in w c = cell_slot (cell_at w c)

-- so of a cell that a caller has
abbrev pub slot_kept_by : {T : Type 0} → AtomicShared T → State T → ℕ
slot_kept_by c w = slot_in w (shared_cell c)

-- a place, seen as its state, in which the item that a cell keeps has another value
abbrev pub with_kept : {T W : Type 0} → (W → State T) → (ℕ → T → W → W) → AtomicShared T → T → W → W
with_kept state with_item c v w = with_item (slot_kept_by c (state w)) v w

-- cell c keeps an owner of a shared item
pub record IsFilled {T : Type 0} (w : State T) (c : ℕ) : Type 0 where
  pub inside : c < length w.cells
  pub item : ℕ
  pub tag : Tag
  pub is : cell_at w c ≡ cell.OfShared (Some item) tag
  pub shared : IsShared w item
