-- the two kinds of cells that keep an owner, for what is the same of both
use Rattle.std.specs.Prelude.{◌≡◌, ℕ, Option, Some}
use Rattle.sdd_table.specs.Steps.{owned_ended, shared_ended}
use Rattle.sdd_table.specs.State.{State, IsFree, cell_at, placed, with_cell}
use Rattle.sdd_table.specs.Place.{AddsOwner, TakesNoOwner, IsOwnedCell, IsSharedCell}
use Rattle.sdd_world.specs.Tokens.{ptr_slot, ptr_tag}
use Rattle.sdd_world.specs.declared.pointer.Ptr.{Ptr}
use Rattle.sdd_table.specs.declared.tag.Tag.{Tag}
use Rattle.sdd_table.specs.declared.tag.Tag.TheVariants as tag
use Rattle.sdd_table.specs.declared.status.Status.{Status}
use Rattle.sdd_table.specs.declared.status.Status.TheVariants as status
use Rattle.sdd_table.specs.declared.status.Cell.{Cell}
use Rattle.sdd_table.specs.declared.status.Cell.TheVariants as cell

pub data CellKind : Type 0 where
  KeepsOwned : CellKind
  KeepsShared : CellKind

-- a cell of the kind that keeps an owner of the item in a slot, or none, with a tag
abbrev pub cell_of : CellKind → Option ℕ → Tag → Cell
cell_of KeepsOwned item tag = cell.OfOwned item tag
cell_of KeepsShared item tag = cell.OfShared item tag

-- cell c is in use and of the kind
abbrev pub IsCellOf : {T : Type 0} → CellKind → State T → ℕ → Type 0
IsCellOf KeepsOwned w c = IsOwnedCell w c
IsCellOf KeepsShared w c = IsSharedCell w c

-- it keeps what a pointer names, with its tag
abbrev pub KeepsPtr : {T : Type 0} → CellKind → State T → ℕ → Ptr T → Type 0
KeepsPtr kind w c r = cell_at w c ≡ cell_of kind (ptr_slot r) (ptr_tag r)

-- this is so of the slot that it keeps, or none, and of its tag
abbrev pub OfKept : {T : Type 0} → CellKind → State T → ℕ → (Option ℕ → Tag → Type 0) → Type 0
OfKept kind w c Holds = (item : Option ℕ) (t : Tag) → cell_at w c ≡ cell_of kind item t → Holds item t

-- how an item is used of which one such cell keeps the only owner
abbrev pub status_of : CellKind → Status
status_of KeepsOwned = status.Owned
status_of KeepsShared = status.Shared 1

-- an item of value v was put into a free slot, and cell c keeps its owner, without a tag
abbrev pub MakesFilled : {T : Type 0} → CellKind → ℕ → T → State T → State T → Type 0
MakesFilled kind c v w w' = (i : ℕ) × IsFree w i × (w' ≡ with_cell c (cell_of kind (Some i) tag.None) (placed i v (status_of kind) w))

-- the shared item in slot i, which cell c keeps, has one owner more
abbrev pub AddsOwnerOfKept : {T : Type 0} → ℕ → ℕ → State T → State T → Type 0
AddsOwnerOfKept i c w w' = (t : Tag) × (cell_at w c ≡ cell.OfShared (Some i) t) × AddsOwner i w w'

-- cell c keeps no shared item that takes one owner more
abbrev pub KeptTakesNoOwner : {T : Type 0} → ℕ → State T → Type 0
KeptTakesNoOwner c w = (i : ℕ) (t : Tag) → cell_at w c ≡ cell.OfShared (Some i) t → TakesNoOwner i w

-- such a cell ends, and participant p gives back what it keeps
abbrev pub cell_ended : {T : Type 0} → CellKind → ℕ → ℕ → State T → State T
cell_ended KeepsOwned p c w = owned_ended p c w
cell_ended KeepsShared p c w = shared_ended p c w
