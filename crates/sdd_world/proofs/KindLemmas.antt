-- what holds of a cell of either kind
use Rattle.std.proofs.Common.{◌≡◌, ℕ, ◌<◌, length, Option}
use Rattle.sdd_table.specs.State.{State, cell_at, with_cell}
use Rattle.sdd_table.specs.Place.{Sound}
use Rattle.sdd_table.proofs.BagInvariantLemmas.{Gives, gives_owned_ended_as, gives_shared_ended_as}
use Rattle.sdd_table.specs.declared.tag.Tag.{Tag}
use Rattle.sdd_world.specs.Kinds.{CellKind, KeepsOwned, KeepsShared, cell_of, cell_ended, IsCellOf}
use Rattle.sdd_world.proofs.FrameLemmas.{owned_cell_used, shared_cell_used}

-- a cell that was filled anew is in use
pub kind_used : {T : Type 0} (k : CellKind) (w w' : State T) (c : ℕ) (o : Option ℕ) (t : Tag) → c < length w.cells → w' ≡ with_cell c (cell_of k o t) w → IsCellOf k w' c
kind_used KeepsOwned w w' c o t inside e = owned_cell_used w w' c o t inside e
kind_used KeepsShared w w' c o t inside e = shared_cell_used w w' c o t inside e

pub kind_inside : {T : Type 0} (k : CellKind) (w : State T) (c : ℕ) → IsCellOf k w c → c < length w.cells
kind_inside KeepsOwned w c h = h.inside
kind_inside KeepsShared w c h = h.inside

pub gives_cell_ended : {T : Type 0} (k : CellKind) (w : State T) (p c : ℕ) → Sound w → p < length w.participants → Gives p w (cell_ended k p c w)
gives_cell_ended KeepsOwned w p c h known = gives_owned_ended_as w p c _ h known
gives_cell_ended KeepsShared w p c h known = gives_shared_ended_as w p c _ h known

pub kind_is : {T : Type 0} (k : CellKind) (w : State T) (c : ℕ) → IsCellOf k w c → (item : Option ℕ) × (tag : Tag) × (cell_at w c ≡ cell_of k item tag)
kind_is KeepsOwned w c h = (h.item, h.tag, h.is)
kind_is KeepsShared w c h = (h.item, h.tag, h.is)
