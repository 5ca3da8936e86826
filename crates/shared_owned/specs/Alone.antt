-- what owners that are alone, their cells and pointers show to clauses
use Rattle.std.specs.Prelude.{◌≡◌, ◌⊎◌, ℕ, ◌<◌, ◌^◌, Option, None, Some}
use Rattle.atomic_table.specs.Seated.{TableId}
use Rattle.sdd_plain.specs.declared.tag.Tag.{Tag}
use Rattle.sdd_domain.specs.Cells.{cell_number}
use Rattle.sdd_domain.specs.CellSteps.{HasReadOften}
use Rattle.sdd_domain.specs.Comparing.{owner_code, owner_slot, HasFoundPtrLast, IsBack}
use Rattle.sdd_domain.specs.Pointers.{ptr_slot, ptr_tag, ptr_item}
use Rattle.sdd_domain.specs.Sharing.{kept_in, IsOwnerOf}
use Rattle.sdd_domain.specs.Tokens.{cell_count, own_of, IsInNestButMisses}
use Rattle.sdd_domain.specs.declared.domain.Domain.{Domain}
use Rattle.sdd_domain.specs.declared.local.Local.{Local}
use Rattle.sdd_domain.specs.declared.shared.Shared.{Shared}
use Rattle.shared_owned.specs.declared.atomic_owned.AtomicOwned.{AtomicOwned}
use Rattle.shared_owned.specs.declared.owned.Owned.{Owned}
use Rattle.shared_owned.specs.declared.pointer.OwnedPtr.{OwnedPtr}

-- the owner that it is, of any that there may be
abbrev pub owner_of : {T : Type 0} → Owned T → Shared T
owner_of o = o.owner

-- the same of one that there may be
abbrev pub owner_in : {T : Type 0} → Option (Owned T) → Option (Shared T)
owner_in None = None
owner_in (Some o) = Some o.owner

-- the place of its item
abbrev pub place_in : {T : Type 0} → Owned T → TableId
place_in o = kept_in o.owner

-- it is the owner of an item with this value
abbrev pub IsSoleOwnerOf : {T : Type 0} → Owned T → T → Type 0
IsSoleOwnerOf o x = IsOwnerOf o.owner x

-- the slot of its item, or none for none
abbrev pub sole_slot : {T : Type 0} → Option (Owned T) → Option ℕ
sole_slot o = owner_slot (owner_in o)

-- 0 for none, else one more than that slot
abbrev pub sole_code : {T : Type 0} → Option (Owned T) → ℕ
sole_code o = owner_code (owner_in o)

-- an owner of the same item, with the same value, in the same place; or none for none
abbrev pub IsSoleBack : {T : Type 0} → Option (Owned T) → Option (Owned T) → Type 0
IsSoleBack new back = IsBack (owner_in new) (owner_in back)

-- the slot of the item that a pointer is to, or none; its tag; and its item
abbrev pub pointer_slot : {T : Type 0} → OwnedPtr T → Option ℕ
pointer_slot r = ptr_slot r.of

abbrev pub pointer_tag : {T : Type 0} → OwnedPtr T → Tag
pointer_tag r = ptr_tag r.of

abbrev pub pointer_item : {T : Type 0} → OwnedPtr T → Option T
pointer_item r = ptr_item r.of

-- the number of a cell, among the cells of its place
abbrev pub cell_of : {T : Type 0} → AtomicOwned T → ℕ
cell_of c = cell_number c.cell

-- it is a cell of a place with as many cells as this one
abbrev pub IsCellOf : {T : Type 0} → AtomicOwned T → Domain T → Type 0
IsCellOf c d = cell_number c.cell < cell_count d

-- the same participant of the same place, with the same guards open and the same owners in hand; its misses may differ
abbrev pub IsAsBefore : {T : Type 0} → Local T → Local T → Type 0
IsAsBefore old new = IsInNestButMisses old new × ((own_of new).nesting ≡ (own_of old).nesting)

-- it found a pointer last of which this holds, or read the cell 2^64 times
abbrev pub HasKeptTag : {T : Type 0} → Local T → ℕ → (OwnedPtr T → Type 0) → Local T → Type 0
HasKeptTag {T} old cell Is new = ((r : OwnedPtr T) × Is r × HasFoundPtrLast old cell r.of new) ⊎ HasReadOften old cell (2 ^ 64) new
