-- what owners and cells show to clauses: numbers of slots and cells
use Rattle.std.specs.Prelude.{ℕ, Option}
use Rattle.sdd_table.specs.Groups.{name_of}
use Rattle.sdd_table.specs.Holding.{Hold, OwnedItem, SharedItem, OwnedIn, SharedIn, OwnerGroup}
use Rattle.sdd_table.specs.declared.owner.Owned.{Owned}
use Rattle.sdd_table.specs.declared.owner.Shared.{Shared}
use Rattle.sdd_table.specs.declared.owner.Kept.{Kept}
use Rattle.sdd_table.specs.declared.cell.AtomicOwned.{AtomicOwned}
use Rattle.sdd_table.specs.declared.cell.AtomicShared.{AtomicShared}
use Rattle.sdd_table.specs.declared.link.Link.{Link}
use Rattle.std.specs.Option.{option_map}
use Rattle.sdd_table.specs.declared.loaded.Loaded.{Loaded}
use Rattle.sdd_table.specs.declared.holds.Held.{Held}
use Rattle.sdd_table.specs.declared.holds.Held.TheVariants as held

-- the slot of an item
abbrev pub owned_slot : {T : Type 0} → Owned T → ℕ
owned_slot o = o.slot

abbrev pub shared_slot : {T : Type 0} → Shared T → ℕ
shared_slot s = s.slot

abbrev pub kept_slot : Kept → ℕ
kept_slot k = k.slot

-- the slot of what was loaded, or none
abbrev pub loaded_slot : {T : Type 0} → Loaded T → Option ℕ
loaded_slot r = r.slot

-- the number of a cell
abbrev pub owned_cell : {T : Type 0} → AtomicOwned T → ℕ
owned_cell c = c.cell

abbrev pub shared_cell : {T : Type 0} → AtomicShared T → ℕ
shared_cell c = c.cell

-- an owner, a cell or an owner of a group as what an item holds
abbrev pub hold_of : {T : Type 0} → Held T → Hold
hold_of (held.Owned o) = OwnedItem (owned_slot o)
hold_of (held.Shared s) = SharedItem (shared_slot s)
hold_of (held.OwnedCell c) = OwnedIn (owned_cell c)
hold_of (held.SharedCell c) = SharedIn (shared_cell c)
hold_of (held.Group g) = OwnerGroup (name_of g)

-- the slots of owners that may be there
abbrev pub owned_slots : {T : Type 0} → Option (Owned T) → Option ℕ
owned_slots o = option_map owned_slot o

abbrev pub shared_slots : {T : Type 0} → Option (Shared T) → Option ℕ
shared_slots s = option_map shared_slot s

-- the cell that a link names
abbrev pub link_cell : {T : Type 0} → Link T → ℕ
link_cell l = shared_cell l.cell
