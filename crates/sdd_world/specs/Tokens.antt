-- what the tokens that callers keep show to clauses: numbers of slots, cells and participants
use Rattle.std.specs.Prelude.{ℕ, Option, List}
pub use Rattle.sdd_table.specs.Tokens.{owned_slot, shared_slot, kept_slot, loaded_slot, owned_cell, shared_cell, hold_of, owned_slots, shared_slots, link_cell}
use Rattle.sdd_world.specs.declared.cell.AtomicRaw.{AtomicRaw}
use Rattle.sdd_world.specs.declared.pointer.RawPtr.{RawPtr}
use Rattle.sdd_world.specs.declared.pointer.Ptr.{Ptr}
use Rattle.sdd_world.specs.declared.collector.PrivateCollector.{PrivateCollector}
use Rattle.sdd_world.specs.declared.guard.WorldGuard.{WorldGuard}
use Rattle.sdd_table.specs.declared.tag.Tag.{Tag}
use Rattle.sdd_table.specs.declared.status.Cell.{Cell}
use Rattle.sdd_table.specs.declared.status.Cell.TheVariants as cell

-- the number of a cell of raw pointers
abbrev pub raw_cell : {T : Type 0} → AtomicRaw T → ℕ
raw_cell c = c.cell

-- the slot that a raw pointer names, or none, and its tag
abbrev pub raw_slot : {T : Type 0} → RawPtr T → Option ℕ
raw_slot r = r.slot

abbrev pub raw_tag : {T : Type 0} → RawPtr T → Tag
raw_tag r = r.tag

-- what a cell keeps that names what a raw pointer names
abbrev pub raw_word : {T : Type 0} → RawPtr T → Cell
raw_word r = cell.OfRaw (raw_slot r) (raw_tag r)

-- the slot that a pointer names, or none, and its tag
abbrev pub ptr_slot : {T : Type 0} → Ptr T → Option ℕ
ptr_slot r = r.slot

abbrev pub ptr_tag : {T : Type 0} → Ptr T → Tag
ptr_tag r = r.tag

-- the participant whose guard it is
abbrev pub guard_participant : WorldGuard → ℕ
guard_participant g = g.participant

-- the slots that wait in a private bag, in the order in which they came, and for how many it has room
abbrev pub waiting_in : {T : Type 0} → PrivateCollector T → List ℕ
waiting_in c = c.waiting.items

abbrev pub room_of : {T : Type 0} → PrivateCollector T → ℕ
room_of c = c.waiting.room
