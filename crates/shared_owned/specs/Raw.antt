-- what raw pointers and items that are out as raw ones show to clauses
use Rattle.std.specs.Prelude.{◌≡◌, ◌↔◌, ℕ, ◌+◌, ◌*◌, ◌^◌, ◌<◌, Option, Some, IfSome, length, slice_index_or}
use Rattle.sdd_plain.specs.Epochs.{tag_number}
use Rattle.sdd_plain.specs.declared.tag.Tag.{Tag}
use Rattle.sdd_domain.specs.Cells.{cell_number}
use Rattle.sdd_domain.specs.CellSteps.{HasExchanged, HasReadCell}
use Rattle.sdd_domain.specs.Comparing.{code_of}
use Rattle.sdd_domain.specs.declared.atomic_shared.AtomicShared.{AtomicShared}
use Rattle.sdd_domain.specs.Tokens.{cell_count, slot_count}
use Rattle.sdd_domain.specs.declared.domain.Domain.{Domain}
use Rattle.sdd_domain.specs.declared.local.Local.{Local}
use Rattle.shared_owned.specs.Alone.{sole_slot, sole_code}
use Rattle.shared_owned.specs.declared.owned.Owned.{Owned}
use Rattle.shared_owned.specs.declared.raw_items.RawItems.{RawItems}
use Rattle.shared_owned.specs.declared.raw_ptr.RawPtr.{RawPtr}

-- the slot that a raw pointer is to, or none, and its tag
abbrev pub raw_slot : {T : Type 0} → RawPtr T → Option ℕ
raw_slot p = p.slot

abbrev pub raw_tag : {T : Type 0} → RawPtr T → Tag
raw_tag p = p.tag

-- its word: four times one more than the slot, or 0 for none, and the tag
abbrev pub raw_word : {T : Type 0} → RawPtr T → ℕ
raw_word p = 4 * code_of p.slot + tag_number p.tag

-- its slot is a number of 32 bits
abbrev pub IsWithin : {T : Type 0} → RawPtr T → Type 0
IsWithin p = IfSome p.slot (λ k. k < 2 ^ 32)

-- raw items are kept in cells of a place with as many cells as this one, one for each of as many slots as it has
abbrev pub AreRawItemsOf : {T : Type 0} → RawItems T → Domain T → Type 0
AreRawItemsOf raws d = (raws.cells_of_place ≡ cell_count d) × (length raws.cells.items ≡ slot_count d)

-- the cell of this slot
abbrev pub IsRawCell : {T : Type 0} → RawItems T → ℕ → ℕ → Type 0
IsRawCell {T} raws k cell = (k < length raws.cells.items) × ((d : AtomicShared T) → cell_number (slice_index_or raws.cells.items k d) ≡ cell)

-- the owner was put into the cell of its slot, by one step
abbrev pub PutsRaw : {T : Type 0} → RawItems T → Owned T → Local T → Local T → Type 0
PutsRaw raws o old new = (cell : ℕ) × (t : ℕ) × (c : ℕ) × IfSome (sole_slot (Some o)) (λ k. IsRawCell raws k cell) × HasExchanged old cell t c 0 (sole_code (Some o)) new

-- the cell of slot k was emptied by one step, and this is true just if it named the slot's item
abbrev pub TakesRaw : {T : Type 0} → RawItems T → ℕ → Type 0 → Local T → Local T → Type 0
TakesRaw raws k IsThere old new = (cell : ℕ) × (t : ℕ) × (c : ℕ) × IsRawCell raws k cell × HasExchanged old cell t c 0 0 new × (IsThere ↔ (c ≡ k + 1))

-- or it was read by one step
abbrev pub ReadsRaw : {T : Type 0} → RawItems T → ℕ → Type 0 → Local T → Local T → Type 0
ReadsRaw raws k IsThere old new = (cell : ℕ) × (t : ℕ) × (c : ℕ) × IsRawCell raws k cell × HasReadCell old cell t c new × (IsThere ↔ (c ≡ k + 1))
