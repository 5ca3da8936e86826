-- which item an owner is of, by its slot
use Rattle.std.specs.Prelude.{◌≡◌, ◌⊎◌, ℕ, ◌+◌, ◌^◌, ◌<◌, Bool, true, IsTrue, List, ◌∷◌, Option, None, Some, IfSome}
use Rattle.atomic_table.specs.Table.{Me}
use Rattle.domain_table.specs.Layout.{packed}
use Rattle.domain_table.specs.Outcomes.{HasSwapped}
use Rattle.domain_table.specs.Plays.{with_step}
use Rattle.domain_table.specs.Views.{of_participant}
use Rattle.sdd_steps.specs.Steps.{is_ready}
use Rattle.sdd_plain.specs.Epochs.{tag_number}
use Rattle.sdd_plain.specs.declared.tag.Tag.{Tag}
use Rattle.sdd_domain.specs.CellSteps.{HasExchanged, HasReadCell, HasReadOften, HasFoundLast, HasRetagged}
use Rattle.sdd_domain.specs.Pointers.{ptr_slot, ptr_tag}
use Rattle.sdd_domain.specs.Sharing.{kept_in, IsOwnerOf}
use Rattle.domain_table.specs.declared.board.Acting.{Acting}
use Rattle.domain_table.specs.declared.board.Home.{Home}
use Rattle.domain_table.specs.declared.board.Home.TheVariants.{Part}
use Rattle.sdd_domain.specs.declared.local.Local.{Local}
use Rattle.sdd_domain.specs.declared.pointer.Ptr.{Ptr}
use Rattle.sdd_domain.specs.declared.shared.Shared.{Shared}

-- 0 for none, else one more than the slot of its item
abbrev pub owner_code : {T : Type 0} → Option (Shared T) → ℕ
owner_code None = 0
owner_code (Some s) = s.slot + 1

-- the same of a slot
abbrev pub code_of : Option ℕ → ℕ
code_of None = 0
code_of (Some k) = k + 1

-- of a word that names the item of this pointer, or nothing where that is to nothing, and has its tag, the answer is true
abbrev pub IsTrueOfPtr : {T : Type 0} → ℕ → Ptr T → Bool → Type 0
IsTrueOfPtr word r answer = (y t c : ℕ) → y < 2 ^ 31 → t < 4 → word ≡ packed y t c → c ≡ code_of (ptr_slot r) → t ≡ tag_number (ptr_tag r) → IsTrue answer

-- the slot of its item, or none for none
abbrev pub owner_slot : {T : Type 0} → Option (Shared T) → Option ℕ
owner_slot None = None
owner_slot (Some s) = Some s.slot

-- an owner of the same item, with the same value, in the same place; or none for none
abbrev pub IsBack : {T : Type 0} → Option (Shared T) → Option (Shared T) → Type 0
IsBack None None = Unit {0}
IsBack None (Some back) = ⊥
IsBack (Some new) None = ⊥
IsBack {T} (Some new) (Some back) = (kept_in back ≡ kept_in new) × (back.slot ≡ new.slot) × ((x : T) → IsOwnerOf new x → IsOwnerOf back x)

-- the part of this owner is in front of what is out with a seat
abbrev pub IsInFront : {T : Type 0} → Shared T → List (ℕ × Home T) → Type 0
IsInFront {T} s xs = (k : ℕ) × (tail : List (ℕ × Home T)) × (xs ≡ (k, Part s.part.part 1) ∷ tail)

-- its one step, on this cell, found this owner and this tag, and left those
abbrev pub HasSwappedCell : {T : Type 0} → Local T → ℕ → Option (Shared T) × Tag → Option (Shared T) × Tag → Local T → Type 0
HasSwappedCell old cell found left new = HasExchanged old cell (tag_number found.1) (owner_code found.0) (tag_number left.1) (owner_code left.0) new

-- its one step read this cell: one more owner of what was found there, or none, is this
abbrev pub HasReadOwner : {T : Type 0} → Local T → ℕ → Option (Shared T) → Local T → Type 0
HasReadOwner old cell owner new = (t : ℕ) × (k : ℕ) × HasReadCell old cell t k new × IfSome owner (λ s. owner_code (Some s) ≡ k)

-- its one step read this cell, which was as this pointer
abbrev pub HasFoundPtr : {T : Type 0} → Local T → ℕ → Ptr T → Local T → Type 0
HasFoundPtr old cell r new = HasReadCell old cell (tag_number (ptr_tag r)) (code_of (ptr_slot r)) new

-- it read this cell some times, and the last time it was as this pointer
abbrev pub HasFoundPtrLast : {T : Type 0} → Local T → ℕ → Ptr T → Local T → Type 0
HasFoundPtrLast old cell r new = HasFoundLast old cell (tag_number (ptr_tag r)) (code_of (ptr_slot r)) new

-- the last time it was as a pointer of which this held; or it read this cell 2^64 times
abbrev pub HasKeptTag : {T : Type 0} → Local T → ℕ → (Ptr T → Type 0) → Local T → Type 0
HasKeptTag {T} old cell refused new = ((r : Ptr T) × refused r × HasFoundPtrLast old cell r new) ⊎ HasReadOften old cell (2 ^ 64) new

-- it read this cell some times, and then set this tag where it was as this pointer
abbrev pub HasTagged : {T : Type 0} → Local T → ℕ → Ptr T → Tag → Local T → Type 0
HasTagged old cell r tag new = HasRetagged old cell (tag_number (ptr_tag r)) (code_of (ptr_slot r)) (tag_number tag) new

-- a cell's word that has this owner and this tag, with this spare slot
abbrev pub word_for : {T : Type 0} → ℕ → Option (Shared T) × Tag → ℕ
word_for y own = packed y (tag_number own.1) (owner_code own.0)

-- the cell with this word was swapped once: it had the one owner and tag, and has the other; and the spare slot is y now
abbrev pub SwapsOwner : {T : Type 0} → ℕ → Me (Home T) Acting → ℕ → ℕ → Option (Shared T) × Tag → Option (Shared T) × Tag → Me (Home T) Acting → Type 0
SwapsOwner i m spare y found left m' = (w : ℕ) × (v : ℕ) × HasSwapped (with_step i w v m) spare y m' × (w ≡ word_for y found) × (v ≡ word_for spare left)

-- the seat acts for a participant, which may make steps on items and releases nothing, and has this spare slot
abbrev pub CanSwap : ℕ → Acting → Type 0
CanSwap spare d = (d.kind ≡ of_participant) × (is_ready d.known ≡ true) × (d.releasing ≡ 0) × (d.spare ≡ spare) × (spare < 2 ^ 31)
