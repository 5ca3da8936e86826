-- what entries of lists show to clauses, and what the steps on cells say of them
use Rattle.std.specs.Prelude.{◌≡◌, ◌≢◌, ◌⊎◌, ◌^◌, ◌<◌, ◌≤◌, ◌+◌, ℕ, Bool, true, false, ◌-◌, List, ◌++◌, ◌∷◌, [], Option, Some, IfSome, length}
use Rattle.sdd_domain.specs.Cells.{cell_number}
use Rattle.sdd_domain.specs.CellSteps.{CellStep, NamesWith, HasFoundLast, HasMade, HasReadCell, HasReadOften, HasStored, step_on}
use Rattle.sdd_domain.specs.Comparing.{code_of, owner_code, owner_slot}
use Rattle.sdd_domain.specs.Pointers.{ptr_item, ptr_slot, ptr_tag}
use Rattle.sdd_domain.specs.Sharing.{kept_in, IsOwnerOf}
use Rattle.sdd_domain.specs.Tokens.{cell_count}
use Rattle.sdd_domain.specs.declared.domain.Domain.{Domain}
use Rattle.sdd_domain.specs.declared.local.Local.{Local}
use Rattle.sdd_domain.specs.declared.pointer.Ptr.{Ptr}
use Rattle.sdd_domain.specs.declared.shared.Shared.{Shared}
use Rattle.sdd_plain.specs.Epochs.{tag_number}
use Rattle.shared_lists.specs.Lists.{AreLinksOf, IsLinkOf, links_count}
use Rattle.shared_lists.specs.declared.linked_entry.LinkedEntry.{LinkedEntry}
use Rattle.shared_lists.specs.declared.linked_entry.Tried.{Tried}
use Rattle.shared_lists.specs.declared.linked_entry.Tried.TheVariants.{Done, Deleted, Slow}
use Rattle.shared_lists.specs.declared.links.Links.{Links}

-- its item, its slot, its link's number among the cells of the place, and the links of the place
abbrev pub entry_item : {T : Type 0} → LinkedEntry T → T
entry_item e = e.item.now

abbrev pub entry_slot : {T : Type 0} → LinkedEntry T → ℕ
entry_slot e = e.slot

abbrev pub entry_cell : {T : Type 0} → LinkedEntry T → ℕ
entry_cell e = cell_number e.link.now

abbrev pub links_of : {T : Type 0} → LinkedEntry T → Links T
links_of e = e.links.now

-- it has the link of its slot, among cells of a place with as many cells as this one
abbrev pub IsEntryOf : {T : Type 0} → LinkedEntry T → Domain T → Type 0
IsEntryOf e d = (entry_cell e < cell_count d) × AreLinksOf (links_of e) d × IsLinkOf (links_of e) (entry_slot e) (entry_cell e)

-- the tag that a push leaves
abbrev pub mark_number : Bool → ℕ
mark_number false = 0
mark_number true = 1

-- an owner of the same item, with the same value, in the same place
abbrev pub IsBackAs : {T : Type 0} → Shared T → Shared T → Type 0
IsBackAs {T} s owner = (kept_in s ≡ kept_in owner) × (owner_slot (Some s) ≡ owner_slot (Some owner)) × ((x : T) → IsOwnerOf owner x → IsOwnerOf s x)

-- the same but for the slot, of which lending an item says nothing
abbrev pub IsLentAs : {T : Type 0} → Shared T → Shared T → Type 0
IsLentAs {T} s owner = (kept_in s ≡ kept_in owner) × ((x : T) → IsOwnerOf owner x → IsOwnerOf s x)

-- where the owner's slot has a link, that was emptied, and has no tag
abbrev pub HasBegun : {T : Type 0} → Local T → Links T → Shared T → Local T → Type 0
HasBegun old links s new = s.slot < links_count links → (cell : ℕ) × (w : ℕ) × IsLinkOf links s.slot cell × HasStored old cell w 0 0 new

-- its last two steps on cells: it left in the one cell what the other one then was found to name, and there this tag and code, where it found that tag
abbrev pub HasPushed : {T : Type 0} → Local T → ℕ → ℕ → ℕ → ℕ → ℕ → Local T → Type 0
HasPushed old own cell t m code new = (xs : List CellStep) × (u : ℕ) × (z : ℕ) × (w : ℕ) × (v : ℕ) × (k : ℕ) × NamesWith z 0 k × NamesWith w t k × NamesWith v m code × HasMade old (xs ++ step_on old own u z ∷ step_on old cell w v ∷ []) new

-- the entry of this owner, as it was lent, was pushed behind that entry, another one, which wasn't deleted
abbrev pub HasPushedBehind : {T : Type 0} → Local T → LinkedEntry T → ℕ → Shared T → Local T → Type 0
HasPushedBehind old e m s new = (own : ℕ) × (t : ℕ) × (q : Shared _) × (t < 2) × (s.slot ≢ entry_slot e) × IsLinkOf (links_of e) s.slot own × IsLentAs q s × HasPushed old own (entry_cell e) t m (owner_code (Some q)) new

-- its last step on cells found this one with the tag of a deleted entry
abbrev pub HasFoundDeleted : {T : Type 0} → Local T → ℕ → Local T → Type 0
HasFoundDeleted old cell new = (xs : List CellStep) × (w : ℕ) × (t : ℕ) × (k : ℕ) × (2 ≤ t) × NamesWith w t k × HasMade old (xs ++ step_on old cell w w ∷ []) new

-- it made this many steps on cells
abbrev pub HasMadeMany : {T : Type 0} → Local T → ℕ → Local T → Type 0
HasMadeMany old n new = (xs : List CellStep) × (n ≤ length xs) × HasMade old xs new

-- its one step on cells read the link of this slot, if it has one, and found what this pointer shows
abbrev pub HasReadLink : {T : Type 0} → Local T → Links T → ℕ → Ptr T → Local T → Type 0
HasReadLink old links slot next new = slot < links_count links → (cell : ℕ) × IsLinkOf links slot cell × HasReadCell old cell (tag_number (ptr_tag next)) (code_of (ptr_slot next)) new

-- its last step on cells found this one with such a tag, or it read it 2^64 times
abbrev pub HasFoundTag : {T : Type 0} → Local T → ℕ → (ℕ → Type 0) → Local T → Type 0
HasFoundTag old cell Is new = ((t : ℕ) × (k : ℕ) × Is t × HasFoundLast old cell t k new) ⊎ HasReadOften old cell (2 ^ 64) new

-- a pointer to an owner's item, with this tag
abbrev pub PointsTo : {T : Type 0} → Ptr T → Shared T → ℕ → Type 0
PointsTo {T} p owner tag = (ptr_slot p ≡ owner_slot (Some owner)) × (tag_number (ptr_tag p) ≡ tag) × ((x : T) → IsOwnerOf owner x → ptr_item p ≡ Some x)

-- what one try came to
abbrev pub HasTried : {T : Type 0} → Tried T → Local T → ℕ → ℕ → ℕ → Shared T → Local T → Type 0
HasTried Done old cell own m s new = (t : ℕ) × (t < 2) × HasPushed old own cell t m (owner_code (Some s)) new
HasTried (Deleted back) old cell own m s new = IsBackAs back s × HasFoundDeleted old cell new
HasTried (Slow back) old cell own m s new = IsBackAs back s × HasMadeMany old 1 new

-- why the entry of an owner isn't pushed: it is that entry itself, or has no link; or that entry was found deleted; or others were faster each time
abbrev pub IsRefusedFor : {T : Type 0} → Local T → LinkedEntry T → Shared T → Local T → Type 0
IsRefusedFor old e s new = (s.slot ≡ entry_slot e) ⊎ ((links_count (links_of e) ≤ s.slot) ⊎ (HasFoundDeleted old (entry_cell e) new ⊎ HasMadeMany old (2 ^ 64 - 1) new))

-- A walk from one cell on to another, by these steps: each cell was found to name an entry, whose link was found with the tag of a deleted one and is the next cell.
pub data Walks {T : Type 0} (old : Local T) (links : Links T) (cell : ℕ) : List CellStep → ℕ → Type 0 where
  here : Walks old links cell [] cell
  past : {xs : List CellStep} {c : ℕ} (w s k d u t j : ℕ) → Walks old links cell xs c → NamesWith w s (k + 1) → IsLinkOf links k d → NamesWith u t j → 2 ≤ t → Walks old links cell (xs ++ step_on old c w w ∷ step_on old d u u ∷ []) d

-- behind such a walk it found the entry in this slot, whose link had no such tag; it did nothing else to cells
abbrev pub HasFoundNext : {T : Type 0} → Local T → Links T → ℕ → ℕ → Local T → Type 0
HasFoundNext old links cell k new = (xs : List CellStep) × (c : ℕ) × (d : ℕ) × (w : ℕ) × (u : ℕ) × (s : ℕ) × (t : ℕ) × (j : ℕ) × Walks old links cell xs c × IsLinkOf links k d × NamesWith w s (k + 1) × NamesWith u t j × (t < 2) × HasMade old (xs ++ step_on old c w w ∷ step_on old d u u ∷ []) new

-- behind such a walk it found the entry in this slot, if there is a slot and it has a link
abbrev pub HasFoundNextIn : {T : Type 0} → Local T → Links T → ℕ → Option ℕ → Local T → Type 0
HasFoundNextIn old links cell slot new = IfSome slot (λ k. k < links_count links → HasFoundNext old links cell k new)

-- behind such a walk it found nothing more; or the walk was this long
abbrev pub HasFoundNone : {T : Type 0} → Local T → Links T → ℕ → Local T → Type 0
HasFoundNone old links cell new = (xs : List CellStep) × (c : ℕ) × Walks old links cell xs c × (((w : ℕ) × (s : ℕ) × NamesWith w s 0 × HasMade old (xs ++ step_on old c w w ∷ []) new) ⊎ ((2 ^ 64 - 1 ≤ length xs) × HasMade old xs new))
