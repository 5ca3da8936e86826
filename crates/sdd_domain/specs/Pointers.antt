-- what pointers to items show to clauses
use Rattle.std.specs.Prelude.{◌≡◌, ℕ, IsSomeAnd, Option, None, Some, option_copied}
use Rattle.std.specs.Option.{ForSome}
use Rattle.std.specs.Mem.{manually_drop_value}
use Rattle.sdd_domain.specs.declared.guard.Guard.{Guard}
use Rattle.sdd_plain.specs.declared.tag.Tag.{Tag}
use Rattle.sdd_domain.specs.declared.pointer.Loaded.{Loaded}
use Rattle.sdd_domain.specs.declared.pointer.Named.{Named}
use Rattle.sdd_domain.specs.declared.pointer.Ptr.{Ptr}

-- what a cell was found to name is read under the guards of this one's nest
abbrev pub IsUnder : {T : Type 0} → Loaded T → Guard → Type 0
IsUnder l g = ForSome l.seen (λ s. s.life ≡ g.life.id)

-- if it names an item, that has this value
abbrev pub HasLoadedItem : {T : Type 0} → Loaded T → T → Type 0
HasLoadedItem l x = ForSome l.seen (λ s. IsSomeAnd s.value (λ m. manually_drop_value m ≡ x))

-- it names an item, which has this value
abbrev pub IsLoadedOf : {T : Type 0} → Loaded T → T → Type 0
IsLoadedOf l x = IsSomeAnd l.seen (λ s. IsSomeAnd s.value (λ m. manually_drop_value m ≡ x))

-- the slot of the item that a pointer is to, or none; its tag; and its item
abbrev pub ptr_slot : {T : Type 0} → Ptr T → Option ℕ
ptr_slot r = r.slot

abbrev pub ptr_tag : {T : Type 0} → Ptr T → Tag
ptr_tag r = r.tag

abbrev pub ptr_item : {T : Type 0} → Ptr T → Option T
ptr_item r = option_copied r.item

abbrev pub slot_seen : {X : Type 0} → ℕ → Option X → Option ℕ
slot_seen k None = None
slot_seen k (Some x) = Some k

-- the slot of the item that was loaded, or none
abbrev pub loaded_slot : {T : Type 0} → Loaded T → Option ℕ
loaded_slot l = slot_seen l.slot l.seen

-- the slot of the item that a pointer was to, or none, and its tag
abbrev pub named_slot : Named → Option ℕ
named_slot n = n.slot

abbrev pub named_tag : Named → Tag
named_tag n = n.tag
