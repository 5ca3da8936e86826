-- what owners show to clauses
use Rattle.std.specs.Prelude.{◌≡◌, IsSomeAnd}
use Rattle.std.specs.Mem.{manually_drop_value}
use Rattle.atomic_table.specs.Seated.{TableId}
use Rattle.sdd_domain.specs.Holding.{IsHeldOf}
use Rattle.sdd_domain.specs.declared.held.Held.{Held}
use Rattle.sdd_domain.specs.declared.shared.Shared.{Shared}

-- the place of its item
abbrev pub kept_in : {T : Type 0} → Shared T → TableId
kept_in s = s.calm.badge.table_id

-- it is an owner of an item with this value
abbrev pub IsOwnerOf : {T : Type 0} → Shared T → T → Type 0
IsOwnerOf s x = IsSomeAnd s.part.part.seen.value (λ m. manually_drop_value m ≡ x)

-- an item holds it as what it was, with the same value; and it is what an item held
abbrev pub IsHeldAs : {T : Type 0} → Shared T → Held T → Type 0
IsHeldAs s h = (x : _) → IsOwnerOf s x → IsHeldOf h x

abbrev pub IsOwnedAs : {T : Type 0} → Shared T → Held T → Type 0
IsOwnedAs s h = (x : _) → IsHeldOf h x → IsOwnerOf s x
