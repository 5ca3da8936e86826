-- what items hold
use Rattle.std.specs.Prelude.{◌≡◌, ℕ, List, [], ◌∷◌, ◌++◌, map, reverse, IsSomeAnd}
use Rattle.std.specs.Mem.{manually_drop_value}
use Rattle.sdd_domain.specs.declared.held.Held.{Held}

-- an owner that an item holds, as the slot and the round of the owned item
abbrev pub told_of : {T : Type 0} → Held T → ℕ × ℕ
told_of h = (h.slot, h.part.part.life.id)

-- it is an owner of an item with this value
abbrev pub IsHeldOf : {T : Type 0} → Held T → T → Type 0
IsHeldOf h x = IsSomeAnd h.part.part.seen.value (λ m. manually_drop_value m ≡ x)

-- the owners of an item that hands these over from the last one on
abbrev pub all_told : {T : Type 0} → List (Held T) → List (ℕ × ℕ)
all_told hs = reverse (map told_of hs)

-- one such element more, behind the others
abbrev pub IsLast : {X : Type 0} → List X → (X → Type 0) → List X → Type 0
IsLast xs IsSuch ys = (x : _) × (ys ≡ xs ++ x ∷ []) × IsSuch x
