-- owners in the hands of seats
use Rattle.std.specs.Prelude.{ℕ, ◌+◌, List, [], ◌∷◌, map}
use Rattle.sdd_steps.specs.State.{times}
use Rattle.sdd_homes.specs.declared.Owner.{Owner}

-- the items of some owners
abbrev pub items_of : List Owner → List ℕ
items_of = map (λ o. o.item)

-- how many owners of i views have, by the owners in `hand`
abbrev pub owned : {V : Type 0} → (V → List Owner) → ℕ → List V → ℕ
owned hand i [] = 0
owned hand i (v ∷ vs) = times i (items_of (hand v)) + owned hand i vs
