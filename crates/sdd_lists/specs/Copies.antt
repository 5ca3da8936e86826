-- clones of values
use Rattle.std.specs.Prelude.{◌≡◌}

-- a clone is the value itself
abbrev pub ClonesAreSame : {X : Type 0} → (X → X → Type 0) → Type 0
ClonesAreSame {X} is_clone = (x y : X) → is_clone x y → y ≡ x
