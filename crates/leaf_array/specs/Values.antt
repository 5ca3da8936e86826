-- What a client's keys and values have to keep for a list of them to mean what it says.
use Rattle.std.specs.Prelude.{◌≡◌, Bool, true}

-- a clone is the value itself
abbrev pub ClonesAreSame : {X : Type 0} → (X → X → Type 0) → Type 0
ClonesAreSame {X} is_clone = (x y : X) → is_clone x y → y ≡ x

-- equals are one value
abbrev pub EqualsAreSame : {X : Type 0} → (X → X → Bool) → Type 0
EqualsAreSame {X} eq = (x y : X) → eq x y ≡ true → x ≡ y
