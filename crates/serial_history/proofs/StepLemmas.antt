-- What a step along a list leaves of it.
use Rattle.std.proofs.Common.{◌≡◌, ◌<◌, List, [], ◌∷◌, ◌++◌, length, drop, Option, Some, None, ap, ◌∙◌, arith, append_assoc}
use Rattle.std.specs.List.{slice_get}

-- what is left is shorter
pub fewer_left : {X : Type 0} (xs ys : List X) (x : X) → Some x ≡ slice_get xs 0 → ys ≡ drop 1 xs → length ys < length xs
fewer_left {X} [] ys x first left = absurd (let e : ◌≡◌ {A = Option X} (Some x) None = first in cc)
fewer_left {X} (y ∷ xs) ys x first left = omega (arith, ap (λ (zs : List X). length zs) left)

-- what was given and what is left are together what they were
pub one_given : {X : Type 0} (given xs : List X) (x : X) → Some x ≡ slice_get xs 0 → (given ++ x ∷ []) ++ drop 1 xs ≡ given ++ xs
one_given {X} given [] x first = absurd (let e : ◌≡◌ {A = Option X} (Some x) None = first in cc)
one_given {X} given (y ∷ xs) x first =
    let same : ◌≡◌ {A = Option X} (Some x) (Some y) = first in
    let e : x ≡ y = cc in
    append_assoc given (x ∷ []) xs ∙ ap (λ z. given ++ z ∷ xs) e
