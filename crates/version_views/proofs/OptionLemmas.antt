-- lists of items that may be there, and maps of them
use Rattle.std.proofs.Common.{◌≡◌, ℕ, zero, suc, ◌<◌, List, [], ◌∷◌, length, get_or, map, refl, replicate, sym, ap, arith, is_some, Bool, Option, Some, None, IfNone, IsSome, IsTrue, ◌↔◌}
use Rattle.std.specs.List.{All, slice_get}
use Rattle.std.specs.Borrow.{Bor}
use Rattle.std.specs.Option.{option_copied, option_map}

-- what is read of mapped options
pub mapped_some : {X Y : Type 0} (f : X → Y) (xs : List (Option X)) (i : ℕ) (y : Y) → slice_get (map (option_map f) xs) i ≡ Some (Some y) → (x : X) × (slice_get xs i ≡ Some (Some x)) × (f x ≡ y)
mapped_some f [] i y e = absurd cc
mapped_some f (None ∷ xs) zero y e = absurd cc
mapped_some f (Some x ∷ xs) zero y e = (x, refl, cc)
mapped_some f (x ∷ xs) (suc i) y e = mapped_some f xs i y e

pub mapped_none : {X Y : Type 0} (f : X → Y) (xs : List (Option X)) (i : ℕ) → slice_get (map (option_map f) xs) i ≡ Some None → slice_get xs i ≡ Some None
mapped_none f [] i e = absurd cc
mapped_none f (None ∷ xs) zero e = refl
mapped_none f (Some x ∷ xs) zero e = absurd cc
mapped_none f (x ∷ xs) (suc i) e = mapped_none f xs i e

pub some_mapped : {X Y : Type 0} (f : X → Y) (xs : List (Option X)) (i : ℕ) (x : X) → slice_get xs i ≡ Some (Some x) → slice_get (map (option_map f) xs) i ≡ Some (Some (f x))
some_mapped f [] i x e = absurd cc
some_mapped f (None ∷ xs) zero x e = absurd cc
some_mapped f (Some y ∷ xs) zero x e = let same : y ≡ x = cc in ap (λ z. Some (Some (f z))) same
some_mapped f (y ∷ xs) (suc i) x e = some_mapped f xs i x e

-- what is read is there
pub read_there : {X : Type 0} (xs : List (Option X)) (i : ℕ) (o : Option X) → slice_get xs i ≡ Some o → (i < length xs) × (get_or xs i None ≡ o)
read_there [] i o e = absurd cc
read_there (x ∷ xs) zero o e = (omega arith, cc)
read_there (x ∷ xs) (suc i) o e = let r = read_there xs i o e in let inside = r.0 in (omega (arith, inside), r.1)

-- what isn't there is mapped to what isn't there
pub none_read : {X Y : Type 0} (f : X → Y) (xs : List (Option X)) (i : ℕ) → i < length xs → get_or xs i None ≡ None → slice_get (map (option_map f) xs) i ≡ Some None
none_read f [] i h e = absurd (omega (arith, h))
none_read f (x ∷ xs) zero h e = ap (λ o. Some (option_map f o)) e
none_read f (x ∷ xs) (suc i) h e = none_read f xs i (omega (arith, h)) e

-- all are there, or none is, exactly where that holds of what they are mapped to
pub all_mapped : {X Y : Type 0} (f : X → Y) (xs : List (Option X)) → All IsSome xs → All IsSome (map (option_map f) xs)
all_mapped f [] all k d h = absurd (omega (arith, h))
all_mapped f (None ∷ xs) all zero d h = all 0 None (omega arith)
all_mapped f (Some x ∷ xs) all zero d h = all 0 None (omega arith)
all_mapped f (x ∷ xs) all (suc k) d h = all_mapped f xs (λ i e g. all (suc i) e (omega (arith, g))) k d (omega (arith, h))

pub none_all : {X Y : Type 0} (f : X → Y) (xs : List (Option X)) → All (λ x. x ≡ None) xs → All (λ y. y ≡ None) (map (option_map f) xs)
none_all f [] all k d h = absurd (omega (arith, h))
none_all f (x ∷ xs) all zero d h = ap (option_map f) (all 0 None (omega arith))
none_all f (x ∷ xs) all (suc k) d h = none_all f xs (λ i e g. all (suc i) e (omega (arith, g))) k d (omega (arith, h))

pub all_none : {X Y : Type 0} (f : X → Y) (xs : List (Option X)) → All (λ y. y ≡ None) (map (option_map f) xs) → All (λ x. x ≡ None) xs
all_none f [] all k d h = absurd (omega (arith, h))
all_none f (None ∷ xs) all zero d h = refl
all_none f (Some x ∷ xs) all zero d h = absurd (let e = all 0 None (omega arith) in cc)
all_none f (x ∷ xs) all (suc k) d h = all_none f xs (λ i e g. all (suc i) e (omega (arith, g))) k d (omega (arith, h))

pub none_free : {X Y : Type 0} (f : X → Y) (xs : List (Option X)) (r : Option ℕ) → IfNone r (All IsSome xs) → IfNone r (All IsSome (map (option_map f) xs))
none_free f xs None all = all_mapped f xs all
none_free f xs (Some i) all = tt

pub idle_mapped : {X Y : Type 0} (f : X → Y) (xs : List (Option X)) (b : Bool) → IsTrue b ↔ All (λ x. x ≡ None) xs → IsTrue b ↔ All (λ y. y ≡ None) (map (option_map f) xs)
idle_mapped f xs b both = (λ t. none_all f xs (both.0 t), λ all. both.1 (all_none f xs all))

pub copied_some : {X : Type 0} (o : Option (Bor X)) → is_some (option_copied o) ≡ is_some o
copied_some None = refl
copied_some (Some x) = refl

pub map-none : {X Y : Type 0} (f : X → Y) (n : ℕ) → map (option_map f) (replicate n None) ≡ replicate n None
map-none f zero = refl
map-none f (suc n) = ap (λ ys. None ∷ ys) (map-none f n)

-- what stands at a place of a list is read there
pub at_some : {X : Type 0} (n : ℕ) (xs : List X) (x d : X) → n < length xs → x ≡ get_or xs n d → slice_get xs n ≡ Some x
at_some n [] x d h e = absurd (omega (arith, h))
at_some zero (y ∷ ys) x d h e = ap Some (sym e)
at_some (suc n) (y ∷ ys) x d h e = at_some n ys x d (omega (arith, h)) e
