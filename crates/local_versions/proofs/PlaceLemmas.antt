-- whether a place has a reader, and a place without one that is freed
use Rattle.std.proofs.Common.{◌≡◌, ℕ, zero, suc, ◌<◌, List, [], ◌∷◌, Option, None, Some, true, false, length, map, get_or, set, sym, ap, arith}
use Rattle.std.proofs.lemmas.Bool.{false≢true}
use Rattle.std.proofs.lemmas.List.{set-get_or}
use Rattle.std.proofs.lemmas.Option.{get_or_from_slice_get}
use Rattle.std.specs.List.{slice_get}
use Rattle.std.specs.Option.{is_some, option_map}

module _ {X Y : Type 0} (f : X → Y) where
  mapped_at : (xs : List (Option X)) (i : ℕ) (o : Option X) → i < length (map (option_map f) xs) → o ≡ get_or xs i o → slice_get (map (option_map f) xs) i ≡ Some (option_map f o)
  mapped_at [] i o h e = absurd (omega (arith, h))
  mapped_at (x ∷ xs) zero o h e = ap (λ z. Some (option_map f z)) (sym e)
  mapped_at (x ∷ xs) (suc i) o h e = mapped_at xs i o (omega (arith, h)) e

  -- the place has a reader
  pub has_reader : (xs : List (Option X)) (i : ℕ) (o : Option X) → i < length (map (option_map f) xs) → o ≡ get_or xs i o → is_some o ≡ true → (y : Y) × (slice_get (map (option_map f) xs) i ≡ Some (Some y))
  has_reader xs i None h e t = absurd (false≢true t)
  has_reader xs i (Some x) h e t = (f x, mapped_at xs i (Some x) h e)

  -- the place has none
  pub has_no_reader : (xs : List (Option X)) (i : ℕ) (o : Option X) → i < length (map (option_map f) xs) → o ≡ get_or xs i o → is_some o ≡ false → slice_get (map (option_map f) xs) i ≡ Some None
  has_no_reader xs i None h e t = mapped_at xs i None h e
  has_no_reader xs i (Some x) h e t = absurd (false≢true (sym t))

-- freeing a place that is free changes nothing
pub freed : {X : Type 0} (xs : List (Option X)) (p : ℕ) → slice_get xs p ≡ Some None → set xs p None ≡ xs
freed xs p e =
    let g : get_or xs p None ≡ None = get_or_from_slice_get xs p None None e in
    rw g at (set-get_or xs p None)
