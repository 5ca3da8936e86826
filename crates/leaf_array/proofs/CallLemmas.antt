-- Calls at the elements of a list, one after the other.
use Rattle.std.proofs.Common.{arith, ◌≡◌, ℕ, zero, suc, ◌+◌, ◌-◌, ◌==◌, ◌<◌, ◌∷◌, [], ap, List, Bool, true, false, drop, refl, map, nat_lt, Option, Some, None, Result, slice_get}
use Rattle.std.proofs.lemmas.Bool.Decides.{nat_tests}
use Rattle.std.specs.List.{enumerate_from, filter, range_with_len}
use Rattle.std.specs.Fn.{Called, Mut, Takes}
use denote.Ref.{Bor}
use Rattle.leaf_array.specs.Cells.{Cells, rank_in, slot_of, in_slot}
use Rattle.leaf_array.specs.Calls.{IsShown, TakesEach, TakesShown}

some_is : {X : Type 0} (x y : X) → Some x ≡ Some y → x ≡ y
some_is x y h = cc

-- the element behind n others comes first of what is behind them
pub drop_here : {A : Type 0} (xs : List A) (n : ℕ) (x : A) → slice_get xs n ≡ Some x → drop n xs ≡ x ∷ drop (n + 1) xs
drop_here [] zero x e = absurd (let bad : None ≡ Some x = e in cc)
drop_here [] (suc n) x e = absurd (let bad : None ≡ Some x = e in cc)
drop_here (y ∷ ys) zero x e = ap (λ z. z ∷ ys) (some_is y x e)
drop_here (y ∷ ys) (suc n) x e = let f : suc n + 1 ≡ suc (n + 1) = omega arith in rw f (drop_here ys n x e)

pub numbered_here : {A : Type 0} (xs : List A) (n : ℕ) (x : A) → slice_get xs n ≡ Some x → enumerate_from n (drop n xs) ≡ (n, x) ∷ enumerate_from (n + 1) (drop (n + 1) xs)
numbered_here xs n x e = rw (drop_here xs n x e) refl

module _ {P A : Type 0} (takes : P → A → Type 0) (step : P → A → P → Type 0) where
  -- the first call may be made, and then those at the rest
  pub takes_first : (p : P) (x : A) (xs : List A) → TakesEach takes step p (x ∷ xs) → takes p x
  takes_first p x xs t = t.at [] xs x p refl refl

  pub takes_rest : (p q : P) (x : A) (xs : List A) → TakesEach takes step p (x ∷ xs) → step p x q → TakesEach takes step q xs
  takes_rest p q x xs t now = record { at = λ before after y r all steps. t.at (x ∷ before) after y r (ap (λ ys. x ∷ ys) all) (q, now, steps) }

pub range_next : (slot : ℕ) → slot < 15 → range_with_len slot (15 - slot) ≡ slot ∷ range_with_len (slot + 1) (15 - (slot + 1))
range_next slot lt = let e : 15 - slot ≡ suc (15 - (slot + 1)) = omega (arith, lt) in rw e refl

pub slots_taken : (labels : List (ℕ × ℕ)) (slot : ℕ) → slot < 15 → 0 < rank_in slot labels
    → filter (λ s. nat_lt 0 (rank_in s labels)) (range_with_len slot (15 - slot)) ≡ slot ∷ filter (λ s. nat_lt 0 (rank_in s labels)) (range_with_len (slot + 1) (15 - (slot + 1)))
slots_taken labels slot lt has = let t : nat_lt 0 (rank_in slot labels) ≡ true = grind (arith, nat_tests) in rw (range_next slot lt, t) refl

pub slots_passed : (labels : List (ℕ × ℕ)) (slot : ℕ) → slot < 15 → rank_in slot labels ≡ 0
    → filter (λ s. nat_lt 0 (rank_in s labels)) (range_with_len slot (15 - slot)) ≡ filter (λ s. nat_lt 0 (rank_in s labels)) (range_with_len (slot + 1) (15 - (slot + 1)))
slots_passed labels slot lt none = let t : nat_lt 0 (rank_in slot labels) ≡ false = grind (arith, nat_tests) in rw (range_next slot lt, t) refl

pub order_more : (place used : ℕ) → place < used → map slot_of (range_with_len place (used - place)) ≡ slot_of place ∷ map slot_of (range_with_len (place + 1) (used - (place + 1)))
order_more place used lt = let e : used - place ≡ suc (used - (place + 1)) = omega (arith, lt) in rw e refl

pub shown_at : {F K V E : Type 0} (g : Mut F (ℕ × (ℕ × (Option (Bor K × Bor V) × (Bool × Unit {0})))) (Result (Unit {0}) E)) (a : Cells K V) (f : F) (slot rank place : ℕ) (pair : Bor K × Bor V) (r : Result (Unit {0}) E) (last : F)
    → slot ≡ slot_of place → rank ≡ rank_in slot a.labels → in_slot slot a ≡ Some (pair.0.now, pair.1.now) → Called g f (slot, (rank, (Some pair, (rank == 0, tt)))) r last → IsShown g a f (slot_of place) r last
shown_at g a f slot rank place pair r last here ranked shows called =
    let ranked2 : rank ≡ rank_in (slot_of place) a.labels = rw here at ranked in
    record { key = pair.0; value = pair.1; shows = rw here at shows; called = rw (here, ranked2) at called }

pub takes_at : {F K V E : Type 0} (g : Mut F (ℕ × (ℕ × (Option (Bor K × Bor V) × (Bool × Unit {0})))) (Result (Unit {0}) E)) (a : Cells K V) (f : F) (slot rank place : ℕ) (pair : Bor K × Bor V)
    → slot ≡ slot_of place → rank ≡ rank_in slot a.labels → in_slot slot a ≡ Some (pair.0.now, pair.1.now) → TakesShown g a f (slot_of place) → Takes g f (slot, (rank, (Some pair, (rank == 0, tt))))
takes_at g a f slot rank place pair here ranked shows takes =
    let ranked2 : rank ≡ rank_in (slot_of place) a.labels = rw here at ranked in
    rw (here, ranked2) (takes pair.0 pair.1 (rw here at shows))
