-- a slot that a seat has in front, into which another value is put
use Rattle.std.proofs.Common.{◌≡◌, ℕ, List, [], ◌∷◌, sym, ap, ◌∙◌}
use Rattle.atomic_table.specs.Table.{Me, rest}

module _ {S : Type 0} where
  abbrev slot_in : List (ℕ × S) → ℕ
  slot_in [] = 0
  slot_in (x ∷ xs) = x.0

  abbrev value_in : S → List (ℕ × S) → S
  value_in y [] = y
  value_in y (x ∷ xs) = x.1

module _ {S V : Type 0} where
  -- what came out is what was there
  pub came_out : (m : Me S V) (h i : ℕ) (u r : S) (xs : List (ℕ × S)) → m.1 ≡ (h, u) ∷ xs → m.1 ≡ (i, r) ∷ rest m.1 → r ≡ u
  came_out m h i u r xs is front = sym (ap (value_in u) (sym is ∙ front))

  -- where it lies is where it was told to lie
  pub came_from : (m : Me S V) (h i : ℕ) (u r : S) (xs : List (ℕ × S)) → m.1 ≡ (h, u) ∷ xs → m.1 ≡ (i, r) ∷ rest m.1 → i ≡ h
  came_from m h i u r xs is front = sym (ap slot_in (sym is ∙ front))

  pub put_in : (m m' : Me S V) (h i : ℕ) (u r y : S) (xs : List (ℕ × S)) → m.1 ≡ (h, u) ∷ xs → m.1 ≡ (i, r) ∷ rest m.1 → m' ≡ (m.0, (i, y) ∷ rest m.1) → m' ≡ (m.0, (h, y) ∷ xs)
  put_in m m' h i u r y xs is front new = let same = came_from m h i u r xs is front in new ∙ (λ j. (m.0, (same j, y) ∷ ap rest is j))
