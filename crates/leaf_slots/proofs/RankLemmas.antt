-- Ranks of slots in a row of places.
use Rattle.std.proofs.Common.{arith, ◌≡◌, ℕ, zero, suc, ◌+◌, ◌==◌, ◌<◌, ◌≤◌, ◌∷◌, [], List, true, false, cond, length, refl, ap}
use Rattle.leaf_slots.specs.declared.place.Place.{Place}
use Rattle.leaf_slots.specs.declared.place.Place.TheVariants.{Empty, Dead, Live}
use Rattle.leaf_slots.specs.Labels.{rank_in, entered}
use Rattle.leaf_slots.specs.Places.{labels_above, top}
use Rattle.leaf_slots.proofs.EditLemmas.{labels_higher}

module _ {K V : Type 0} where
  pub rank_within : (slot low : ℕ) (ps : List (Place K V)) → rank_in slot (labels_above low ps) ≤ low + top ps
  rank_within slot low [] = omega arith
  rank_within slot low (Empty ∷ ps) = omega arith
  rank_within slot low (Dead s k v ∷ ps) = omega arith
  rank_within slot low (Live s g k v ∷ ps) =
      elim (s == slot) as (λ b. cond b (low + g + 1) (rank_in slot (labels_above (low + g + 1) ps)) ≤ low + (g + 1 + top ps)) [
        | true ↦ omega arith
        | false ↦ omega (arith, rank_within slot (low + g + 1) ps)
      ]

  -- the rank of a slot beside one that comes in
  pub beside_within : (slot fresh low n : ℕ) (ps : List (Place K V)) → rank_in slot (entered low n fresh (labels_above low ps)) ≤ low + top ps + 1
  beside_within slot fresh low zero ps =
      rw (← labels_higher low ps)
      (elim (fresh == slot) as (λ b. cond b (low + 1) (rank_in slot (labels_above (low + 1) ps)) ≤ low + top ps + 1) [
        | true ↦ omega arith
        | false ↦ omega (arith, rank_within slot (low + 1) ps)
      ])
  beside_within slot fresh low (suc n) [] = omega arith
  beside_within slot fresh low (suc n) (Empty ∷ ps) = omega arith
  beside_within slot fresh low (suc n) (Dead s k v ∷ ps) = omega arith
  beside_within slot fresh low (suc n) (Live s g k v ∷ ps) =
      elim (s == slot) as (λ b. cond b (low + g + 1) (rank_in slot (entered (low + g + 1) n fresh (labels_above (low + g + 1) ps))) ≤ low + (g + 1 + top ps) + 1) [
        | true ↦ omega arith
        | false ↦ omega (arith, beside_within slot fresh (low + g + 1) n ps)
      ]

  pub one_label : (low : ℕ) (p : Place K V) → length (labels_above low (p ∷ [])) ≤ 1
  one_label low Empty = omega arith
  one_label low (Dead s k v) = omega arith
  one_label low (Live s g k v) = omega arith

pub entered_past : (low n slot : ℕ) (ls : List (ℕ × ℕ)) → length ls < n → entered low n slot ls ≡ ls
entered_past low zero slot ls lt = absurd (omega (arith, lt))
entered_past low (suc n) slot [] lt = refl
entered_past low (suc n) slot (l ∷ ls) lt = ap (λ ms. l ∷ ms) (entered_past l.1 n slot ls (omega (arith, lt)))
