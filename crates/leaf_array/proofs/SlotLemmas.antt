-- The pair in a slot.
use Rattle.std.proofs.Common.{arith, ◌≡◌, ℕ, zero, suc, ◌+◌, ◌==◌, ◌<◌, ◌∷◌, [], List, length, true, false, cond, refl, ap, Option, Some, None, IsSome}
use Rattle.std.specs.Option.{option_or}
use Rattle.std.proofs.Common.{inl, inr, MatchOption}
use Rattle.std.proofs.lemmas.Bool.{cases_lt}
use Rattle.std.proofs.lemmas.Bool.Decides.{nat_tests}
use Rattle.leaf_slots.specs.declared.place.Place.{Place}
use Rattle.leaf_slots.specs.declared.place.Place.TheVariants.{Empty, Dead, Live}
use Rattle.leaf_array.specs.Cells.{slot_of, rank_in, standing, reachable_in, tombstones_in}
use Rattle.leaf_slots.specs.Places.{live_pairs, labels_above, dead_pairs, pair_at_slot, stands, slot_uses, IsEmptied, IsDeparted, IsPacked}
use Rattle.leaf_array.specs.Arrays.{uses_below}

module _ {K V : Type 0} where
  emptied_slot : (slot : ℕ) (ps : List (Place K V)) → IsEmptied ps → pair_at_slot slot ps ≡ tombstones_in slot (dead_pairs ps)
  emptied_slot slot [] h = refl
  emptied_slot slot (Empty ∷ ps) h = emptied_slot slot ps h
  emptied_slot slot (Dead s k v ∷ ps) h = absurd h
  emptied_slot slot (Live s g k v ∷ ps) h = absurd h

  departed_slot : (slot : ℕ) (ps : List (Place K V)) → IsDeparted ps → pair_at_slot slot ps ≡ tombstones_in slot (dead_pairs ps)
  departed_slot slot [] h = refl
  departed_slot slot (Empty ∷ ps) h = emptied_slot slot ps h
  departed_slot slot (Dead s k v ∷ ps) h = ap (λ o. cond (s == slot) (Some (k, v)) o) (departed_slot slot ps h)
  departed_slot slot (Live s g k v ∷ ps) h = absurd h

  pub slot_pair : (slot low : ℕ) (ps : List (Place K V)) → IsPacked ps → pair_at_slot slot ps ≡ option_or (reachable_in slot (labels_above low ps) (live_pairs ps)) (tombstones_in slot (dead_pairs ps))
  slot_pair slot low [] h = refl
  slot_pair slot low (Empty ∷ ps) h = emptied_slot slot ps h
  slot_pair slot low (Dead s k v ∷ ps) h = ap (λ o. cond (s == slot) (Some (k, v)) o) (departed_slot slot ps h)
  slot_pair slot low (Live s g k v ∷ ps) h =
      elim (s == slot) as (λ b. cond b (Some (k, v)) (pair_at_slot slot ps) ≡ option_or (cond b (Some (k, v)) (reachable_in slot (labels_above (low + g + 1) ps) (live_pairs ps))) (tombstones_in slot (dead_pairs ps))) [
        | true ↦ refl
        | false ↦ slot_pair slot (low + g + 1) ps h
      ]

  pub slot_some : (slot : ℕ) (ps : List (Place K V)) → 0 < slot_uses slot ps → IsSome (pair_at_slot slot ps)
  slot_some slot [] = λ h. absurd (omega (arith, h))
  slot_some slot (Empty ∷ ps) = λ h. slot_some slot ps h
  slot_some slot (Dead s k v ∷ ps) =
      elim (s == slot) as (λ b. 0 < cond b 1 0 + slot_uses slot ps → IsSome (cond b (Some (k, v)) (pair_at_slot slot ps))) [ true ↦ λ h. refl | false ↦ λ h. slot_some slot ps (omega (arith, h)) ]
  slot_some slot (Live s g k v ∷ ps) =
      elim (s == slot) as (λ b. 0 < cond b 1 0 + slot_uses slot ps → IsSome (cond b (Some (k, v)) (pair_at_slot slot ps))) [ true ↦ λ h. refl | false ↦ λ h. slot_some slot ps (omega (arith, h)) ]

module _ {K V : Type 0} where
  pub stands_labels : (slot low : ℕ) (ps : List (Place K V)) → stands slot ps ≡ standing slot (labels_above low ps)
  stands_labels slot low [] = refl
  stands_labels slot low (Empty ∷ ps) = refl
  stands_labels slot low (Dead s k v ∷ ps) = refl
  stands_labels slot low (Live s g k v ∷ ps) = ap (λ n. cond (s == slot) 0 (suc n)) (stands_labels slot (low + g + 1) ps)

  pub stands_within : (slot low : ℕ) (ps : List (Place K V)) → 0 < rank_in slot (labels_above low ps) → stands slot ps < length (live_pairs ps)
  stands_within slot low [] = λ h. absurd (omega (arith, h))
  stands_within slot low (Empty ∷ ps) = λ h. absurd (omega (arith, h))
  stands_within slot low (Dead s k v ∷ ps) = λ h. absurd (omega (arith, h))
  stands_within slot low (Live s g k v ∷ ps) =
      elim (s == slot) as (λ b. 0 < cond b (low + g + 1) (rank_in slot (labels_above (low + g + 1) ps)) → cond b 0 (suc (stands slot ps)) < suc (length (live_pairs ps))) [
        | true ↦ λ h. omega arith
        | false ↦ λ h. omega (arith, stands_within slot (low + g + 1) ps h)
      ]

same_slot : (n : ℕ) → (n == n) ≡ true
same_slot n = grind (arith, nat_tests)

pub uses_one : (slot place n : ℕ) → place < n → slot_of place ≡ slot → 0 < uses_below slot n
uses_one slot place zero lt e = absurd (omega (arith, lt))
uses_one slot place (suc n) lt e =
    elim (cases_lt place n) [
      | inl under ↦ omega (arith, uses_one slot place n under e)
      | inr over ↦
          let same : n ≡ place = omega (arith, lt, over) in
          let t : (slot_of n == slot) ≡ true = rw (same, e) (same_slot slot) in
          omega (arith, ap (λ b. cond b 1 0 + uses_below slot n) t)
    ]

pub some_from : {A B : Type 0} (Q : A → Type 0) (r : Option A) (x : Option B) → MatchOption r (x ≡ None) Q → IsSome x → IsSome r
some_from Q None x h s = rw h at s
some_from Q (Some y) x h s = refl
