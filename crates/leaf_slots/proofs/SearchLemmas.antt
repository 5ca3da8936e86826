-- Where a search in a row of places ends.
use Rattle.std.proofs.Common.{arith, ◌≡◌, ℕ, zero, suc, ◌+◌, ◌<◌, ◌≤◌, ◌∷◌, [], List, length, true, false, cond, drop, refl, ap, slice_index_or, Some}
use Rattle.std.specs.declared.cmp.Ordering.{Ordering}
use Rattle.std.specs.declared.cmp.Ordering.TheVariants.{Less, Equal, Greater}
use Rattle.std.specs.Ordering.{is_lt}
use Rattle.std.specs.Cmp.{IsTotalOrder}
use Rattle.std.specs.List.{AllByRecursion}
use Rattle.std.specs.List.Sorted.{IsStrictlySortedBy}
use Rattle.std.specs.Map.{keys_of}
use Rattle.std.proofs.lemmas.Map.Keys.{sorted_head, sorted_tail}
use Rattle.leaf_slots.specs.declared.place.Place.{Place}
use Rattle.leaf_slots.specs.declared.place.Place.TheVariants.{Empty, Dead, Live}
use Rattle.leaf_slots.specs.Places.{live_pairs, live_below, least, IsEmptied, IsDeparted, IsPacked, IsMiss}

less_is : (o : Ordering) → is_lt o ≡ true → o ≡ Less
less_is Less h = refl
less_is Equal h = cc
less_is Greater h = cc

greater_is : (o : Ordering) → is_lt o ≡ false → (o ≡ Equal → ⊥) → o ≡ Greater
greater_is Less h n = cc
greater_is Equal h n = absurd (n refl)
greater_is Greater h n = refl

module _ {K V : Type 0} (cmp : K → K → Ordering) (key : K) where
  past_emptied : (n : ℕ) (ps : List (Place K V)) → IsEmptied ps → live_below cmp key (slice_index_or ps n Empty ∷ []) ≡ 0
  past_emptied zero [] h = refl
  past_emptied (suc n) [] h = refl
  past_emptied zero (Empty ∷ ps) h = refl
  past_emptied (suc n) (Empty ∷ ps) h = past_emptied n ps h
  past_emptied n (Dead s k v ∷ ps) h = absurd h
  past_emptied n (Live s g k v ∷ ps) h = absurd h

  past_departed : (n : ℕ) (ps : List (Place K V)) → IsDeparted ps → live_below cmp key (slice_index_or ps n Empty ∷ []) ≡ 0
  past_departed zero [] h = refl
  past_departed (suc n) [] h = refl
  past_departed zero (Empty ∷ ps) h = refl
  past_departed (suc n) (Empty ∷ ps) h = past_emptied n ps h
  past_departed zero (Dead s k v ∷ ps) h = refl
  past_departed (suc n) (Dead s k v ∷ ps) h = past_departed n ps h
  past_departed n (Live s g k v ∷ ps) h = absurd h

  lesser_head : (s g : ℕ) (k : K) (v : V) → 0 < live_below cmp key (Live s g k v ∷ []) → is_lt (cmp k key) ≡ true
  lesser_head s g k v h = (elim (is_lt (cmp k key)) as (λ b. 0 < cond b 1 0 → b ≡ true) [ true ↦ λ e. refl | false ↦ λ e. absurd (omega (arith, e)) ]) h

  -- what is below each key is below a place that is live with a lesser key
  lesser_from : (laws : IsTotalOrder cmp) (k : K) (n : ℕ) (ps : List (Place K V))
      → IsPacked ps → AllByRecursion (λ y. cmp k y ≡ Less) (keys_of (live_pairs ps)) → 0 < live_below cmp key (slice_index_or ps n Empty ∷ []) → is_lt (cmp k key) ≡ true
  lesser_from laws k zero [] pk all h = absurd (omega (arith, h))
  lesser_from laws k (suc n) [] pk all h = absurd (omega (arith, h))
  lesser_from laws k zero (Empty ∷ ps) pk all h = absurd (omega (arith, h))
  lesser_from laws k (suc n) (Empty ∷ ps) pk all h = absurd (omega (arith, h, past_emptied n ps pk))
  lesser_from laws k zero (Dead s k2 v ∷ ps) pk all h = absurd (omega (arith, h))
  lesser_from laws k (suc n) (Dead s k2 v ∷ ps) pk all h = absurd (omega (arith, h, past_departed n ps pk))
  lesser_from laws k zero (Live s g k2 v ∷ ps) pk all h = ap is_lt (laws.trans k k2 key all.0 (less_is (cmp k2 key) (lesser_head s g k2 v h)))
  lesser_from laws k (suc n) (Live s g k2 v ∷ ps) pk all h = lesser_from laws k n ps pk all.1 h

  pub below_past : (laws : IsTotalOrder cmp) (n : ℕ) (ps : List (Place K V))
      → IsPacked ps → IsStrictlySortedBy cmp (keys_of (live_pairs ps)) → 0 < live_below cmp key (slice_index_or ps n Empty ∷ [])
      → (live_below cmp key ps ≡ suc n + live_below cmp key (drop (suc n) ps)) × (least cmp key ps ≡ least cmp key (drop (suc n) ps))
  below_past laws zero [] pk so h = absurd (omega (arith, h))
  below_past laws (suc n) [] pk so h = absurd (omega (arith, h))
  below_past laws zero (Empty ∷ ps) pk so h = absurd (omega (arith, h))
  below_past laws (suc n) (Empty ∷ ps) pk so h = absurd (omega (arith, h, past_emptied n ps pk))
  below_past laws zero (Dead s k v ∷ ps) pk so h = absurd (omega (arith, h))
  below_past laws (suc n) (Dead s k v ∷ ps) pk so h = absurd (omega (arith, h, past_departed n ps pk))
  below_past laws zero (Live s g k v ∷ ps) pk so h = rw (lesser_head s g k v h) (omega arith, refl)
  below_past laws (suc n) (Live s g k v ∷ ps) pk so h =
      let lt = lesser_from laws k n ps pk (sorted_head cmp k (keys_of (live_pairs ps)) so) h in
      let r = below_past laws n ps pk (sorted_tail cmp k (keys_of (live_pairs ps)) so) h in
      rw lt (omega (arith, r.0), r.1)

  -- no more places have a lesser key than there are
  pub below_most : (ps : List (Place K V)) → live_below cmp key ps ≤ length ps
  below_most [] = omega arith
  below_most (Empty ∷ ps) = omega arith
  below_most (Dead s k v ∷ ps) = omega arith
  below_most (Live s g k v ∷ ps) = elim (is_lt (cmp k key)) as (λ b. cond b (suc (live_below cmp key ps)) 0 ≤ suc (length ps)) [ true ↦ omega (arith, below_most ps) | false ↦ omega arith ]

  -- no place behind one without a lesser key counts
  pub below_stops : (n : ℕ) (ps : List (Place K V)) → (0 < live_below cmp key (slice_index_or ps n Empty ∷ []) → ⊥) → live_below cmp key ps ≤ n
  below_stops n [] none = omega arith
  below_stops n (Empty ∷ ps) none = omega arith
  below_stops n (Dead s k v ∷ ps) none = omega arith
  below_stops zero (Live s g k v ∷ ps) none =
      (elim (is_lt (cmp k key)) as (λ b. (0 < cond b 1 0 → ⊥) → cond b (suc (live_below cmp key ps)) 0 ≤ 0) [
        | true ↦ λ h. absurd (h (omega arith))
        | false ↦ λ h. omega arith
      ]) none
  below_stops (suc n) (Live s g k v ∷ ps) none = elim (is_lt (cmp k key)) as (λ b. cond b (suc (live_below cmp key ps)) 0 ≤ suc n) [ true ↦ omega (arith, below_stops n ps none) | false ↦ omega arith ]

  -- the pair at which a search ends isn't lesser
  pub least_not_lesser : (ps : List (Place K V)) (e : K × V) → least cmp key ps ≡ Some e → is_lt (cmp e.0 key) ≡ false
  least_not_lesser [] e = λ h. cc
  least_not_lesser (Empty ∷ ps) e = λ h. cc
  least_not_lesser (Dead s k v ∷ ps) e = λ h. cc
  least_not_lesser (Live s g k v ∷ ps) e =
      (elim (is_lt (cmp k key)) as (λ b. is_lt (cmp k key) ≡ b → cond b (least cmp key ps) (Some (k, v)) ≡ Some e → is_lt (cmp e.0 key) ≡ false) [
        | true ↦ λ b h. least_not_lesser ps e h
        | false ↦ λ b h. let same : (k, v) ≡ e = cc in rw (← same) b
      ]) refl

  pub missed : (ps : List (Place K V)) (k : K) (v : V) → least cmp key ps ≡ Some (k, v) → (cmp k key ≡ Equal → ⊥) → IsMiss cmp key ps
  missed ps k v found other e h =
      let same : e ≡ (k, v) = cc in
      rw same (greater_is (cmp k key) (least_not_lesser ps (k, v) found) other)
