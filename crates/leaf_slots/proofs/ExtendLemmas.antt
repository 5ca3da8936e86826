-- Clones that are put into empty places.
use Rattle.std.proofs.Common.{arith, append-nil, ◌≡◌, ℕ, zero, suc, ◌+◌, ◌-◌, ◌<◌, ◌≤◌, ◌++◌, ◌∷◌, [], List, length, take, drop, slice_index_or, Some, None, refl, ap, ◌∙◌, sym, subst}
use Rattle.std.proofs.lemmas.List.{take-append-drop}
use Rattle.std.specs.Prelude.{slice_get}
use Rattle.leaf_slots.specs.declared.place.Place.{Place}
use Rattle.leaf_slots.specs.declared.place.Place.TheVariants.{Empty, Dead, Live}
use Rattle.leaf_slots.specs.Labels.{slot_of}
use Rattle.leaf_slots.specs.Places.{lined, live_pair, live_pairs, IsEmptied}

module _ {K V : Type 0} where
  pub first_empty : (p : Place K V) (ps : List (Place K V)) → IsEmptied (p ∷ ps) → p ≡ Empty
  first_empty Empty ps h = refl
  first_empty (Dead s k v) ps h = absurd h
  first_empty (Live s g k v) ps h = absurd h

  pub rest_empty : (p : Place K V) (ps : List (Place K V)) → IsEmptied (p ∷ ps) → IsEmptied ps
  rest_empty Empty ps h = h
  rest_empty (Dead s k v) ps h = absurd h
  rest_empty (Live s g k v) ps h = absurd h

  -- the pair of each live place at the front
  pub front_get : (n : ℕ) (ps : List (Place K V)) → n < length (live_pairs ps) → live_pair (slice_index_or ps n Empty) ≡ slice_get (live_pairs ps) n
  front_get n [] h = absurd (omega (arith, h))
  front_get n (Empty ∷ ps) h = absurd (omega (arith, h))
  front_get n (Dead s k v ∷ ps) h = absurd (omega (arith, h))
  front_get zero (Live s g k v ∷ ps) h = refl
  front_get (suc n) (Live s g k v ∷ ps) h = front_get n ps (omega (arith, h))

  -- one pair, and those behind it
  pub lined_one : (m n : ℕ) (ps : List (K × V)) (p : K × V) → slice_get ps n ≡ Some p → lined m (take 1 (drop n ps)) ≡ Live (slot_of m) 0 p.0 p.1 ∷ []
  lined_one m n [] p h = absurd (cc)
  lined_one m zero (q ∷ ps) p h = let same : q ≡ p = cc in ap (λ (r : K × V). Live (slot_of m) 0 r.0 r.1 ∷ []) same
  lined_one m (suc n) (q ∷ ps) p h = lined_one m n ps p h

  pub lined_more : (m n r : ℕ) (ps : List (K × V)) → n < length ps → lined m (take (1 + r) (drop n ps)) ≡ lined m (take 1 (drop n ps)) ++ lined (m + 1) (take r (drop (n + 1) ps))
  lined_more m n r [] h = absurd (omega (arith, h))
  lined_more m zero r (q ∷ ps) h = let e : 1 + r ≡ suc r = omega arith in ap (λ (k : ℕ). lined m (take k (q ∷ ps))) e
  lined_more m (suc n) r (q ∷ ps) h = let e : suc n + 1 ≡ suc (n + 1) = omega arith in rw e (lined_more m n r ps (omega (arith, h)))

  pub there : (n : ℕ) (ps : List (K × V)) → n < length ps → slice_get ps n ≡ None → ⊥
  there n [] h e = omega (arith, h)
  there zero (p ∷ ps) h e = cc
  there (suc n) (p ∷ ps) h e = there n ps (omega (arith, h)) e

  -- those behind the first place, if it is passed
  pub past_head : (p : Place K V) (ps : List (Place K V)) (n : ℕ) → 0 < n → n ≤ length (live_pairs (p ∷ ps)) → drop (n - 1) (live_pairs ps) ≡ drop n (live_pairs (p ∷ ps))
  past_head p ps zero h w = absurd (omega (arith, h))
  past_head Empty ps (suc n) h w = absurd (omega (arith, w))
  past_head (Dead s k v) ps (suc n) h w = absurd (omega (arith, w))
  past_head (Live s g k v) ps (suc n) h w = let one : suc n - 1 ≡ n = omega arith in ap (λ (m : ℕ). drop m (live_pairs ps)) one

  -- ---- what is left where n places are passed, and then some filled

  -- none filled
  pub kept : (n : ℕ) (ps : List (Place K V)) → ps ≡ take n ps ++ drop (n + 0) ps
  kept n ps = let e : n ≡ n + 0 = omega arith in sym (take-append-drop n ps) ∙ ap (λ (k : ℕ). take n ps ++ drop k ps) e

  pub empty_behind : (n : ℕ) (p : Place K V) (ps : List (Place K V)) → 0 < n → IsEmptied (drop n (p ∷ ps)) → IsEmptied (drop (n - 1) ps)
  empty_behind zero p ps h e = absurd (omega (arith, h))
  empty_behind (suc n) p ps h e = let one : n ≡ suc n - 1 = omega arith in subst (λ (k : ℕ). IsEmptied (drop k ps)) one e

  -- the first place passed
  pub behind_head : (p : Place K V) (xs ys : List (Place K V)) (n m r : ℕ) (ls : List (K × V)) → 0 < n → ys ≡ take (n - 1) xs ++ (lined (m + 1 + (n - 1)) ls ++ drop (n - 1 + r) xs) → p ∷ ys ≡ take n (p ∷ xs) ++ (lined (m + n) ls ++ drop (n + r) (p ∷ xs))
  behind_head p xs ys zero m r ls h e = absurd (omega (arith, h))
  behind_head p xs ys (suc n) m r ls h e =
      let one : suc n - 1 ≡ n = omega arith in
      let two : m + 1 + n ≡ m + suc n = omega arith in
      let three : suc (n + r) ≡ suc n + r = omega arith in
      ap (λ qs. p ∷ qs) e
      ∙ ap (λ (k : ℕ). p ∷ (take k xs ++ (lined (m + 1 + k) ls ++ drop (k + r) xs))) one
      ∙ ap (λ (k : ℕ). p ∷ (take n xs ++ (lined k ls ++ drop (n + r) xs))) two
      ∙ ap (λ (k : ℕ). p ∷ (take n xs ++ (lined (m + suc n) ls ++ drop k (p ∷ xs)))) three

  -- the last place filled
  pub filled_last : (p q : Place K V) (n m : ℕ) (ls : List (K × V)) → n ≡ 0 → p ∷ [] ≡ lined m ls → p ∷ [] ≡ take n (q ∷ []) ++ (lined (m + n) ls ++ drop (n + 1) (q ∷ []))
  filled_last p q zero m ls z e =
      let one : m ≡ m + 0 = omega arith in
      e ∙ sym (append-nil (lined m ls)) ∙ ap (λ (k : ℕ). lined k ls ++ []) one
  filled_last p q (suc n) m ls z e = absurd (omega (arith, z))

  -- the first place filled
  pub filled_front : (p q : Place K V) (xs ys : List (Place K V)) (n m from r : ℕ) (ls : List (K × V)) → n ≡ 0 → from < length ls → p ∷ [] ≡ lined m (take 1 (drop from ls)) → ys ≡ take 0 xs ++ (lined (m + 1 + 0) (take r (drop (from + 1) ls)) ++ drop (0 + r) xs)
      → p ∷ ys ≡ take n (q ∷ xs) ++ (lined (m + n) (take (1 + r) (drop from ls)) ++ drop (n + (1 + r)) (q ∷ xs))
  filled_front p q xs ys zero m from r ls z less first e =
      let more = take r (drop (from + 1) ls) in
      let all = take (1 + r) (drop from ls) in
      let one : m + 1 + 0 ≡ m + 1 = omega arith in
      let two : m ≡ m + 0 = omega arith in
      let three : suc (0 + r) ≡ 0 + (1 + r) = omega arith in
      ap (λ qs. p ∷ qs) e
      ∙ ap (λ (k : ℕ). p ∷ (lined k more ++ drop (0 + r) xs)) one
      ∙ ap (λ qs. (qs ++ lined (m + 1) more) ++ drop (0 + r) xs) first
      ∙ ap (λ qs. qs ++ drop (0 + r) xs) (sym (lined_more m from r ls less))
      ∙ ap (λ (k : ℕ). lined k all ++ drop (0 + r) xs) two
      ∙ ap (λ (k : ℕ). lined (m + 0) all ++ drop k (q ∷ xs)) three
  filled_front p q xs ys (suc n) m from r ls z less first e = absurd (omega (arith, z))
