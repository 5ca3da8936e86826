-- A row that is cut place by place.
use Rattle.std.proofs.Common.{arith, ◌≡◌, ℕ, zero, suc, ◌+◌, ◌-◌, ◌<◌, ◌≤◌, ◌++◌, ◌∷◌, [], List, length, take, drop, refl, ap, ◌∙◌, sym, slice_index_or, length-take, length-drop, length-append}
use Rattle.std.proofs.lemmas.List.{get_or-drop}
use Rattle.leaf_slots.specs.declared.place.Place.{Place}
use Rattle.leaf_slots.specs.declared.place.Place.TheVariants.{Empty, Dead, Live}
use Rattle.leaf_slots.specs.Places.{no_places, IsEmptied}

module _ {X : Type 0} where
  -- a list taken so far, with another one behind it, and the next element put in
  next_taken : (k : ℕ) (xs es : List X) (d : X) → k < length xs → k < length es
      → take k (take k xs ++ drop k es) ++ slice_index_or xs k d ∷ drop (k + 1) (take k xs ++ drop k es) ≡ take (k + 1) xs ++ drop (k + 1) es
  next_taken k [] es d lt _ = absurd (omega (arith, lt))
  next_taken k (x ∷ xs) [] d _ lt = absurd (omega (arith, lt))
  next_taken zero (x ∷ xs) (e ∷ es) d _ _ = refl
  next_taken (suc k) (x ∷ xs) (e ∷ es) d l m = let n : suc k + 1 ≡ suc (k + 1) = omega arith in rw n (ap (λ ys. x ∷ ys) (next_taken k xs es d (omega (arith, l)) (omega (arith, m))))

  -- what is behind is what it was
  not_taken : (k : ℕ) (xs es : List X) (d : X) → k < length xs → k < length es → slice_index_or (take k xs ++ drop k es) k d ≡ slice_index_or es k d
  not_taken k [] es d lt _ = absurd (omega (arith, lt))
  not_taken k (x ∷ xs) [] d _ lt = absurd (omega (arith, lt))
  not_taken zero (x ∷ xs) (e ∷ es) d _ _ = refl
  not_taken (suc k) (x ∷ xs) (e ∷ es) d l m = not_taken k xs es d (omega (arith, l)) (omega (arith, m))

  none_left : (n : ℕ) (es : List X) → length es ≤ n → drop n es ≡ []
  none_left zero [] m = refl
  none_left zero (e ∷ es) m = absurd (omega (arith, m))
  none_left (suc n) [] m = refl
  none_left (suc n) (e ∷ es) m = none_left n es (omega (arith, m))

  with_none : (n : ℕ) (xs : List X) → length xs ≤ n → take n xs ++ [] ≡ xs
  with_none zero [] l = refl
  with_none zero (x ∷ xs) l = absurd (omega (arith, l))
  with_none (suc n) [] l = refl
  with_none (suc n) (x ∷ xs) l = ap (λ ys. x ∷ ys) (with_none n xs (omega (arith, l)))

  take_all : (n : ℕ) (xs es : List X) → length xs ≤ n → length es ≤ n → take n xs ++ drop n es ≡ xs
  take_all zero [] [] l m = refl
  take_all zero (x ∷ xs) es l m = absurd (omega (arith, l))
  take_all zero [] (e ∷ es) l m = absurd (omega (arith, m))
  take_all (suc n) [] [] l m = refl
  take_all (suc n) [] (e ∷ es) l m = none_left n es (omega (arith, m))
  take_all (suc n) (x ∷ xs) [] l m = ap (λ ys. x ∷ ys) (with_none n xs (omega (arith, l)))
  take_all (suc n) (x ∷ xs) (e ∷ es) l m = ap (λ ys. x ∷ ys) (take_all n xs es (omega (arith, l)) (omega (arith, m)))

  first_part : (xs es : List X) → take (length xs) (xs ++ es) ≡ xs
  first_part [] es = refl
  first_part (x ∷ xs) es = ap (λ ys. x ∷ ys) (first_part xs es)

  in_first : (k : ℕ) (xs es : List X) (d : X) → k < length xs → slice_index_or (xs ++ es) k d ≡ slice_index_or xs k d
  in_first k [] es d lt = absurd (omega (arith, lt))
  in_first zero (x ∷ xs) es d lt = refl
  in_first (suc k) (x ∷ xs) es d lt = in_first k xs es d (omega (arith, lt))

  dropped_at : (n k : ℕ) (xs : List X) (d : X) → slice_index_or (drop n xs) k d ≡ slice_index_or xs (n + k) d
  dropped_at n k xs d = get_or-drop n xs k d

module _ {K V : Type 0} where
  pub emptied_take : (n : ℕ) (ps : List (Place K V)) → IsEmptied ps → IsEmptied (take n ps)
  emptied_take zero ps h = tt
  emptied_take (suc n) [] h = tt
  emptied_take (suc n) (Empty ∷ ps) h = emptied_take n ps h
  emptied_take (suc n) (Dead s k v ∷ ps) h = absurd h
  emptied_take (suc n) (Live s g k v ∷ ps) h = absurd h

module _ {K V : Type 0} where
  -- what the cut leaves of a row, and what it moves
  abbrev pub lower_part : ℕ → List (Place K V) → List (Place K V)
  lower_part n ps = take n ps ++ take (length (drop n ps)) no_places

  abbrev pub upper_part : ℕ → List (Place K V) → List (Place K V)
  upper_part n ps = drop n ps ++ drop (length (drop n ps)) no_places

  emptied_at : (n : ℕ) (es : List (Place K V)) → IsEmptied es → slice_index_or es n Empty ≡ Empty
  emptied_at n [] h = refl
  emptied_at zero (Empty ∷ es) h = refl
  emptied_at (suc n) (Empty ∷ es) h = emptied_at n es h
  emptied_at n (Dead s k v ∷ es) h = absurd h
  emptied_at n (Live s g k v ∷ es) h = absurd h

  cleared : (a n m : ℕ) (ps : List (Place K V)) → a ≤ length ps → a ≤ n → slice_index_or (take a ps ++ take m no_places) n Empty ≡ Empty
  cleared zero n m ps l h = emptied_at n (take m no_places) (emptied_take m no_places tt)
  cleared (suc a) n m [] l h = absurd (omega (arith, l))
  cleared (suc a) zero m (p ∷ ps) l h = absurd (omega (arith, h))
  cleared (suc a) (suc n) m (p ∷ ps) l h = cleared a n m ps (omega (arith, l)) (omega (arith, h))

  pub length_lower : (a : ℕ) (ps : List (Place K V)) → length ps ≡ 15 → length (lower_part a ps) ≡ 15
  length_lower a ps len = simp (length-append, length-take, length-drop) (omega (arith, len))

  pub length_upper : (a : ℕ) (ps : List (Place K V)) → length ps ≡ 15 → length (upper_part a ps) ≡ 15
  length_upper a ps len = simp (length-append, length-drop) (omega (arith, len))

  -- the next place to be filled is empty
  pub empty_still : (a n : ℕ) (ps moved : List (Place K V)) → length ps ≡ 15 → a ≤ n → n < 15 → moved ≡ take (n - a) (upper_part a ps) ++ drop (n - a) no_places → slice_index_or moved (n - a) Empty ≡ Empty
  empty_still a n ps moved len le lt is =
      rw is (not_taken (n - a) (upper_part a ps) no_places Empty (omega (arith, length_upper a ps len, lt)) (omega (arith, lt)) ∙ emptied_at (n - a) no_places tt)

  -- one more place is empty
  pub lower_step : (a n : ℕ) (ps now next : List (Place K V)) → length ps ≡ 15 → a ≤ n → n < 15 → now ≡ take n (lower_part a ps) ++ drop n ps
      → next ≡ take n now ++ Empty ∷ drop (n + 1) now → next ≡ take (n + 1) (lower_part a ps) ++ drop (n + 1) ps
  lower_step a n ps now next len le lt is put =
      let e : slice_index_or (lower_part a ps) n Empty ≡ Empty = cleared a n (length (drop a ps)) ps (omega (arith, len, le, lt)) le in
      (rw is at put) ∙ (rw e at (next_taken n (lower_part a ps) ps Empty (omega (arith, length_lower a ps len, lt)) (omega (arith, len, lt))))

  -- one more place has what was there
  pub upper_step : (a n : ℕ) (ps now moved next : List (Place K V)) (p : Place K V) → length ps ≡ 15 → a ≤ n → n < 15 → now ≡ take n (lower_part a ps) ++ drop n ps → p ≡ slice_index_or now n Empty
      → moved ≡ take (n - a) (upper_part a ps) ++ drop (n - a) no_places → next ≡ take (n - a) moved ++ p ∷ drop (n - a + 1) moved
      → next ≡ take (n + 1 - a) (upper_part a ps) ++ drop (n + 1 - a) no_places
  upper_step a n ps now moved next p len le lt is p_is moved_is put =
      let there : p ≡ slice_index_or ps n Empty = (rw is at p_is) ∙ not_taken n (lower_part a ps) ps Empty (omega (arith, length_lower a ps len, lt)) (omega (arith, len, lt)) in
      let k : n - a < length (drop a ps) = simp length-drop (omega (arith, len, le, lt)) in
      let sum : a + (n - a) ≡ n = omega (arith, le) in
      let here : slice_index_or (upper_part a ps) (n - a) Empty ≡ slice_index_or ps n Empty =
      in_first (n - a) (drop a ps) (drop (length (drop a ps)) no_places) Empty k ∙ dropped_at a (n - a) ps Empty ∙ ap (λ m. slice_index_or ps m Empty) sum in
      let more : n + 1 - a ≡ n - a + 1 = omega (arith, le) in
      rw more ((rw (moved_is, there ∙ sym here) at put) ∙ next_taken (n - a) (upper_part a ps) no_places Empty (omega (arith, length_upper a ps len, lt)) (omega (arith, lt)))

  pub lower_end : (a n : ℕ) (ps now : List (Place K V)) → length ps ≡ 15 → 15 ≤ n → now ≡ take n (lower_part a ps) ++ drop n ps → now ≡ lower_part a ps
  lower_end a n ps now len le is = is ∙ take_all n (lower_part a ps) ps (omega (arith, length_lower a ps len, le)) (omega (arith, len, le))

  pub upper_end : (a n : ℕ) (ps moved : List (Place K V)) → length ps ≡ 15 → a ≤ 15 → n ≡ 15 → moved ≡ take (n - a) (upper_part a ps) ++ drop (n - a) no_places → moved ≡ upper_part a ps
  upper_end a n ps moved len le end is =
      let e : n - a ≡ length (drop a ps) = simp length-drop (omega (arith, len, end)) in
      (rw e at is) ∙ ap (λ xs. xs ++ drop (length (drop a ps)) no_places) (first_part (drop a ps) (drop (length (drop a ps)) no_places))
