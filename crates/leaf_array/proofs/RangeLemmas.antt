-- Pairs removed one at a time, from the front on, as far as a test passes.
use Rattle.std.proofs.Common.{arith, ◌≡◌, ℕ, zero, suc, ◌+◌, ◌<◌, ◌≤◌, ◌∷◌, ◌||◌, ◌&&◌, not, [], List, ◌++◌, Bool, true, false, cond, length, take, refl, ap, ◌∙◌, sym, Some, slice_get, MatchOption}
use Rattle.std.specs.List.{filter, remove, AllByRecursion}
use Rattle.std.proofs.lemmas.Bool.{false≢true}
use Rattle.leaf_slots.specs.declared.place.Place.{Place}
use Rattle.leaf_slots.specs.declared.place.Place.TheVariants.{Empty, Dead, Live}
use Rattle.std.proofs.lemmas.List.{append_assoc, append-nil}
use Rattle.leaf_array.specs.Cells.{is_nil, labels_left, fallen, taken_out}
use Rattle.leaf_slots.specs.Places.{live_pairs, labels_above}

not_nil : {X : Type 0} (n : ℕ) (xs : List X) → n < length xs → is_nil xs ≡ true → ⊥
not_nil n [] lt e = omega (arith, lt)
not_nil n (x ∷ xs) lt e = false≢true e

filled_not : {X : Type 0} (n : ℕ) (xs : List X) → n < length xs → is_nil xs ≡ false
filled_not n [] lt = absurd (omega (arith, lt))
filled_not n (x ∷ xs) lt = refl

ps_filled : {X Y : Type 0} (xs : List X) (ys : List Y) → (is_nil xs ≡ true → is_nil ys ≡ true) → is_nil ys ≡ false → is_nil xs ≡ false
ps_filled [] ys h e = absurd (false≢true (sym e ∙ h refl))
ps_filled (x ∷ xs) ys h e = refl

by_cases : (old nil frozen : Bool) → ((old || false && not false && not frozen) || nil && not frozen) ≡ (old || nil && not false && not frozen)
by_cases true true true = refl
by_cases true true false = refl
by_cases true false true = refl
by_cases true false false = refl
by_cases false true true = refl
by_cases false true false = refl
by_cases false false true = refl
by_cases false false false = refl

module _ {K V : Type 0} where
  pub length_labels : (low : ℕ) (ps : List (Place K V)) → length (labels_above low ps) ≡ length (live_pairs ps)
  length_labels low [] = refl
  length_labels low (Empty ∷ ps) = refl
  length_labels low (Dead s k v ∷ ps) = refl
  length_labels low (Live s g k v ∷ ps) = ap suc (length_labels (low + g + 1) ps)

  module _ (test : K → Bool) where
    -- what is left of pairs and labels, and the first n of them pass
    pub record Cleared (n : ℕ) (ps qs : List (K × V)) (ls ms : List (ℕ × ℕ)) : Type 0 where
      pub pairs : filter (λ p. not (test p.0)) qs ≡ filter (λ p. not (test p.0)) ps
      pub labels : labels_left test qs ms ≡ labels_left test ps ls
      pub front : AllByRecursion (λ p. test p.0 ≡ false) (take n qs)
      pub some : is_nil ps ≡ true → is_nil qs ≡ true

    filter_remove : (n : ℕ) (qs : List (K × V)) (p : K × V) → slice_get qs n ≡ Some p → test p.0 ≡ true → filter (λ p. not (test p.0)) (remove qs n) ≡ filter (λ p. not (test p.0)) qs
    filter_remove zero [] p e t = refl
    filter_remove (suc n) [] p e t = refl
    filter_remove zero (q ∷ qs) p e t = let s : q ≡ p = cc in let u : test q.0 ≡ true = rw s t in rw u refl
    filter_remove (suc n) (q ∷ qs) p e t = ap (λ rs. cond (not (test q.0)) (q ∷ rs) rs) (filter_remove n qs p e t)

    labels_remove : (n : ℕ) (qs : List (K × V)) (ms : List (ℕ × ℕ)) (p : K × V) → length ms ≡ length qs → slice_get qs n ≡ Some p → test p.0 ≡ true → labels_left test (remove qs n) (remove ms n) ≡ labels_left test qs ms
    labels_remove zero [] ms p len e t = refl
    labels_remove (suc n) [] ms p len e t = refl
    labels_remove n (q ∷ qs) [] p len e t = absurd (omega (arith, len))
    labels_remove zero (q ∷ qs) (m ∷ ms) p len e t = let s : q ≡ p = cc in let u : test q.0 ≡ true = rw s t in rw u refl
    labels_remove (suc n) (q ∷ qs) (m ∷ ms) p len e t = ap (λ rs. cond (test q.0) rs (m ∷ rs)) (labels_remove n qs ms p (omega (arith, len)) e t)

    front_more : (n : ℕ) (qs : List (K × V)) (p : K × V) → slice_get qs n ≡ Some p → test p.0 ≡ false → AllByRecursion (λ p. test p.0 ≡ false) (take n qs) → AllByRecursion (λ p. test p.0 ≡ false) (take (suc n) qs)
    front_more zero [] p e t h = tt
    front_more (suc n) [] p e t h = tt
    front_more zero (q ∷ qs) p e t h = let s : q ≡ p = cc in (rw s t, tt)
    front_more (suc n) (q ∷ qs) p e t h = (h.0, front_more n qs p e t h.1)

    front_remove : (n : ℕ) (qs : List (K × V)) → take n (remove qs n) ≡ take n qs
    front_remove zero qs = refl
    front_remove (suc n) [] = refl
    front_remove (suc n) (q ∷ qs) = ap (λ rs. q ∷ rs) (front_remove n qs)

    filter_all : (qs : List (K × V)) → AllByRecursion (λ p. test p.0 ≡ false) qs → filter (λ p. not (test p.0)) qs ≡ qs
    filter_all [] h = refl
    filter_all (q ∷ qs) h = let u = h.0 in rw u (ap (λ rs. q ∷ rs) (filter_all qs h.1))

    labels_all : (qs : List (K × V)) (ms : List (ℕ × ℕ)) → length ms ≡ length qs → AllByRecursion (λ p. test p.0 ≡ false) qs → labels_left test qs ms ≡ ms
    labels_all [] [] len h = refl
    labels_all [] (m ∷ ms) len h = absurd (omega (arith, len))
    labels_all (q ∷ qs) [] len h = absurd (omega (arith, len))
    labels_all (q ∷ qs) (m ∷ ms) len h = let u = h.0 in rw u (ap (λ rs. m ∷ rs) (labels_all qs ms (omega (arith, len)) h.1))

    take_all : (n : ℕ) (qs : List (K × V)) → length qs ≤ n → take n qs ≡ qs
    take_all zero [] le = refl
    take_all (suc n) [] le = refl
    take_all zero (q ∷ qs) le = absurd (omega (arith, le))
    take_all (suc n) (q ∷ qs) le = ap (λ rs. q ∷ rs) (take_all n qs (omega (arith, le)))

    some_at : (n : ℕ) (qs : List (K × V)) → n < length qs → (p : K × V) × (slice_get qs n ≡ Some p)
    some_at n [] lt = absurd (omega (arith, lt))
    some_at zero (q ∷ qs) lt = (q, refl)
    some_at (suc n) (q ∷ qs) lt = some_at n qs (omega (arith, lt))

    pub cleared_remove : (n : ℕ) (ps qs : List (K × V)) (ls ms : List (ℕ × ℕ)) → n < length qs → length ms ≡ length qs → MatchOption (slice_get qs n) (true ≡ false) (λ p. true ≡ test p.0)
        → Cleared n ps qs ls ms → Cleared n ps (remove qs n) ls (remove ms n)
    cleared_remove n ps qs ls ms lt len h s =
        let p = some_at n qs lt in
        let t : true ≡ test p.0.0 = rw p.1 at h in
        record {
          pairs = filter_remove n qs p.0 p.1 (sym t) ∙ s.pairs;
          labels = labels_remove n qs ms p.0 len p.1 (sym t) ∙ s.labels;
          front = rw (front_remove n qs) s.front;
          some = λ h. absurd (not_nil n qs lt (s.some h));
        }

    pub cleared_keep : (n : ℕ) (ps qs : List (K × V)) (ls ms : List (ℕ × ℕ)) → n < length qs → MatchOption (slice_get qs n) (false ≡ false) (λ p. false ≡ test p.0)
        → Cleared n ps qs ls ms → Cleared (n + 1) ps qs ls ms
    cleared_keep n ps qs ls ms lt h s =
        let p = some_at n qs lt in
        let t : false ≡ test p.0.0 = rw p.1 at h in
        let e : n + 1 ≡ suc n = omega arith in
        record { pairs = s.pairs; labels = s.labels; front = rw e (front_more n qs p.0 p.1 (sym t) s.front); some = s.some }

    -- a pair is buried before those that are taken out behind it
    pub taken_remove : (n : ℕ) (qs : List (K × V)) (ms : List (ℕ × ℕ)) (bs : List (ℕ × (K × V))) → n < length qs → length ms ≡ length qs → MatchOption (slice_get qs n) (true ≡ false) (λ p. true ≡ test p.0) → AllByRecursion (λ p. test p.0 ≡ false) (take n qs)
        → taken_out test (remove qs n) (remove ms n) ++ (fallen n ms qs ++ bs) ≡ taken_out test qs ms ++ bs
    taken_remove n [] ms bs lt len t h = absurd (omega (arith, lt))
    taken_remove n (q ∷ qs) [] bs lt len t h = absurd (omega (arith, len))
    taken_remove zero (q ∷ qs) (m ∷ ms) bs lt len t h = let u : test q.0 ≡ true = sym t in rw u (sym (append_assoc (taken_out test qs ms) ((m.0, q) ∷ []) bs))
    taken_remove (suc n) (q ∷ qs) (m ∷ ms) bs lt len t h =
        let u : test q.0 ≡ false = h.0 in
        let one = ap (λ xs. xs ++ (fallen n ms qs ++ bs)) (append-nil (taken_out test (remove qs n) (remove ms n))) in
        let two = sym (ap (λ xs. xs ++ bs) (append-nil (taken_out test qs ms))) in
        rw u (one ∙ taken_remove n qs ms bs (omega (arith, lt)) (omega (arith, len)) t h.1 ∙ two)

    none_taken : (qs : List (K × V)) (ms : List (ℕ × ℕ)) → AllByRecursion (λ p. test p.0 ≡ false) qs → taken_out test qs ms ≡ []
    none_taken [] ms h = refl
    none_taken (q ∷ qs) [] h = refl
    none_taken (q ∷ qs) (m ∷ ms) h = let u = h.0 in rw u (append-nil (taken_out test qs ms) ∙ none_taken qs ms h.1)

    -- where no more is to be taken out, all of that is buried
    pub taken_all : (n : ℕ) (ps qs : List (K × V)) (ls ms : List (ℕ × ℕ)) (bs : List (ℕ × (K × V))) → length qs ≤ n → Cleared n ps qs ls ms → taken_out test qs ms ++ bs ≡ bs
    taken_all n ps qs ls ms bs le s = ap (λ xs. xs ++ bs) (none_taken qs ms (rw (take_all n qs le) at s.front))

    pub cleared_pairs : (n : ℕ) (ps qs : List (K × V)) (ls ms : List (ℕ × ℕ)) → length qs ≤ n → Cleared n ps qs ls ms → qs ≡ filter (λ p. not (test p.0)) ps
    cleared_pairs n ps qs ls ms le s = sym (filter_all qs (rw (take_all n qs le) at s.front)) ∙ s.pairs

    pub cleared_labels : (n : ℕ) (ps qs : List (K × V)) (ls ms : List (ℕ × ℕ)) → length qs ≤ n → length ms ≡ length qs → Cleared n ps qs ls ms → ms ≡ labels_left test ps ls
    cleared_labels n ps qs ls ms le len s = sym (labels_all qs ms len (rw (take_all n qs le) at s.front)) ∙ s.labels

    -- whether it retires, as far as the removal has come
    pub retired_more : (n : ℕ) (ps qs : List (K × V)) (ls ms : List (ℕ × ℕ)) (old now frozen : Bool) → n < length qs → Cleared n ps qs ls ms
        → now ≡ (old || is_nil qs && not (is_nil ps) && not frozen) → (now || is_nil (remove qs n) && not frozen) ≡ (old || is_nil (remove qs n) && not (is_nil ps) && not frozen)
    retired_more n ps qs ls ms old now frozen lt s h =
        let a : is_nil qs ≡ false = filled_not n qs lt in
        let b : is_nil ps ≡ false = ps_filled ps qs s.some a in
        rw (h, a, b) (by_cases old (is_nil (remove qs n)) frozen)
