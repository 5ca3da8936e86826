-- names of the places whose use weighs 1, as that use changes
use Rattle.std.proofs.Common.{◌≡◌, ◌≢◌, ℕ, zero, suc, ◌+◌, ◌<◌, ◌≤◌, List, [], ◌∷◌, ◌++◌, length, map, get_or, set, replicate, refl, sym, ap, ◌∙◌, arith, subst, get_or-set_same, get_or-set_other, inl, inr}
use Rattle.std.proofs.lemmas.List.{map-set, length-map, length-append, get_or-map}
use Rattle.std.proofs.lemmas.List.{map-append}
use Rattle.std.proofs.lemmas.List.Sums.{sum_by-set, sum_by-cons, sum_by-append}
use Rattle.std.proofs.lemmas.Bool.Decides.{nat_tests, eqb_tells}
use Rattle.std.proofs.Math.Seq.{map-set_same}
use Rattle.sdd_table.specs.Steps.{times, hit}
use Rattle.sdd_table.specs.View.{Lists}

pub hit-same : (i : ℕ) → hit i i ≡ 1
hit-same i = grind (arith, nat_tests)

pub hit-other : (i j : ℕ) → j ≢ i → hit i j ≡ 0
hit-other i j h = grind (arith, nat_tests)

pub hit-suc : (i j : ℕ) → hit (suc i) (suc j) ≡ hit i j
hit-suc i j = grind (arith, nat_tests)

pub times-append : (j : ℕ) (xs : List ℕ) (i : ℕ) → times j (xs ++ i ∷ []) ≡ times j xs + hit i j
times-append j xs i =
    let a = sum_by-append (λ k. hit k j) xs (i ∷ []) in
    let b = sum_by-cons (λ k. hit k j) i [] in
    omega (arith, a, b)

-- what stands in a list is there once at least
pub named_times : (xs : List ℕ) (x d : ℕ) → x < length xs → 1 ≤ times (get_or xs x d) xs
named_times [] x d h = absurd (omega (arith, h))
named_times (y ∷ ys) zero d h = omega (arith, hit-same y, sum_by-cons (λ i. hit i y) y ys)
named_times (y ∷ ys) (suc x) d h =
    let j = get_or ys x d in
    omega (arith, named_times ys x d (omega (arith, h)), sum_by-cons (λ i. hit i j) y ys)

-- a number of a list becomes 1
pub set_up : (xs : List ℕ) (i j : ℕ) → i < length xs → get_or xs i 0 ≡ 0 → get_or (set xs i 1) j 0 ≡ get_or xs j 0 + hit i j
set_up xs i j lt was =
    elim (eqb_tells j i) [
      | inl t ↦
          let P : ℕ → Type 0 = λ k. get_or (set xs i 1) k 0 ≡ get_or xs k 0 + hit i k in
          let here : P i = omega (arith, get_or-set_same xs i 1 0 lt, hit-same i, was) in
          subst P (sym t.1) here
      | inr t ↦ omega (arith, get_or-set_other xs i j 1 0 t.1, hit-other i j t.1)
    ]

-- a number of a list that was 1 becomes 0
pub set_down : (xs : List ℕ) (i j : ℕ) → i < length xs → get_or xs i 0 ≡ 1 → get_or (set xs i 0) j 0 + hit i j ≡ get_or xs j 0
set_down xs i j lt was =
    elim (eqb_tells j i) [
      | inl t ↦
          let P : ℕ → Type 0 = λ k. get_or (set xs i 0) k 0 + hit i k ≡ get_or xs k 0 in
          let here : P i = omega (arith, get_or-set_same xs i 0 0 lt, hit-same i, was) in
          subst P (sym t.1) here
      | inr t ↦ omega (arith, get_or-set_other xs i j 0 0 t.1, hit-other i j t.1)
    ]

pub inside_if : (xs : List ℕ) (i : ℕ) → 1 ≤ get_or xs i 0 → i < length xs
inside_if [] i h = absurd (omega arith)
inside_if (x ∷ xs) zero h = omega arith
inside_if (x ∷ xs) (suc i) h = let r = inside_if xs i h in omega (arith, r)

-- one more number at the end
pub padded : (xs : List ℕ) (j : ℕ) → get_or (xs ++ 0 ∷ []) j 0 ≡ get_or xs j 0
padded [] zero = refl
padded [] (suc j) = refl
padded (x ∷ xs) zero = refl
padded (x ∷ xs) (suc j) = padded xs j

pub extended_at : (xs : List ℕ) (j : ℕ) → get_or (xs ++ 1 ∷ []) j 0 ≡ get_or xs j 0 + hit (length xs) j
extended_at [] zero = refl
extended_at [] (suc j) = omega (arith, hit-other 0 (suc j) (λ e. absurd (omega (arith, e))))
extended_at (x ∷ xs) zero = omega (arith, hit-other (suc (length xs)) 0 (λ e. absurd (omega (arith, e))))
extended_at (x ∷ xs) (suc j) = omega (arith, extended_at xs j, hit-suc (length xs) j)

pub extended : (xs : List ℕ) (n j : ℕ) → n ≡ length xs → get_or (xs ++ 1 ∷ []) j 0 ≡ get_or xs j 0 + hit n j
extended xs n j e = extended_at xs j ∙ ap (λ (m : ℕ). get_or xs j 0 + hit m j) (sym e)

pub replicate-push : {X : Type 0} (n : ℕ) (x : X) → replicate (n + 1) x ≡ replicate n x ++ x ∷ []
replicate-push zero x = refl
replicate-push {X} (suc n) x = let e : suc n + 1 ≡ suc (n + 1) = omega arith in ap (λ (k : ℕ). replicate k x) e ∙ ap (λ (xs : List X). x ∷ xs) (replicate-push n x)

pub map-replicate : {X Y : Type 0} (f : X → Y) (n : ℕ) (x : X) → map f (replicate n x) ≡ replicate n (f x)
map-replicate f zero x = refl
map-replicate f (suc n) x = ap (λ (ys : List _). f x ∷ ys) (map-replicate f n x)

module _ {X : Type 0} (f : X → ℕ) where
  pub lists_same : (all : List X) (i : ℕ) (s d : X) (names : List ℕ) → i < length all → f s ≡ f (get_or all i d) → Lists f all names → Lists f (set all i s) names
  lists_same all i s d names lt even h = record {
    each = λ j. h.each j ∙ sym (ap (λ (xs : List ℕ). get_or xs j 0) (map-set_same f all i s d even));
    count = omega (arith, h.count, sum_by-set f all i s d lt, even);
  }

  -- what map makes of a change
  weighs : (all : List X) (i j : ℕ) (s : X) (n : ℕ) → f s ≡ n → get_or (map f (set all i s)) j 0 ≡ get_or (set (map f all) i n) j 0
  weighs all i j s n e = ap (λ (xs : List ℕ). get_or xs j 0) (map-set f all i s) ∙ ap (λ (m : ℕ). get_or (set (map f all) i m) j 0) e

  pub lists_push : (all : List X) (i : ℕ) (s d : X) (names names' : List ℕ) → names' ≡ names ++ i ∷ [] → i < length all → f (get_or all i d) ≡ 0 → f s ≡ 1 → Lists f all names → Lists f (set all i s) names'
  lists_push all i s d names names' e lt was is h =
      let within : i < length (map f all) = omega (arith, length-map all f, lt) in
      let here : get_or (map f all) i 0 ≡ 0 = get_or-map f all i d 0 lt ∙ was in
      record {
        each = λ j. ap (times j) e ∙ omega (arith, times-append j names i, h.each j, weighs all i j s 1 is, set_up (map f all) i j within here);
        count = ap length e ∙ omega (arith, length-append names (i ∷ []), h.count, sum_by-set f all i s d lt, was, is);
      }

  -- what a name says
  pub lists_names : (all : List X) (i : ℕ) (d : X) (names names' : List ℕ) → names ≡ names' ++ i ∷ [] → Lists f all names → (i < length all) × (1 ≤ f (get_or all i d))
  lists_names all i d names names' e h =
      let one : get_or (map f all) i 0 ≡ times i names' + 1 = sym (h.each i) ∙ ap (times i) e ∙ omega (arith, times-append i names' i, hit-same i) in
      let within : i < length (map f all) = inside_if (map f all) i (omega (arith, one)) in
      let lt : i < length all = omega (arith, length-map all f, within) in
      (lt, omega (arith, get_or-map f all i d 0 lt, one))

  pub lists_pop : (all : List X) (i : ℕ) (s d : X) (names names' : List ℕ) → names ≡ names' ++ i ∷ [] → i < length all → f (get_or all i d) ≡ 1 → f s ≡ 0 → Lists f all names → Lists f (set all i s) names'
  lists_pop all i s d names names' e lt was is h =
      let within : i < length (map f all) = omega (arith, length-map all f, lt) in
      let here : get_or (map f all) i 0 ≡ 1 = get_or-map f all i d 0 lt ∙ was in
      record {
        each = λ j. let t = ap (times j) e in omega (arith, t, times-append j names' i, h.each j, weighs all i j s 0 is, set_down (map f all) i j within here);
        count = let t = ap length e in omega (arith, t, length-append names' (i ∷ []), h.count, sum_by-set f all i s d lt, was, is);
      }

  -- no name is left
  pub lists_none : (all : List X) (i : ℕ) (d : X) → Lists f all [] → i < length all → f (get_or all i d) ≡ 0
  lists_none all i d h lt = sym (get_or-map f all i d 0 lt) ∙ sym (h.each i)

  appended : (all : List X) (x : X) (j : ℕ) → get_or (map f (all ++ x ∷ [])) j 0 ≡ get_or (map f all ++ f x ∷ []) j 0
  appended all x j = ap (λ (xs : List ℕ). get_or xs j 0) (map-append f all (x ∷ []))

  pub lists_skip : (all : List X) (x : X) (names : List ℕ) → f x ≡ 0 → Lists f all names → Lists f (all ++ x ∷ []) names
  lists_skip all x names none h = record {
    each = λ j. h.each j ∙ sym (appended all x j ∙ ap (λ (n : ℕ). get_or (map f all ++ n ∷ []) j 0) none ∙ padded (map f all) j);
    count = omega (arith, h.count, sum_by-append f all (x ∷ []), sum_by-cons f x [], none);
  }

  pub lists_grow : (all : List X) (x : X) (names : List ℕ) (n : ℕ) → n ≡ length all → f x ≡ 1 → Lists f all names → Lists f (all ++ x ∷ []) (names ++ n ∷ [])
  lists_grow all x names n at one h = record {
    each = λ j. times-append j names n ∙ omega (arith, h.each j, appended all x j, ap (λ (m : ℕ). get_or (map f all ++ m ∷ []) j 0) one, extended (map f all) n j (at ∙ sym (length-map all f)));
    count = omega (arith, h.count, length-append names (n ∷ []), sum_by-append f all (x ∷ []), sum_by-cons f x [], one);
  }

  -- some name is left
  pub lists_some : (all : List X) (d : X) (names : List ℕ) → Lists f all names → length names ≢ 0 → (i : ℕ) × (i < length all) × (1 ≤ f (get_or all i d))
  lists_some all d [] h some = absurd (some refl)
  lists_some all d (x ∷ xs) h some =
      let one : get_or (map f all) x 0 ≡ hit x x + times x xs = sym (h.each x) ∙ sum_by-cons (λ k. hit k x) x xs in
      let within : x < length (map f all) = inside_if (map f all) x (omega (arith, one, hit-same x)) in
      let lt : x < length all = omega (arith, length-map all f, within) in
      (x, lt, omega (arith, get_or-map f all x d 0 lt, one, hit-same x))
