-- Leaves in a row: one leaves it, and its neighbours name each other.
use Rattle.std.proofs.Common.{◌≡◌, ◌≢◌, ◌≤◌, ℕ, List, [], ◌∷◌, ◌++◌, Option, Some, None, refl, sym, ap, ◌∙◌, subst, arith}
use Rattle.std.proofs.lemmas.Bool.{eq-eqb}
use Rattle.tree_nodes.specs.Chain.{Links, times, first_or, IsLinked, linked_out}
use Rattle.tree_nodes.proofs.WayLemmas.{some_same}
use Rattle.tree_nodes.proofs.ChainLemmas.{first_times, times_append, named_apart, same_links, named_before, linked_kept}

first_own : (ys : List ℕ) (n : ℕ) → first_or None ys ≡ Some n → times n ys ≢ 0
first_own [] n e = absurd (let x : None ≡ Some n = e in cc)
first_own (y ∷ ys) n e = λ z. let t = first_times y ys in let w : times y (y ∷ ys) ≡ 0 = subst (λ (k : ℕ). times k (y ∷ ys) ≡ 0) (sym (some_same e)) z in omega (arith, t, w)

module _ (f g : Links) (at : ℕ) (p q : Option ℕ) (here : f at ≡ Some (p, q)) (named : (n : ℕ) → g n ≡ linked_out p q f n) where
  -- what neither of both is
  apart : (n : ℕ) → p ≢ Some n → q ≢ Some n → g n ≡ f n
  apart n d e = named n ∙ rw (named_apart p n d, named_apart q n e) (same_links (f n))

  at_behind : (n : ℕ) (l : Option ℕ × Option ℕ) → p ≢ Some n → q ≡ Some n → f n ≡ Some l → g n ≡ Some (p, l.1)
  at_behind n l d e there = named n ∙ rw (named_apart p n d, e, eq-eqb n n refl, there) refl

  at_before : (n : ℕ) (l : Option ℕ × Option ℕ) → p ≡ Some n → q ≢ Some n → f n ≡ Some l → g n ≡ Some (l.0, q)
  at_before n l d e there = named n ∙ rw (named_apart q n e, d, eq-eqb n n refl, there) refl

  -- what comes behind it
  follow : (before : Option ℕ) (ys : List ℕ) → p ≡ before → q ≡ first_or None ys → IsLinked f (Some at) ys None → ((n : ℕ) → times n ys ≤ 1) → ((n : ℕ) → before ≡ Some n → times n ys ≡ 0) → IsLinked g before ys None
  follow before [] e_p e_q l once outside = tt
  follow before (y ∷ ys) e_p e_q l once outside =
      let one = first_times y ys in (
        at_behind y (Some at, first_or None ys) (λ d. omega (arith, one, outside y (sym e_p ∙ d))) e_q l.0 ∙ ap (λ (r : Option ℕ). Some (r, first_or None ys)) e_p,
        linked_kept f g (Some y) ys None (λ n d. apart n
            (λ r. d (omega (arith, outside n (sym e_p ∙ r))))
            (λ r. d (let same : y ≡ n = some_same (sym e_q ∙ r) in subst (λ (k : ℕ). times k ys ≡ 0) same (omega (arith, one, once y))))) l.1,
      )

  pub linked_left : (before : Option ℕ) (xs ys : List ℕ) → q ≡ first_or None ys → IsLinked f before (xs ++ at ∷ ys) None → ((n : ℕ) → times n (xs ++ at ∷ ys) ≤ 1) → ((n : ℕ) → before ≡ Some n → times n (xs ++ at ∷ ys) ≡ 0) → IsLinked g before (xs ++ ys) None
  linked_left before [] ys e_q l once outside =
      let e : ◌≡◌ {A = Option ℕ × Option ℕ} (p, q) (before, first_or None ys) = some_same (sym here ∙ l.0) in
      follow before ys (ap (λ (r : Option ℕ × Option ℕ). r.0) e) e_q l.1 (λ n. omega (arith, once n)) (λ n d. omega (arith, outside n d))
  linked_left before (x ∷ xs) ys e_q l once outside =
      let one = first_times x (xs ++ at ∷ ys) in (
        head xs l.0 l.1 (λ n. once n),
        linked_left (Some x) xs ys e_q l.1 (λ n. omega (arith, once n)) (λ n e. subst (λ (k : ℕ). times k (xs ++ at ∷ ys) ≡ 0) (some_same e) (omega (arith, one, once x))),
      )
    where
      far : (zs : List ℕ) → times x (x ∷ (zs ++ at ∷ ys)) ≤ 1 → q ≢ Some x
      far zs h d = first_own ys x (sym e_q ∙ d) (omega (arith, h, first_times x (zs ++ at ∷ ys), times_append x zs (at ∷ ys)))

      head : (zs : List ℕ) → f x ≡ Some (before, first_or None (zs ++ at ∷ ys)) → IsLinked f (Some x) (zs ++ at ∷ ys) None → ((n : ℕ) → times n (x ∷ (zs ++ at ∷ ys)) ≤ 1) → g x ≡ Some (before, first_or None (zs ++ ys))
      head [] h m once =
          let e : ◌≡◌ {A = Option ℕ × Option ℕ} (p, q) (Some x, first_or None ys) = some_same (sym here ∙ m.0) in
          at_before x (before, Some at) (ap (λ (r : Option ℕ × Option ℕ). r.0) e) (far [] (once x)) h ∙ ap (λ (r : Option ℕ). Some (before, r)) e_q
      head (z ∷ zs) h m once =
          let r = named_before f z zs at ys (Some x) None p q m here in
          apart x (λ d. r.2 (let same : r.0 ≡ x = some_same (sym r.1 ∙ d) in subst (λ (k : ℕ). times k (z ∷ zs) ≡ 0) (sym same) (omega (arith, once x, first_times x ((z ∷ zs) ++ at ∷ ys), times_append x (z ∷ zs) (at ∷ ys))))) (far (z ∷ zs) (once x)) ∙ h
