-- Leaves in a row: where one comes in between two, and what their list has to do with the pairs.
use Rattle.std.proofs.Common.{◌≡◌, ◌≢◌, ◌≤◌, ◌⊎◌, inl, inr, ℕ, zero, suc, ◌+◌, ◌==◌, true, false, cond, List, [], ◌∷◌, ◌++◌, Option, Some, None, refl, sym, ap, ◌∙◌, subst, arith}
use Rattle.std.specs.Option.{option_map}
use Rattle.std.proofs.lemmas.Bool.{eq-eqb}
use Rattle.std.proofs.lemmas.Bool.Decides.{eqb_tells}
use Rattle.leaf_array.specs.Cells.{Cells}
use Rattle.tree_nodes.specs.Shape.{ArenaContent, joined_along, node_joined, sum_along, node_sum, leaves_under, leaf_times}
use Rattle.tree_nodes.specs.Chain.{Links, times, first_or, IsLinked, is_named, linked_in}
use Rattle.tree_nodes.proofs.WayLemmas.{some_same}

pub times_append : (n : ℕ) (xs ys : List ℕ) → times n (xs ++ ys) ≡ times n xs + times n ys
times_append n [] ys = omega arith
times_append n (x ∷ xs) ys = omega (arith, times_append n xs ys)

pub first_times : (n : ℕ) (ns : List ℕ) → times n (n ∷ ns) ≡ suc (times n ns)
first_times n ns = let e : times n (n ∷ ns) ≡ 1 + times n ns = ap (λ b. cond b 1 0 + times n ns) (eq-eqb n n refl) in omega (arith, e)

-- a number that stands in a list isn't one that doesn't
apart_times : (n m : ℕ) (ns : List ℕ) → times n ns ≢ 0 → times m ns ≡ 0 → n ≢ m
apart_times n m ns d z e = d (subst (λ (k : ℕ). times k ns ≡ 0) (sym e) z)

pub named_apart : (p : Option ℕ) (n : ℕ) → p ≢ Some n → is_named p n ≡ false
named_apart None n h = refl
named_apart (Some m) n h = split (eqb_tells m n)
  where
    split : ((m == n) ≡ true × (m ≡ n)) ⊎ ((m == n) ≡ false × (m ≢ n)) → (m == n) ≡ false
    split (inl e) = absurd (h (ap Some e.1))
    split (inr e) = e.0

-- the rest of a row is a row, and rows depend on what their numbers name
pub linked_kept : (f g : Links) (before : Option ℕ) (ns : List ℕ) (behind : Option ℕ) → ((n : ℕ) → times n ns ≢ 0 → g n ≡ f n) → IsLinked f before ns behind → IsLinked g before ns behind
linked_kept f g before [] behind same l = tt
linked_kept f g before (n ∷ ns) behind same l =
    let t = first_times n ns in
    (same n (λ e. omega (arith, t, e)) ∙ l.0, linked_kept f g (Some n) ns behind (λ m d. same m (λ e. d (omega (arith, e)))) l.1)

-- what stands behind a front
pub linked_rest : (f : Links) (before : Option ℕ) (xs ys : List ℕ) (behind : Option ℕ) → IsLinked f before (xs ++ ys) behind → (b : Option ℕ) × IsLinked f b ys behind
linked_rest f before [] ys behind l = (before, l)
linked_rest f before (x ∷ xs) ys behind l = linked_rest f (Some x) xs ys behind l.1

-- what a number inside a row names before itself stands in the row
pub named_before : (f : Links) (x : ℕ) (xs : List ℕ) (at : ℕ) (ys : List ℕ) (before behind : Option ℕ) (p q : Option ℕ) → IsLinked f before ((x ∷ xs) ++ at ∷ ys) behind → f at ≡ Some (p, q) → (m : ℕ) × (p ≡ Some m) × (times m (x ∷ xs) ≢ 0)
named_before f x [] at ys before behind p q l here =
    let e : ◌≡◌ {A = Option ℕ × Option ℕ} (p, q) (Some x, first_or behind ys) = some_same (sym here ∙ l.1.0) in
    let t = first_times x [] in
    (x, ap (λ (r : Option ℕ × Option ℕ). r.0) e, λ z. omega (arith, t, z))
named_before f x (y ∷ xs) at ys before behind p q l here =
    let r = named_before f y xs at ys (Some x) behind p q l.1 here in
    (r.0, r.1, λ z. r.2 (omega (arith, z)))

pub same_links : (x : Option (Option ℕ × Option ℕ)) → option_map (λ (l : Option ℕ × Option ℕ). (l.0, l.1)) x ≡ x
same_links None = refl
same_links (Some l) = refl

-- a number comes into a row in front of another
module _ (f old g : Links) (fresh at : ℕ) (p q : Option ℕ) (here : f at ≡ Some (p, q)) (base : (n : ℕ) → n ≢ fresh → old n ≡ f n) (added : old fresh ≡ Some (p, Some at)) (named : (n : ℕ) → g n ≡ linked_in fresh p at old n) (ys : List ℕ) (behind : Option ℕ) where
  off : (m n : ℕ) → m ≢ n → (m == n) ≡ false
  off m n d = split (eqb_tells m n)
    where
      split : ((m == n) ≡ true × (m ≡ n)) ⊎ ((m == n) ≡ false × (m ≢ n)) → (m == n) ≡ false
      split (inl e) = absurd (d e.1)
      split (inr e) = e.0

  others : (n : ℕ) → n ≢ fresh → n ≢ at → p ≢ Some n → g n ≡ f n
  others n a b c = named n ∙ rw (off n at b, named_apart p n c) (same_links (old n) ∙ base n a)

  at_fresh : fresh ≢ at → p ≢ Some fresh → g fresh ≡ Some (p, Some at)
  at_fresh a c = named fresh ∙ rw (off fresh at a, named_apart p fresh c, added) refl

  at_behind : fresh ≢ at → p ≢ Some at → g at ≡ Some (Some fresh, q)
  at_behind a c = named at ∙ rw (eq-eqb at at refl, named_apart p at c, base at (λ e. a (sym e)), here) refl

  at_before : (n : ℕ) (l : Option ℕ × Option ℕ) → n ≢ fresh → n ≢ at → p ≡ Some n → f n ≡ Some l → g n ≡ Some (l.0, Some fresh)
  at_before n l a b c there = named n ∙ rw (off n at b, c, eq-eqb n n refl, base n a, there) refl

  pub linked_split : (before : Option ℕ) (xs : List ℕ) → IsLinked f before (xs ++ at ∷ ys) behind → ((n : ℕ) → times n (xs ++ at ∷ ys) ≤ 1) → times fresh (xs ++ at ∷ ys) ≡ 0 → ((n : ℕ) → before ≡ Some n → (times n (xs ++ at ∷ ys) ≡ 0) × (n ≢ fresh)) → IsLinked g before (xs ++ fresh ∷ (at ∷ ys)) behind
  linked_split before [] l once none outside =
      let e : ◌≡◌ {A = Option ℕ × Option ℕ} (p, q) (before, first_or behind ys) = some_same (sym here ∙ l.0) in
      let e_p : p ≡ before = ap (λ (r : Option ℕ × Option ℕ). r.0) e in
      let e_q : q ≡ first_or behind ys = ap (λ (r : Option ℕ × Option ℕ). r.1) e in
      let one = first_times at ys in
      let apart : fresh ≢ at = λ d. apart_times at fresh (at ∷ ys) (λ z. omega (arith, one, z)) none (sym d) in
      let far : p ≢ Some at = λ d. let z = (outside at (sym e_p ∙ d)).0 in omega (arith, one, z) in (
        at_fresh apart (λ d. (outside fresh (sym e_p ∙ d)).1 refl) ∙ ap (λ (r : Option ℕ). Some (r, Some at)) e_p,
        (
          at_behind apart far ∙ ap (λ (r : Option ℕ). Some (Some fresh, r)) e_q,
          linked_kept f g (Some at) ys behind (λ n d. others n
              (apart_times n fresh ys d (omega (arith, none)))
              (λ r. d (subst (λ (k : ℕ). times k ys ≡ 0) (sym r) (omega (arith, one, once at))))
              (λ r. d (omega (arith, (outside n (sym e_p ∙ r)).0)))) l.1,
        ),
      )
  linked_split before (x ∷ xs) l once none outside =
      let one = first_times x (xs ++ at ∷ ys) in
      let two = first_times at ys in
      let three = times_append at xs (at ∷ ys) in
      let apart_fresh : x ≢ fresh = apart_times x fresh (x ∷ (xs ++ at ∷ ys)) (λ z. omega (arith, one, z)) none in
      let apart_at : x ≢ at = apart_times x at (x ∷ []) (λ z. omega (arith, first_times x [], z)) (omega (arith, two, three, once at)) in (
        head xs l.0 l apart_fresh apart_at (λ n d. omega (arith, once n, times_append n xs (at ∷ ys), d)),
        linked_split (Some x) xs l.1 (λ n. omega (arith, once n)) (omega (arith, none)) (λ n e. (subst (λ (k : ℕ). times k (xs ++ at ∷ ys) ≡ 0) (some_same e) (omega (arith, one, once x)), λ d. apart_fresh (some_same e ∙ d))),
      )
    where
      head : (zs : List ℕ) → f x ≡ Some (before, first_or behind (zs ++ at ∷ ys)) → IsLinked f before ((x ∷ zs) ++ at ∷ ys) behind → x ≢ fresh → x ≢ at → ((n : ℕ) → times n zs ≢ 0 → ◌≡◌ {A = ℕ} (cond (x == n) 1 0) 0) → g x ≡ Some (before, first_or behind (zs ++ fresh ∷ (at ∷ ys)))
      head [] h m a b c =
          let e : ◌≡◌ {A = Option ℕ × Option ℕ} (p, q) (Some x, first_or behind ys) = some_same (sym here ∙ m.1.0) in
          at_before x (before, Some at) a b (ap (λ (r : Option ℕ × Option ℕ). r.0) e) h
      head (z ∷ zs) h m a b c =
          let r = named_before f z zs at ys (Some x) behind p q m.1 here in
          let zero_x = c r.0 r.2 in
          others x a b (λ d. let e : r.0 ≡ x = some_same (sym r.1 ∙ d) in let one : ◌≡◌ {A = ℕ} (cond (x == r.0) 1 0) 1 = ap (λ b. cond b 1 0) (eq-eqb x r.0 (sym e)) in omega (arith, one, zero_x)) ∙ h

module _ {K V : Type 0} (a : ArenaContent K V) where
  times_along : (n : ℕ) (f : ℕ → List ℕ) (g : ℕ → ℕ) → ((at : ℕ) → times n (f at) ≡ g at) → (es : List (K × ℕ)) (last : ℕ) → times n (joined_along f es last) ≡ sum_along g es last
  times_along n f g each [] last = each last
  times_along n f g each (e ∷ es) last = omega (arith, times_append n (f e.1) (joined_along f es last), each e.1, times_along n f g each es last)

  times_node : (n : ℕ) (f : ℕ → List ℕ) (g : ℕ → ℕ) → ((at : ℕ) → times n (f at) ≡ g at) → (m : Option (Cells K ℕ × ℕ)) → times n (node_joined f m) ≡ node_sum g m
  times_node n f g each None = refl
  times_node n f g each (Some m) = times_along n f g each m.0.pairs m.1

  -- a leaf stands in a tree as often as in the list of its leaves
  pub times_counted : (n height at : ℕ) → times n (leaves_under a height at) ≡ leaf_times a n height at
  times_counted n zero at = omega arith
  times_counted n (suc height) at = times_node n (leaves_under a height) (leaf_times a n height) (times_counted n height) (a.node at)
