-- A row of leaves that stand in it once: what comes before each, and what each names.
use Rattle.std.proofs.Common.{◌≡◌, ◌≢◌, ◌≤◌, ◌<◌, ◌⊎◌, inl, inr, ℕ, suc, ◌+◌, ◌==◌, true, false, cond, List, [], ◌∷◌, ◌++◌, length, Option, Some, None, refl, sym, ap, ◌∙◌, subst, arith, append_assoc}
use Rattle.std.proofs.lemmas.Bool.{eq-eqb}
use Rattle.std.proofs.lemmas.Bool.Decides.{eqb_tells}
use Rattle.std.proofs.lemmas.List.{length-append}
use Rattle.tree_nodes.specs.Shape.{joined_over}
use Rattle.tree_nodes.specs.Chain.{Links, times, first_or, IsLinked}
use Rattle.tree_nodes.specs.Walk.{pairs_before, rest}
use Rattle.tree_nodes.proofs.ShapeLemmas.{joined_over_append}
use Rattle.tree_nodes.proofs.WayLemmas.{some_same}
use Rattle.tree_nodes.proofs.ChainLemmas.{times_append, first_times}

-- the last of a list, or the other where it is empty
abbrev pub last_or : Option ℕ → List ℕ → Option ℕ
last_or other [] = other
last_or other (n ∷ ns) = last_or (Some n) ns

-- a list up to a number in it, and behind it
pub record Parting (n : ℕ) (ns : List ℕ) : Type 0 where
  pub fore : List ℕ
  pub rear : List ℕ
  pub all : ns ≡ fore ++ n ∷ rear

pub parting : (n : ℕ) (ns : List ℕ) → times n ns ≢ 0 → Parting n ns
parting n [] h = absurd (h refl)
parting n (m ∷ ns) h = split (parting n ns) (eqb_tells m n)
  where
    split : (times n ns ≢ 0 → Parting n ns) → ((m == n) ≡ true × (m ≡ n)) ⊎ ((m == n) ≡ false × (m ≢ n)) → Parting n (m ∷ ns)
    split more (inl e) = record { fore = []; rear = ns; all = ap (λ k. k ∷ ns) e.1 }
    split more (inr e) =
        let zero_here : ◌≡◌ {A = ℕ} (cond (m == n) 1 0) 0 = ap (λ b. cond b 1 0) e.0 in
        let r = more (λ z. h (omega (arith, zero_here, z))) in
        record { fore = m ∷ r.fore; rear = r.rear; all = ap (λ ks. m ∷ ks) r.all }

module _ {X : Type 0} (f : ℕ → List X) where
  -- what comes before a number that isn't in the front
  before_front : (n : ℕ) (xs ys : List ℕ) → times n xs ≡ 0 → pairs_before f n (xs ++ n ∷ ys) ≡ length (joined_over f xs)
  before_front n [] ys h = ap (λ b. cond b 0 (length (f n) + pairs_before f n ys)) (eq-eqb n n refl)
  before_front n (x ∷ xs) ys h = split (before_front n xs ys) (eqb_tells x n)
    where
      split : (times n xs ≡ 0 → pairs_before f n (xs ++ n ∷ ys) ≡ length (joined_over f xs)) → ((x == n) ≡ true × (x ≡ n)) ⊎ ((x == n) ≡ false × (x ≢ n)) → pairs_before f n (x ∷ (xs ++ n ∷ ys)) ≡ length (joined_over f (x ∷ xs))
      split more (inl e) = absurd (let one : ◌≡◌ {A = ℕ} (cond (x == n) 1 0) 1 = ap (λ b. cond b 1 0) e.0 in omega (arith, one, h))
      split more (inr e) = let zero_here : ◌≡◌ {A = ℕ} (cond (x == n) 1 0) 0 = ap (λ b. cond b 1 0) e.0 in rw e.0 (simp length-append (omega (arith, more (omega (arith, zero_here, h)))))

  pub before_parted : (n : ℕ) (ns xs ys : List ℕ) → ns ≡ xs ++ n ∷ ys → times n ns ≤ 1 → pairs_before f n ns ≡ length (joined_over f xs)
  before_parted n ns xs ys e once =
      let all : times n (xs ++ n ∷ ys) ≤ 1 = subst (λ ks. times n ks ≤ 1) e once in
      ap (pairs_before f n) e ∙ before_front n xs ys (omega (arith, times_append n xs (n ∷ ys), first_times n ys, all))

  -- and all of it, up to a number in it
  pub joined_over_parted : (n : ℕ) (ns xs ys : List ℕ) → ns ≡ xs ++ n ∷ ys → joined_over f ns ≡ joined_over f xs ++ (f n ++ joined_over f ys)
  joined_over_parted n ns xs ys e = ap (joined_over f) e ∙ joined_over_append f xs (n ∷ ys)

pub linked_at : (g : Links) (before behind : Option ℕ) (n : ℕ) (xs ys : List ℕ) → IsLinked g before (xs ++ n ∷ ys) behind → g n ≡ Some (last_or before xs, first_or behind ys)
linked_at g before behind n [] ys l = l.0
linked_at g before behind n (x ∷ xs) ys l = linked_at g (Some x) behind n xs ys l.1

-- a list is empty, or has a last
pub by_last : (xs : List ℕ) → (xs ≡ []) ⊎ ((ys : List ℕ) × (n : ℕ) × (xs ≡ ys ++ n ∷ []))
by_last [] = inl refl
by_last (x ∷ xs) = inr (later x xs)
  where
    later : (x : ℕ) (xs : List ℕ) → (ys : List ℕ) × (n : ℕ) × (x ∷ xs ≡ ys ++ n ∷ [])
    later x [] = ([], x, refl)
    later x (y ∷ xs) = let r = later y xs in (x ∷ r.0, r.1, ap (λ ks. x ∷ ks) r.2)

pub last_append : (b : Option ℕ) (ys : List ℕ) (n : ℕ) → last_or b (ys ++ n ∷ []) ≡ Some n
last_append b [] n = refl
last_append b (y ∷ ys) n = last_append (Some y) ys n

pub row_end : (xs : List ℕ) (n : ℕ) → last_or None xs ≡ Some n → (ys : List ℕ) × (xs ≡ ys ++ n ∷ [])
row_end xs n h = split (by_last xs)
  where
    split : (xs ≡ []) ⊎ ((ys : List ℕ) × (m : ℕ) × (xs ≡ ys ++ m ∷ [])) → (ys : List ℕ) × (xs ≡ ys ++ n ∷ [])
    split (inl e) = absurd (let x : None ≡ Some n = sym (ap (last_or None) e) ∙ h in cc)
    split (inr r) =
        let same : r.1 ≡ n = some_same (sym (last_append None r.0 r.1) ∙ sym (ap (last_or None) r.2) ∙ h) in
        (r.0, r.2 ∙ ap (λ k. r.0 ++ k ∷ []) same)

-- how many come up to a number
abbrev pub reach : List ℕ → Option ℕ → ℕ
reach ns None = 0
reach ns (Some n) = suc (pairs_before (λ k. k ∷ []) n ns)

module _ {X : Type 0} (f : ℕ → List X) (ns : List ℕ) where
  abbrev pub Own : Option ℕ → Type 0
  Own None = Unit {0}
  Own (Some n) = times n ns ≢ 0

  abbrev pub starts : Option ℕ → ℕ
  starts None = length (joined_over f ns)
  starts (Some n) = pairs_before f n ns

  abbrev pub ends : Option ℕ → ℕ
  ends None = 0
  ends (Some n) = pairs_before f n ns + length (f n)

  -- what lies around a number that names these
  pub record Neighbours (n : ℕ) (prev next : Option ℕ) : Type 0 where
    pub next_own : Own next
    pub next_starts : starts next ≡ pairs_before f n ns + length (f n)
    pub next_rest : rest ns next < rest ns (Some n)
    pub prev_own : Own prev
    pub prev_ends : ends prev ≡ pairs_before f n ns
    pub prev_reach : reach ns prev < reach ns (Some n)

inside : (ns : List ℕ) (n : ℕ) (xs ys : List ℕ) → ns ≡ xs ++ n ∷ ys → times n ns ≢ 0
inside ns n xs ys e z =
    let all : times n (xs ++ n ∷ ys) ≡ 0 = subst (λ ks. times n ks ≡ 0) e z in
    omega (arith, times_append n xs (n ∷ ys), first_times n ys, all)

one_each : (ns : List ℕ) → length (joined_over (λ (k : ℕ). k ∷ []) ns) ≡ length ns
one_each [] = refl
one_each (n ∷ ns) = omega (arith, one_each ns)

-- the numbers of a row in which each stands once, with what each holds and names
module _ {X : Type 0} (f : ℕ → List X) (g : Links) (ns : List ℕ) (linked : IsLinked g None ns None) (once : (n : ℕ) → times n ns ≤ 1) where
  neighbours_of : (n : ℕ) (xs ys : List ℕ) → ns ≡ xs ++ n ∷ ys → Neighbours f ns n (last_or None xs) (first_or None ys)
  neighbours_of n xs ys e =
      let here = before_parted f n ns xs ys e (once n) in
      let place = before_parted (λ k. k ∷ []) n ns xs ys e (once n) in
      let whole : length (joined_over (λ (k : ℕ). k ∷ []) ns) ≡ length (joined_over (λ (k : ℕ). k ∷ []) xs) + suc (length (joined_over (λ (k : ℕ). k ∷ []) ys)) = ap length (joined_over_parted (λ (k : ℕ). k ∷ []) n ns xs ys e) ∙ simp length-append (omega arith) in
      record {
        next_own = own ys e;
        next_starts = start ys e here;
        next_rest = fewer ys e place whole;
        prev_own = (prev (by_last xs) here place).0;
        prev_ends = (prev (by_last xs) here place).1;
        prev_reach = (prev (by_last xs) here place).2;
      }
    where
      moved : (m : ℕ) (zs : List ℕ) → ns ≡ xs ++ n ∷ (m ∷ zs) → ns ≡ (xs ++ n ∷ []) ++ m ∷ zs
      moved m zs e = e ∙ simp append_assoc

      own : (zs : List ℕ) → ns ≡ xs ++ n ∷ zs → Own f ns (first_or None zs)
      own [] e = tt
      own (m ∷ zs) e = inside ns m (xs ++ n ∷ []) zs (moved m zs e)

      start : (zs : List ℕ) → ns ≡ xs ++ n ∷ zs → pairs_before f n ns ≡ length (joined_over f xs) → starts f ns (first_or None zs) ≡ pairs_before f n ns + length (f n)
      start [] e here = ap length (joined_over_parted f n ns xs [] e) ∙ simp length-append (omega (arith, here))
      start (m ∷ zs) e here =
          let all : length (joined_over f (xs ++ n ∷ [])) ≡ length (joined_over f xs) + length (f n) = ap length (joined_over_append f xs (n ∷ [])) ∙ simp length-append (omega arith) in
          before_parted f m ns (xs ++ n ∷ []) zs (moved m zs e) (once m) ∙ omega (arith, all, here)

      fewer : (zs : List ℕ) → ns ≡ xs ++ n ∷ zs → pairs_before (λ (k : ℕ). k ∷ []) n ns ≡ length (joined_over (λ (k : ℕ). k ∷ []) xs) → length (joined_over (λ (k : ℕ). k ∷ []) ns) ≡ length (joined_over (λ (k : ℕ). k ∷ []) xs) + suc (length (joined_over (λ (k : ℕ). k ∷ []) ys)) → rest ns (first_or None zs) < rest ns (Some n)
      fewer [] e place whole = omega (arith, one_each ns)
      fewer (m ∷ zs) e place whole =
          let all : length (joined_over (λ (k : ℕ). k ∷ []) (xs ++ n ∷ [])) ≡ suc (length (joined_over (λ (k : ℕ). k ∷ []) xs)) = ap length (joined_over_append (λ (k : ℕ). k ∷ []) xs (n ∷ [])) ∙ simp length-append (omega arith) in
          let next = before_parted (λ (k : ℕ). k ∷ []) m ns (xs ++ n ∷ []) zs (moved m zs e) (once m) in
          omega (arith, all, next, place, whole, one_each ns)

      prev : (xs ≡ []) ⊎ ((us : List ℕ) × (m : ℕ) × (xs ≡ us ++ m ∷ [])) → pairs_before f n ns ≡ length (joined_over f xs) → pairs_before (λ (k : ℕ). k ∷ []) n ns ≡ length (joined_over (λ (k : ℕ). k ∷ []) xs) → Own f ns (last_or None xs) × (ends f ns (last_or None xs) ≡ pairs_before f n ns) × (reach ns (last_or None xs) < reach ns (Some n))
      prev (inl none) here place = rw none (tt, sym (here ∙ ap (λ ks. length (joined_over f ks)) none), omega arith)
      prev (inr some) here place =
          let us = some.0 in
          let m = some.1 in
          let back : ns ≡ us ++ m ∷ (n ∷ ys) = e ∙ ap (λ ks. ks ++ n ∷ ys) some.2 ∙ simp append_assoc in
          let last : last_or None xs ≡ Some m = ap (last_or None) some.2 ∙ last_append None us m in
          let front = before_parted f m ns us (n ∷ ys) back (once m) in
          let count = before_parted (λ (k : ℕ). k ∷ []) m ns us (n ∷ ys) back (once m) in
          let all : length (joined_over f xs) ≡ length (joined_over f us) + length (f m) = ap (λ ks. length (joined_over f ks)) some.2 ∙ ap length (joined_over_append f us (m ∷ [])) ∙ simp length-append (omega arith) in
          let more : length (joined_over (λ (k : ℕ). k ∷ []) xs) ≡ suc (length (joined_over (λ (k : ℕ). k ∷ []) us)) = ap (λ ks. length (joined_over (λ (k : ℕ). k ∷ []) ks)) some.2 ∙ ap length (joined_over_append (λ (k : ℕ). k ∷ []) us (m ∷ [])) ∙ simp length-append (omega arith) in
          rw last (inside ns m us (n ∷ ys) back, omega (arith, front, all, here), omega (arith, count, more, place))

  -- what a number of the row names
  pub neighbours : (n : ℕ) (prev next : Option ℕ) → times n ns ≢ 0 → g n ≡ Some (prev, next) → Neighbours f ns n prev next
  neighbours n prev next own here =
      let p = parting n ns own in
      let at : g n ≡ Some (last_or None p.fore, first_or None p.rear) = linked_at g None None n p.fore p.rear (subst (λ ks. IsLinked g None ks None) p.all linked) in
      let e : ◌≡◌ {A = Option (Option ℕ × Option ℕ)} (Some (last_or None p.fore, first_or None p.rear)) (Some (prev, next)) = sym at ∙ here in
      let r = neighbours_of n p.fore p.rear p.all in
      let same : ◌≡◌ {A = Option ℕ × Option ℕ} (last_or None p.fore, first_or None p.rear) (prev, next) = (let i = e in cc) in
      subst (λ (l : Option ℕ × Option ℕ). Neighbours f ns n l.0 l.1) same r

-- the first and the last of a row
pub first_own : {X : Type 0} (f : ℕ → List X) (ns : List ℕ) (n : ℕ) → first_or None ns ≡ Some n → (times n ns ≢ 0) × (pairs_before f n ns ≡ 0)
first_own f [] n e = absurd (let i : None ≡ Some n = e in cc)
first_own f (m ∷ ns) n e =
    let same : m ≡ n = some_same e in
    let on : (m == n) ≡ true = eq-eqb m n same in
    (λ z. let one : ◌≡◌ {A = ℕ} (cond (m == n) 1 0) 1 = ap (λ b. cond b 1 0) on in omega (arith, one, z), ap (λ b. cond b 0 (length (f m) + pairs_before f n ns)) on)

pub last_own : {X : Type 0} (f : ℕ → List X) (ns : List ℕ) (n : ℕ) → times n ns ≤ 1 → last_or None ns ≡ Some n → (times n ns ≢ 0) × (pairs_before f n ns + length (f n) ≡ length (joined_over f ns))
last_own f ns n once e = split (by_last ns)
  where
    split : (ns ≡ []) ⊎ ((us : List ℕ) × (m : ℕ) × (ns ≡ us ++ m ∷ [])) → (times n ns ≢ 0) × (pairs_before f n ns + length (f n) ≡ length (joined_over f ns))
    split (inl none) = absurd (let i : None ≡ Some n = sym (ap (last_or None) none) ∙ e in cc)
    split (inr some) =
        let same : some.1 ≡ n = some_same (sym (ap (last_or None) some.2 ∙ last_append None some.0 some.1) ∙ e) in
        let all : ns ≡ some.0 ++ n ∷ [] = some.2 ∙ ap (λ k. some.0 ++ k ∷ []) same in
        let here = before_parted f n ns some.0 [] all once in
        let whole : length (joined_over f ns) ≡ length (joined_over f some.0) + length (f n) = ap length (joined_over_parted f n ns some.0 [] all) ∙ simp length-append (omega arith) in
        (inside ns n some.0 [] all, omega (arith, here, whole))

pub linked_there : (g : Links) (ns : List ℕ) (n : ℕ) → IsLinked g None ns None → times n ns ≢ 0 → (l : Option ℕ × Option ℕ) × (g n ≡ Some l)
linked_there g ns n linked own =
    let p = parting n ns own in
    ((last_or None p.fore, first_or None p.rear), linked_at g None None n p.fore p.rear (subst (λ ks. IsLinked g None ks None) p.all linked))

pub last_joined : (xs : List ℕ) (b : Option ℕ) (y : ℕ) (ys : List ℕ) → last_or b (xs ++ y ∷ ys) ≡ last_or None (y ∷ ys)
last_joined [] b y ys = refl
last_joined (x ∷ xs) b y ys = last_joined xs (Some x) y ys
