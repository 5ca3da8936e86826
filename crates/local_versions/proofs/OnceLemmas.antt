-- No segment stands twice in a list.
use Rattle.std.proofs.Common.{◌≡◌, ℕ, ◌≤◌, Option, None, Some, List, [], ◌∷◌, ◌++◌, length, map, refl, sym, ap, ◌∙◌, arith, subst, inl, inr}
use Rattle.std.proofs.lemmas.Bool.Decides.{eqb_tells}
use Rattle.std.proofs.lemmas.List.Elements.{All-head, All-tail}
use Rattle.std.proofs.lemmas.List.Sums.{sum_by-cons}
use Rattle.std.specs.Cmp.{IsTotalOrder, tied_itself}
use Rattle.std.specs.declared.cmp.Ordering.{Ordering}
use Rattle.std.specs.declared.cmp.Ordering.TheVariants.{Less}
use Rattle.std.specs.List.{All}
use Rattle.sdd_world.specs.Steps.{hit, times}
use Rattle.sdd_world.proofs.ListLemmas.{hit-same, hit-other}
use Rattle.leaf_array.specs.Pairs.{IsAscending}
use Rattle.tree_index.specs.Shape.{AllKeys}
use Rattle.version_views.specs.Cuts.{pairs_in}
use Rattle.version_drafts.specs.Cutting.{IsSegmentSized}
use Rattle.version_views.proofs.FilterLemmas.{all_front, all_rear, rising_head, rising_rear}

-- a slot more, if there is one
abbrev slots_with : Option ℕ → List ℕ → List ℕ
slots_with None is = is
slots_with (Some i) is = i ∷ is

-- the slots that things name
abbrev pub slots_by : {X : Type 0} → (X → Option ℕ) → List X → List ℕ
slots_by slot [] = []
slots_by slot (x ∷ xs) = slots_with (slot x) (slots_by slot xs)

module _ {X K V : Type 0} (cmp : K → K → Ordering) (o : IsTotalOrder cmp) (s : ℕ) (slot : X → Option ℕ) (f : X → List (K × V)) (at : ℕ → List (K × V)) (same : (x : X) (i : ℕ) → slot x ≡ Some i → f x ≡ at i) where
  never_below : (k : K) → cmp k k ≡ Less → ⊥
  never_below k l = let e = tied_itself o k in cc

  -- what lies above a key of a block doesn't have the block
  absent : (j : ℕ) (p : K × V) (ps : List (K × V)) → at j ≡ p ∷ ps → (xs : List X) → AllKeys (λ y. cmp p.0 y ≡ Less) (pairs_in (map f xs)) → times j (slots_by slot xs) ≡ 0
  absent j p ps e [] all = refl
  absent j p ps e (x ∷ xs) all =
      let rest = absent j p ps e xs (all_rear _ (f x) (pairs_in (map f xs)) all) in
      let front = all_front _ (f x) (pairs_in (map f xs)) all in
      (elim (slot x) as (λ (q : Option ℕ). slot x ≡ q → times j (slots_with q (slots_by slot xs)) ≡ 0) [
        | None ↦ λ h. rest
        | Some i ↦ λ h. elim (eqb_tells i j) [
          | inl t ↦ absurd (never_below p.0 (subst (AllKeys (λ y. cmp p.0 y ≡ Less)) (same x i h ∙ (ap at t.1 ∙ e)) front).0)
          | inr t ↦ let sum = sum_by-cons (λ k. hit k j) i (slots_by slot xs) in let other = hit-other i j (λ g. t.1 (sym g)) in omega (arith, sum, other, rest)
        ]
      ]) refl

  some_first : (b : List (K × V)) → 1 ≤ length b → (p : K × V) × (ps : List (K × V)) × (b ≡ p ∷ ps)
  some_first [] h = absurd (omega (arith, h))
  some_first (p ∷ ps) h = (p, ps, refl)

  pub once_by : (xs : List X) → All (IsSegmentSized s) (map f xs) → IsAscending cmp (pairs_in (map f xs)) → (j : ℕ) → times j (slots_by slot xs) ≤ 1
  once_by [] sizes up j = omega arith
  once_by (x ∷ xs) sizes up j =
      let rest = once_by xs (All-tail (IsSegmentSized s) (f x) (map f xs) sizes) (rising_rear cmp (f x) (pairs_in (map f xs)) up) j in
      (elim (slot x) as (λ (q : Option ℕ). slot x ≡ q → times j (slots_with q (slots_by slot xs)) ≤ 1) [
        | None ↦ λ h. rest
        | Some i ↦ λ h.
            let sum = sum_by-cons (λ k. hit k j) i (slots_by slot xs) in
            elim (eqb_tells i j) [
              | inl t ↦
                  let first = some_first (f x) (All-head (IsSegmentSized s) (f x) (map f xs) sizes).0 in
                  let here : at j ≡ first.0 ∷ first.1 = ap at (sym t.1) ∙ (sym (same x i h) ∙ first.2) in
                  let over = rising_head cmp first.0 (first.1 ++ pairs_in (map f xs)) (subst (λ b. IsAscending cmp (b ++ pairs_in (map f xs))) first.2 up) in
                  let none = absent j first.0 first.1 here xs (all_rear _ first.1 (pairs_in (map f xs)) over) in
                  let one = ap (λ k. hit k j) t.1 ∙ hit-same j in
                  omega (arith, sum, none, one)
              | inr t ↦ let other = hit-other i j (λ g. t.1 (sym g)) in omega (arith, sum, other, rest)
            ]
      ]) refl

slots_all : (xs : List ℕ) → slots_by (λ i. Some i) xs ≡ xs
slots_all [] = refl
slots_all (x ∷ xs) = ap (λ ys. x ∷ ys) (slots_all xs)

some_slot : (x y : ℕ) → Some x ≡ Some y → x ≡ y
some_slot x y e = cc

-- segments of a list name no slot twice
pub slots_once : {K V : Type 0} (s : ℕ) (cmp : K → K → Ordering) (o : IsTotalOrder cmp) (f : ℕ → List (K × V)) (xs : List ℕ) → All (IsSegmentSized s) (map f xs) → IsAscending cmp (pairs_in (map f xs)) → (j : ℕ) → times j xs ≤ 1
slots_once s cmp o f xs sizes rising j = subst (λ ys. times j ys ≤ 1) (slots_all xs) (once_by cmp o s (λ i. Some i) f f (λ x i e. ap f (some_slot x i e)) xs sizes rising j)
