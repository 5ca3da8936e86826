-- Ranges that are gone from a list.
use Rattle.std.proofs.Common.{◌≡◌, Bool, true, false, not, cond, ◌||◌, List, [], ◌∷◌, ◌++◌, arith, length, Option, Some, None, refl, sym, ap, ◌∙◌}
use Rattle.std.proofs.lemmas.Cmp.{alike_right}
use Rattle.std.specs.Prelude.{slice_get}
use Rattle.std.specs.BTreeMap.Range.{is_from_start, is_past_end, range_contains}
use Rattle.std.specs.Cmp.{IsTotalOrder}
use Rattle.std.specs.declared.cmp.Ordering.{Ordering}
use Rattle.std.specs.declared.ops.Bound.{Bound}
use Rattle.std.specs.declared.ops.Bound.TheVariants.{Included, Excluded, Unbounded}
use Rattle.std.specs.Ordering.{is_lt, is_le}
use Rattle.tree_index.specs.Shape.{AllKeys}
use Rattle.version_drafts.specs.Gone.{FirstIsLeft, is_gone, without_gone}
use Rattle.version_drafts.specs.declared.gone.Gone.{Gone}
use Rattle.version_views.proofs.FilterLemmas.{kept, on_test, IsFair}

abbrev pub outside : {K : Type 0} → (K → Bool) → K → Bool
outside test y = not (test y)

module _ {K : Type 0} {cmp : K → K → Ordering} (o : IsTotalOrder cmp) where
  fair_from : (bound : Bound K) → IsFair o (λ y. is_from_start cmp bound y)
  fair_from (Included a) x y e = ap is_le (alike_right o x y a e)
  fair_from (Excluded a) x y e = ap is_lt (alike_right o x y a e)
  fair_from Unbounded x y e = refl

  fair_past : (bound : Bound K) → IsFair o (λ y. is_past_end cmp bound y)
  fair_past (Included a) x y e = ap is_lt (alike_right o x y a e)
  fair_past (Excluded a) x y e = ap is_le (alike_right o x y a e)
  fair_past Unbounded x y e = refl

  pub fair_range : (lower upper : Bound K) → IsFair o (λ y. range_contains cmp lower upper y)
  fair_range lower upper x y e = rw (fair_from lower x y e, fair_past upper x y e) refl

  pub fair_other : (test : K → Bool) → IsFair o test → IsFair o (outside test)
  fair_other test fair x y e = ap not (fair x y e)

  pub fair_gone : (gone : List (Gone K)) → IsFair o (is_gone cmp gone)
  fair_gone [] x y e = refl
  fair_gone (g ∷ gs) x y e = rw (fair_range g.lower g.upper x y e, fair_gone gs x y e) refl

or_false : (b : Bool) → (b || false) ≡ b
or_false true = refl
or_false false = refl

or_assoc : (a b c : Bool) → ((a || b) || c) ≡ (a || (b || c))
or_assoc true b c = refl
or_assoc false b c = refl

module _ {K : Type 0} (cmp : K → K → Ordering) where
  -- one range more
  pub gone_more : (gone : List (Gone K)) (g : Gone K) (k : K) → is_gone cmp (gone ++ g ∷ []) k ≡ (is_gone cmp gone k || range_contains cmp g.lower g.upper k)
  gone_more [] g k = or_false (range_contains cmp g.lower g.upper k)
  gone_more (h ∷ hs) g k = ap (λ b. range_contains cmp h.lower h.upper k || b) (gone_more hs g k) ∙ sym (or_assoc (range_contains cmp h.lower h.upper k) (is_gone cmp hs k) (range_contains cmp g.lower g.upper k))

  pub without_more : {V : Type 0} (gone : List (Gone K)) (g : Gone K) (ps : List (K × V)) → without_gone cmp (gone ++ g ∷ []) ps ≡ kept (outside (λ y. range_contains cmp g.lower g.upper y)) (without_gone cmp gone ps)
  without_more gone g [] = refl
  without_more gone g (p ∷ ps) =
      let is = gone_more gone g p.0 in
      on_test (is_gone cmp gone p.0)
      (λ a. rw (is, a) (without_more gone g ps))
      (λ a. rw (is, a) (ap (λ qs. cond (not (range_contains cmp g.lower g.upper p.0)) (p ∷ qs) qs) (without_more gone g ps)))

  -- no range leaves all
  pub without_none : {V : Type 0} (ps : List (K × V)) → without_gone cmp [] ps ≡ ps
  without_none [] = refl
  without_none (p ∷ ps) = ap (λ qs. p ∷ qs) (without_none ps)

  -- all pairs of a block are left, or none
  pub without_apart : {V : Type 0} (gone : List (Gone K)) (b ps : List (K × V)) → AllKeys (λ k. is_gone cmp gone k ≡ false) b → without_gone cmp gone (b ++ ps) ≡ b ++ without_gone cmp gone ps
  without_apart gone [] ps a = refl
  without_apart gone (p ∷ b) ps a = let l = a.0 in rw l (ap (λ qs. p ∷ qs) (without_apart gone b ps a.1))

  pub without_covered : {V : Type 0} (gone : List (Gone K)) (b ps : List (K × V)) → AllKeys (λ k. is_gone cmp gone k ≡ true) b → without_gone cmp gone (b ++ ps) ≡ without_gone cmp gone ps
  without_covered gone [] ps a = refl
  without_covered gone (p ∷ b) ps a = let l = a.0 in rw l (without_covered gone b ps a.1)

  pub without_all : {V : Type 0} (gone : List (Gone K)) (b : List (K × V)) → AllKeys (λ k. is_gone cmp gone k ≡ false) b → without_gone cmp gone b ≡ b
  without_all gone [] a = refl
  without_all gone (p ∷ b) a = let l = a.0 in rw l (ap (λ qs. p ∷ qs) (without_all gone b a.1))

  pub without_any : {V : Type 0} (gone : List (Gone K)) (b : List (K × V)) → AllKeys (λ k. is_gone cmp gone k ≡ true) b → without_gone cmp gone b ≡ []
  without_any gone [] a = refl
  without_any gone (p ∷ b) a = let l = a.0 in rw l (without_any gone b a.1)

  -- ---- pairs that are yet to be read

  pub left_of : {V : Type 0} (gone : List (Gone K)) (ps : List (K × V)) (p : K × V) → Some p ≡ slice_get ps 0 → is_gone cmp gone p.0 ≡ false → FirstIsLeft cmp gone ps
  left_of gone [] p e a = tt
  left_of gone (q ∷ ps) p e a = let same : p ≡ q = cc in ap (λ x. is_gone cmp gone x.0) (sym same) ∙ a

  pub left_empty : {V : Type 0} (gone : List (Gone K)) → length gone ≡ 0 → (ps : List (K × V)) → FirstIsLeft cmp gone ps
  left_empty [] e [] = tt
  left_empty [] e (p ∷ ps) = refl
  left_empty (g ∷ gs) e ps = absurd (omega (arith, e))

  pub left_none : {V : Type 0} (gone : List (Gone K)) (ps : List (K × V)) → ◌≡◌ {A = Option (K × V)} None (slice_get ps 0) → FirstIsLeft cmp gone ps
  left_none gone [] e = tt
  left_none gone (q ∷ ps) e = absurd (cc)
