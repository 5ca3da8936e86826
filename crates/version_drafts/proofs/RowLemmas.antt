-- A key in a row of edits: where it is, and what comes of putting it in.
use Rattle.std.proofs.Common.{◌≡◌, ℕ, zero, suc, ◌+◌, ◌<◌, ◌≤◌, length, arith, List, [], ◌∷◌, ◌++◌, Option, Result, Ok, Err, IfOk, IfErr, HoldsAt, drop, get_or, set, take, refl, sym, ap, ◌∙◌}
use Rattle.std.proofs.lemmas.Cmp.{alike_right}
use Rattle.std.proofs.lemmas.List.{set_split}
use Rattle.std.proofs.lemmas.List.Sorted.{searchable_from_sorted}
use Rattle.std.specs.Cmp.{IsTotalOrder}
use Rattle.std.specs.declared.cmp.Ordering.{Ordering}
use Rattle.std.specs.declared.cmp.Ordering.TheVariants.{Less, Equal, Greater}
use Rattle.std.specs.List.{AllWithin, insert}
use Rattle.std.specs.List.Sorted.{IsBinarySearchResult, IsPartitionPoint, IsSearchInRange, IsSortedBy}
use Rattle.std.specs.Ordering.{is_lt, ordering_reverse}
use Rattle.leaf_array.specs.Edits.{upserted}
use Rattle.leaf_array.specs.Pairs.{IsAscending}
use Rattle.tree_index.specs.Shape.{AllKeys}
use Rattle.tree_index.proofs.ShapeLemmas.{turned}
use Rattle.version_views.proofs.FilterLemmas.{all_above, all_behind, none_below, rising_head, rising_tail}
use Rattle.version_drafts.specs.Rows.{IsFoundAt, IsMissingAt}
use Rattle.version_drafts.proofs.DeltaLemmas.{not_noted}

all_at : {K X : Type 0} (P : K → Type 0) (ps : List (K × X)) (i : ℕ) (d : K × X) → AllKeys P ps → i < length ps → P (get_or ps i d).0
all_at P [] i d a h = absurd (omega (arith, h))
all_at P (p ∷ ps) zero d a h = a.0
all_at P (p ∷ ps) (suc i) d a h = all_at P ps i d a.1 (omega (arith, h))

module _ {K V : Type 0} {cmp : K → K → Ordering} (o : IsTotalOrder cmp) where
  sorted : (ps : List (K × Option V)) → IsAscending cmp ps → IsSortedBy (λ a b. is_lt (cmp a.0 b.0)) ps
  sorted [] up k d low h = absurd (omega (arith, h))
  sorted (p ∷ []) up k d low h = absurd (omega (arith, h))
  sorted (p ∷ q ∷ qs) up zero d low h = ap is_lt (turned o p.0 q.0 (rising_head cmp p (q ∷ qs) up).0)
  sorted (p ∷ q ∷ qs) up (suc k) d low h = let next : suc k + 1 ≡ suc (k + 1) = omega arith in rw next (sorted (q ∷ qs) (rising_tail cmp p (q ∷ qs) up) k d (omega arith) (omega (arith, h)))

  module _ (key : K) where
    all_over : (ps : List (K × Option V)) → AllWithin (λ p. cmp p.0 key ≡ Greater) ps 0 (length ps) → AllKeys (λ y. cmp key y ≡ Less) ps
    all_over [] a = tt
    all_over (p ∷ ps) a = (o.antisymm key p.0 ∙ ap ordering_reverse (a 0 p (omega arith) (omega arith)), all_over ps (λ k d low h. a (suc k) d (omega arith) (omega (arith, h))))

    found : (ps : List (K × Option V)) (i : ℕ) → IsAscending cmp ps → i < length ps → HoldsAt (λ p. cmp p.0 key ≡ Equal) ps i → IsFoundAt cmp key ps i
    found [] i up h e = absurd (omega (arith, h))
    found (p ∷ ps) zero up h e =
        let same : cmp key p.0 ≡ Equal = o.antisymm key p.0 ∙ ap ordering_reverse (e p) in
        let behind = all_behind o key p ps same up in
        record {
          within = h;
          value = rw same refl;
          before = rw same (none_below o key ps behind);
          behind = rw same (all_above o key ps behind);
        }
    found (p ∷ ps) (suc i) up h e =
        let rest = found ps i (rising_tail cmp p ps up) (omega (arith, h)) e in
        let less : cmp p.0 key ≡ Less = sym (alike_right o (get_or ps i p).0 key p.0 (e p)) ∙ all_at (λ y. cmp p.0 y ≡ Less) ps i p (rising_head cmp p ps up) (omega (arith, h)) in
        let passed : cmp key p.0 ≡ Greater = turned o p.0 key less in
        let next : suc i + 1 ≡ suc (i + 1) = omega arith in
        record {
          within = h;
          value = rw passed rest.value;
          before = rw passed (ap (λ qs. p ∷ qs) rest.before);
          behind = rw (passed, next) rest.behind;
        }

    missing : (ps : List (K × Option V)) (i : ℕ) → i ≤ length ps → IsPartitionPoint (λ p. cmp p.0 key ≡ Less) (λ p. cmp p.0 key ≡ Greater) ps i → IsMissingAt cmp key ps i
    missing ps zero h parts =
        let behind = all_over ps parts.1 in
        record {
          within = h;
          value = not_noted o key ps behind;
          before = none_below o key ps behind;
          behind = all_above o key ps behind;
        }
    missing [] (suc i) h parts = absurd (omega (arith, h))
    missing (p ∷ ps) (suc i) h parts =
        let rest = missing ps i (omega (arith, h)) (λ k d a b. parts.0 (suc k) d (omega arith) (omega (arith, b)), λ k d a b. parts.1 (suc k) d (omega (arith, a)) (omega (arith, b))) in
        let passed : cmp key p.0 ≡ Greater = turned o p.0 key (parts.0 0 p (omega arith) (omega arith)) in
        record {
          within = h;
          value = rw passed rest.value;
          before = rw passed (ap (λ qs. p ∷ qs) rest.before);
          behind = rw passed rest.behind;
        }

    -- what a search by halving tells
    pub searched_found : (ps : List (K × Option V)) (r : Result ℕ ℕ) → IsAscending cmp ps → IsSearchInRange r (length ps) → IsBinarySearchResult (λ p. cmp p.0 key) ps r → IfOk r (λ i. IsFoundAt cmp key ps i)
    searched_found ps (Ok i) up h told = found ps i up h told
    searched_found ps (Err i) up h told = tt

    pub searched_missing : (ps : List (K × Option V)) (r : Result ℕ ℕ) → IsAscending cmp ps → IsSearchInRange r (length ps) → IsBinarySearchResult (λ p. cmp p.0 key) ps r → IfErr r (λ i. IsMissingAt cmp key ps i)
    searched_missing ps (Ok i) up h told = tt
    searched_missing ps (Err i) up h told = missing ps i h (told (searchable_from_sorted o (λ p. p.0) ps key (sorted ps up)))

module _ {K X : Type 0} (cmp : K → K → Ordering) (key : K) (to : X) (ps : List (K × X)) (i : ℕ) where
  -- a pair is put over that of its key, or in between
  pub put_over : IsFoundAt cmp key ps i → set ps i (key, to) ≡ upserted cmp key to ps
  put_over f = let next : suc i ≡ i + 1 = omega arith in set_split ps i (key, to) f.within ∙ (ap (λ n. take i ps ++ (key, to) ∷ drop n ps) next ∙ sym (rw (f.before, f.behind) refl))

  pub put_between : IsMissingAt cmp key ps i → insert ps i (key, to) ≡ upserted cmp key to ps
  put_between m = sym (rw (m.before, m.behind) refl)
