-- What stands at a key or around it.
use Rattle.std.proofs.Common.{◌≡◌, ℕ, zero, suc, ◌-◌, ◌<◌, ◌≤◌, true, false, cond, is_some, List, [], ◌∷◌, take, length, Option, Some, None, refl, sym, ap, ◌∙◌, arith}
use Rattle.std.proofs.lemmas.List.{length-take-le}
use Rattle.std.specs.BTreeMap.{is_at}
use Rattle.std.specs.Cmp.{IsTotalOrder}
use Rattle.std.specs.List.{slice_get}
use Rattle.std.specs.Map.{lookup_entry}
use Rattle.std.specs.Ordering.{is_lt, ordering_reverse}
use Rattle.std.specs.declared.cmp.Ordering.{Ordering}
use Rattle.std.specs.declared.cmp.Ordering.TheVariants.{Less, Equal, Greater}
use Rattle.leaf_array.specs.Cells.{lesser}
use Rattle.leaf_array.specs.Edits.{above, below}
use Rattle.leaf_array.specs.Pairs.{IsAscending, has_key}
use Rattle.std.specs.declared.ops.Bound.TheVariants.{Unbounded}
use Rattle.tree_index.specs.Cursor.{Cursor, kept_above, kept_below, shown_forth, shown_back}
use Rattle.tree_index.specs.Proximity.{IsLocated}
use Rattle.tree_index.specs.Shape.{AllKeys}
use Rattle.tree_index.specs.declared.proximity.Proximity.TheVariants.{Exact, Between, Smaller, Larger}
use Rattle.tree_index.proofs.LeafLemmas.{has_entry}
use Rattle.version_views.proofs.FilterLemmas.{all_behind, all_over, none_below, rising_tail}
use Rattle.serial_history.specs.Answers.{last_pair, near, near_by}

taken_get : {X : Type 0} (xs : List X) (n i : ℕ) → i < n → slice_get (take n xs) i ≡ slice_get xs i
taken_get [] zero i h = refl
taken_get [] (suc n) i h = refl
taken_get (x ∷ xs) zero i h = absurd (omega (arith, h))
taken_get (x ∷ xs) (suc n) zero h = refl
taken_get (x ∷ xs) (suc n) (suc i) h = taken_get xs n i (omega (arith, h))

last_taken : {X : Type 0} (n : ℕ) (xs : List X) → 0 < n → n ≤ length xs → slice_get (take n xs) (length (take n xs) - 1) ≡ slice_get xs (n - 1)
last_taken n xs h le =
    ap (λ m. slice_get (take n xs) (m - 1)) (length-take-le n xs le) ∙ taken_get xs n (n - 1) (omega (arith, h))

out : {X : Type 0} (xs : List X) → slice_get xs (length xs) ≡ None
out [] = refl
out (x ∷ xs) = out xs

kept : {K V : Type 0} (cmp : K → K → Ordering) (p : Option (K × V)) → kept_below cmp Unbounded p ≡ p
kept cmp None = refl
kept cmp (Some p) = refl

kept_back : {K V : Type 0} (cmp : K → K → Ordering) (p : Option (K × V)) → kept_above cmp Unbounded p ≡ p
kept_back cmp None = refl
kept_back cmp (Some p) = refl

module _ {K V : Type 0} {cmp : K → K → Ordering} (o : IsTotalOrder cmp) (key : K) where
  none_has : (ps : List (K × V)) → AllKeys (λ y. cmp key y ≡ Less) ps → has_key cmp key ps ≡ false
  none_has [] a = refl
  none_has (p ∷ ps) a = rw a.0 (none_has ps a.1)

  -- the three places of a key beside the first pair
  sides : (p : K × V) (G : Type 0) → (cmp key p.0 ≡ Greater → cmp p.0 key ≡ Less → G) → (cmp key p.0 ≡ Equal → cmp p.0 key ≡ Equal → G) → (cmp key p.0 ≡ Less → cmp p.0 key ≡ Greater → G) → G
  sides p G behind at before =
      (elim (cmp key p.0) as (λ c. cmp key p.0 ≡ c → G) [
        | Less ↦ λ c. before c (o.antisymm p.0 key ∙ ap ordering_reverse c)
        | Equal ↦ λ c. at c (o.antisymm p.0 key ∙ ap ordering_reverse c)
        | Greater ↦ λ c. behind c (o.antisymm p.0 key ∙ ap ordering_reverse c)
      ]) refl

  entry_there : (ps : List (K × V)) → IsAscending cmp ps → has_key cmp key ps ≡ true → lookup_entry (is_at (cmp key)) ps ≡ slice_get ps (lesser cmp key ps)
  entry_there [] up h = absurd cc
  entry_there (p ∷ ps) up h =
      sides p _
      (λ c d. rw (c, d) (entry_there ps (rising_tail cmp p ps up) (let g = rw c at h in g)))
      (λ c d. rw (c, d) refl)
      (λ c d. absurd (let g = rw (c, none_has ps (all_over o key p ps c up).1) at h in cc))

  below_taken : (ps : List (K × V)) → IsAscending cmp ps → below cmp key ps ≡ take (lesser cmp key ps) ps
  below_taken [] up = refl
  below_taken (p ∷ ps) up =
      sides p _
      (λ c d. rw (c, d) (ap (λ qs. p ∷ qs) (below_taken ps (rising_tail cmp p ps up))))
      (λ c d. rw (c, d) (none_below o key ps (all_behind o key p ps c up)))
      (λ c d. rw (c, d) (none_below o key ps (all_over o key p ps c up).1))

  above_first : (ps : List (K × V)) → has_key cmp key ps ≡ false → slice_get (above cmp key ps) 0 ≡ slice_get ps (lesser cmp key ps)
  above_first [] h = refl
  above_first (p ∷ ps) h =
      sides p _
      (λ c d. rw (c, d) (above_first ps (let g = rw c at h in g)))
      (λ c d. absurd (let g = rw c at h in cc))
      (λ c d. rw (c, d) refl)

  lesser_within : (ps : List (K × V)) → lesser cmp key ps ≤ length ps
  lesser_within [] = omega arith
  lesser_within (p ∷ ps) = let r = lesser_within ps in elim (is_lt (cmp p.0 key)) as (λ b. cond b (suc (lesser cmp key ps)) 0 ≤ suc (length ps)) [
    | true ↦ omega (arith, r)
    | false ↦ omega arith
  ]

  smaller_last : (ps : List (K × V)) → IsAscending cmp ps → 0 < lesser cmp key ps → last_pair (below cmp key ps) ≡ slice_get ps (lesser cmp key ps - 1)
  smaller_last ps up some = ap last_pair (below_taken ps up) ∙ last_taken (lesser cmp key ps) ps some (lesser_within ps)

  entry_not : (ps : List (K × V)) → has_key cmp key ps ≡ false → lookup_entry (is_at (cmp key)) ps ≡ None
  entry_not ps h = none_of (lookup_entry (is_at (cmp key)) ps) (sym (has_entry cmp key ps) ∙ h)
    where
      none_of : {X : Type 0} (x : Option X) → is_some x ≡ false → x ≡ None
      none_of None e = refl
      none_of (Some x) e = cc

  past_all : (ps : List (K × V)) → IsAscending cmp ps → lesser cmp key ps ≡ length ps → has_key cmp key ps ≡ false
  past_all ps up e =
      (elim (has_key cmp key ps) as (λ b. has_key cmp key ps ≡ b → b ≡ false) [
        | true ↦ λ h. absurd (let t : is_some (slice_get ps (lesser cmp key ps)) ≡ true = ap is_some (sym (entry_there ps up h)) ∙ sym (has_entry cmp key ps) ∙ h in let f : is_some (slice_get ps (lesser cmp key ps)) ≡ false = ap is_some (ap (slice_get ps) e ∙ out ps) in cc)
        | false ↦ λ h. refl
      ]) refl

  module _ (ps : List (K × V)) (up : IsAscending cmp ps) (c : Cursor K V) where
    alone : (x smaller larger : Option (K × V)) → is_some x ≡ true → near_by x None None ≡ near_by x smaller larger
    alone None s l e = cc
    alone (Some p) s l e = refl

    pub near_exact : (got : Option (K × V)) → got ≡ shown_forth cmp c → IsLocated cmp key ps (Exact c) → near_by got None None ≡ near cmp key ps
    near_exact got g at =
        let there = entry_there ps up at.0 in
        let is : got ≡ lookup_entry (is_at (cmp key)) ps = g ∙ ap (shown_forth cmp) at.1 ∙ kept cmp (slice_get ps (lesser cmp key ps)) ∙ sym there in
        rw is (alone (lookup_entry (is_at (cmp key)) ps) (last_pair (below cmp key ps)) (slice_get (above cmp key ps) 0) (sym (has_entry cmp key ps) ∙ at.0))

    pub near_between : (got back : Option (K × V)) → got ≡ shown_forth cmp c → back ≡ shown_back cmp c → IsLocated cmp key ps (Between c) → near_by None got back ≡ near cmp key ps
    near_between got back g b at =
        rw (entry_not ps at.0, smaller_last ps up at.1, above_first ps at.0)
        (ap (near_by None got) (b ∙ ap (shown_back cmp) at.3 ∙ kept_back cmp (slice_get ps (lesser cmp key ps)))
        ∙ ap (λ x. near_by None x (slice_get ps (lesser cmp key ps))) (g ∙ ap (shown_forth cmp) at.3 ∙ kept cmp (slice_get ps (lesser cmp key ps - 1))))

    pub near_smaller : (back : Option (K × V)) → back ≡ shown_back cmp c → IsLocated cmp key ps (Smaller c) → near_by None back None ≡ near cmp key ps
    near_smaller back b at =
        let absent = past_all ps up at.1 in
        let n : lesser cmp key ps - 1 ≡ length ps - 1 = ap (λ m. m - 1) at.1 in
        rw (entry_not ps absent, smaller_last ps up (omega (arith, at.0, at.1)), above_first ps absent)
        (ap (λ x. near_by None x None) (b ∙ ap (shown_back cmp) at.2 ∙ kept_back cmp (slice_get ps (length ps - 1)) ∙ ap (slice_get ps) (sym n))
        ∙ ap (near_by None (slice_get ps (lesser cmp key ps - 1))) (sym (ap (slice_get ps) at.1 ∙ out ps)))

    pub near_larger : (got : Option (K × V)) → got ≡ shown_forth cmp c → IsLocated cmp key ps (Larger c) → near_by None None got ≡ near cmp key ps
    near_larger got g at =
        let none : last_pair (below cmp key ps) ≡ None = ap last_pair (below_taken ps up ∙ ap (λ n. take n ps) at.1) in
        rw (entry_not ps at.0, none, above_first ps at.0, at.1)
        (ap (near_by None None) (g ∙ ap (shown_forth cmp) at.3 ∙ kept cmp (slice_get ps 0)))
