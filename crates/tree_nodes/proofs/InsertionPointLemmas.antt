-- How many pairs lie before a bound.
use Rattle.std.proofs.Common.{◌≡◌, ◌≤◌, ℕ, suc, ◌+◌, Bool, true, false, cond, ◌||◌, List, [], ◌∷◌, ◌++◌, length, Option, Some, None, refl, sym, ap, ◌∙◌, arith}
use Rattle.std.specs.Prelude.{slice_get}
use Rattle.std.specs.declared.cmp.Ordering.{Ordering}
use Rattle.std.specs.declared.cmp.Ordering.TheVariants.{Less, Equal, Greater}
use Rattle.std.specs.Ordering.{is_lt, is_le, is_eq, ordering_reverse}
use Rattle.std.specs.Cmp.{IsTotalOrder}
use Rattle.std.specs.declared.ops.Bound.{Bound}
use Rattle.std.specs.declared.ops.Bound.TheVariants.{Included, Excluded, Unbounded}
use Rattle.std.specs.BTreeMap.Range.{is_from_start}
use Rattle.std.specs.Map.{keys_of}
use Rattle.std.proofs.lemmas.Map.Keys.{sorted_head, sorted_tail}
use Rattle.std.specs.List.{AllByRecursion}
use Rattle.leaf_array.specs.Cells.{lesser}
use Rattle.leaf_array.specs.Pairs.{IsAscending, has_key}
use Rattle.tree_nodes.specs.Shape.{AllKeys}
use Rattle.tree_nodes.specs.SplitPoints.{is_keyed}
use Rattle.tree_nodes.specs.Bounds.{before_start, up_to_end}
use Rattle.tree_nodes.proofs.ShapeLemmas.{turned, all_weaken}

module _ {K V : Type 0} (cmp : K → K → Ordering) where
  -- a bound that a front lies before and a back lies within
  pub start_middle : (lower : Bound K) (front ps back : List (K × V)) → AllKeys (λ k. is_from_start cmp lower k ≡ false) front → AllKeys (λ k. is_from_start cmp lower k ≡ true) back → before_start cmp lower (front ++ (ps ++ back)) ≡ length front + before_start cmp lower ps
  start_middle lower [] [] [] a b = refl
  start_middle lower [] [] (q ∷ back) a b = ap (λ c. cond c 0 (suc (before_start cmp lower back))) b.0
  start_middle lower [] (p ∷ ps) back a b =
      elim (is_from_start cmp lower p.0) as (λ c. cond c 0 (suc (before_start cmp lower (ps ++ back))) ≡ 0 + cond c 0 (suc (before_start cmp lower ps))) [
        | true ↦ omega arith
        | false ↦ omega (arith, start_middle lower [] ps back tt b)
      ]
  start_middle lower (p ∷ front) ps back a b = ap (λ c. cond c 0 (suc (before_start cmp lower (front ++ (ps ++ back))))) a.0 ∙ omega (arith, start_middle lower front ps back a.1 b)

  pub start_all : (lower : Bound K) (ps : List (K × V)) → before_start cmp lower ps ≤ length ps
  start_all lower [] = omega arith
  start_all lower (p ∷ ps) =
      elim (is_from_start cmp lower p.0) as (λ c. cond c 0 (suc (before_start cmp lower ps)) ≤ suc (length ps)) [
        | true ↦ omega arith
        | false ↦ omega (arith, start_all lower ps)
      ]

  pub start_none : (ps : List (K × V)) → before_start cmp Unbounded ps ≡ 0
  start_none [] = refl
  start_none (p ∷ ps) = refl

  pub end_none : (ps : List (K × V)) → up_to_end cmp Unbounded ps ≡ length ps
  end_none [] = refl
  end_none (p ∷ ps) = omega (arith, end_none ps)

  pub end_included : (key : K) (ps : List (K × V)) → up_to_end cmp (Included key) ps ≡ before_start cmp (Excluded key) ps
  end_included key [] = refl
  end_included key (p ∷ ps) = ap (λ n. cond (is_lt (cmp key p.0)) 0 (suc n)) (end_included key ps)

  pub end_excluded : (key : K) (ps : List (K × V)) → up_to_end cmp (Excluded key) ps ≡ before_start cmp (Included key) ps
  end_excluded key [] = refl
  end_excluded key (p ∷ ps) = ap (λ n. cond (is_le (cmp key p.0)) 0 (suc n)) (end_excluded key ps)

-- a bound at a key, excluded or not
abbrev pub bound_at : {K : Type 0} → K → Bool → Bound K
bound_at key beyond = cond beyond (Excluded key) (Included key)

module _ {K : Type 0} (cmp : K → K → Ordering) (o : IsTotalOrder cmp) (key : K) where
  pub before_bound : (beyond : Bool) (k : K) → cmp k key ≡ Less → is_from_start cmp (bound_at key beyond) k ≡ false
  before_bound true k h = ap is_lt (turned o k key h)
  before_bound false k h = ap is_le (turned o k key h)

  behind_bound : (beyond : Bool) (k : K) → cmp key k ≡ Less → is_from_start cmp (bound_at key beyond) k ≡ true
  behind_bound true k h = ap is_lt h
  behind_bound false k h = ap is_le h

module _ {K V : Type 0} (cmp : K → K → Ordering) (o : IsTotalOrder cmp) (key : K) where
  pub bound_middle : (beyond : Bool) (front ps back : List (K × V)) → AllKeys (λ k. cmp k key ≡ Less) front → AllKeys (λ k. cmp key k ≡ Less) back → before_start cmp (bound_at key beyond) (front ++ (ps ++ back)) ≡ length front + before_start cmp (bound_at key beyond) ps
  bound_middle beyond front ps back a b =
      start_middle cmp (bound_at key beyond) front ps back
      (all_weaken (λ k. cmp k key ≡ Less) (λ k. is_from_start cmp (bound_at key beyond) k ≡ false) (before_bound cmp o key beyond) front a)
      (all_weaken (λ k. cmp key k ≡ Less) (λ k. is_from_start cmp (bound_at key beyond) k ≡ true) (behind_bound cmp o key beyond) back b)

  pub included_is : (ps : List (K × V)) → before_start cmp (Included key) ps ≡ lesser cmp key ps
  included_is [] = refl
  included_is (p ∷ ps) =
      rw (o.antisymm key p.0) (elim (cmp p.0 key) as (λ r. cond (is_le (ordering_reverse r)) 0 (suc (before_start cmp (Included key) ps)) ≡ cond (is_lt r) (suc (lesser cmp key ps)) 0) [
        | Less ↦ ap suc (included_is ps)
        | Equal ↦ refl
        | Greater ↦ refl
      ])

  -- one more where the pair there has the key
  abbrev pub past : ℕ → Option (K × V) → ℕ
  past n None = n
  past n (Some p) = cond (is_eq (cmp p.0 key)) (suc n) n

  past_later : (n : ℕ) (x : Option (K × V)) → past (suc n) x ≡ suc (past n x)
  past_later n None = refl
  past_later n (Some p) =
      elim (is_eq (cmp p.0 key)) as (λ b. cond b (suc (suc n)) (suc n) ≡ suc (cond b (suc n) n)) [
        | true ↦ refl
        | false ↦ refl
      ]

  none_before : (p : K) (ps : List (K × V)) → cmp p key ≡ Equal → AllByRecursion (λ k. cmp p k ≡ Less) (keys_of ps) → before_start cmp (Excluded key) ps ≡ 0
  none_before p [] e a = refl
  none_before p (q ∷ ps) e a = let h : cmp key q.0 ≡ Less = sym (o.congr p key q.0 e) ∙ a.0 in ap (λ r. cond (is_lt r) 0 (suc (before_start cmp (Excluded key) ps))) h

  pub excluded_is : (ps : List (K × V)) → IsAscending cmp ps → before_start cmp (Excluded key) ps ≡ past (lesser cmp key ps) (slice_get ps (lesser cmp key ps))
  excluded_is [] up = refl
  excluded_is (p ∷ ps) up =
      let more = excluded_is ps (sorted_tail cmp p.0 (keys_of ps) up) in
      let head = sorted_head cmp p.0 (keys_of ps) up in
      let at : Ordering → ℕ = λ r. cond (is_lt r) (suc (lesser cmp key ps)) 0 in
      rw (o.antisymm key p.0) ((elim (cmp p.0 key) as (λ r. cmp p.0 key ≡ r → cond (is_lt (ordering_reverse r)) 0 (suc (before_start cmp (Excluded key) ps)) ≡ past (at r) (slice_get (p ∷ ps) (at r))) [
        | Less ↦ λ e. ap suc more ∙ sym (past_later (lesser cmp key ps) (slice_get ps (lesser cmp key ps)))
        | Equal ↦ λ e. rw (e, none_before p.0 ps e head) refl
        | Greater ↦ λ e. rw e refl
      ]) refl)

  past_keyed : (n : ℕ) (x : Option (K × V)) → past n x ≡ cond (is_keyed cmp key x) (suc n) n
  past_keyed n None = refl
  past_keyed n (Some p) = refl

  pub gap_beyond : (ps : List (K × V)) → IsAscending cmp ps → before_start cmp (Excluded key) ps ≡ cond (is_keyed cmp key (slice_get ps (lesser cmp key ps))) (suc (lesser cmp key ps)) (lesser cmp key ps)
  gap_beyond ps up = excluded_is ps up ∙ past_keyed (lesser cmp key ps) (slice_get ps (lesser cmp key ps))

  module _ (ps : List (K × V)) (up : IsAscending cmp ps) (n : ℕ) (there : n ≡ lesser cmp key ps) (beyond : Bool) where
    pub gap_past : beyond ≡ true → is_keyed cmp key (slice_get ps n) ≡ true → n + 1 ≡ before_start cmp (bound_at key beyond) ps
    gap_past b k =
        let keyed : is_keyed cmp key (slice_get ps (lesser cmp key ps)) ≡ true = ap (λ m. is_keyed cmp key (slice_get ps m)) (sym there) ∙ k in
        let e : before_start cmp (Excluded key) ps ≡ suc (lesser cmp key ps) = gap_beyond ps up ∙ ap (λ c. cond c (suc (lesser cmp key ps)) (lesser cmp key ps)) keyed in
        rw b (omega (arith, there, e))

    pub gap_apart : beyond ≡ true → is_keyed cmp key (slice_get ps n) ≡ false → n ≡ before_start cmp (bound_at key beyond) ps
    gap_apart b k =
        let keyed : is_keyed cmp key (slice_get ps (lesser cmp key ps)) ≡ false = ap (λ m. is_keyed cmp key (slice_get ps m)) (sym there) ∙ k in
        rw b (there ∙ sym (gap_beyond ps up ∙ ap (λ c. cond c (suc (lesser cmp key ps)) (lesser cmp key ps)) keyed))

    pub gap_before : beyond ≡ false → n ≡ before_start cmp (bound_at key beyond) ps
    gap_before b = rw b (there ∙ sym (included_is ps))

  none_has : (p : K) (ps : List (K × V)) → cmp key p ≡ Less → AllByRecursion (λ k. cmp p k ≡ Less) (keys_of ps) → has_key cmp key ps ≡ false
  none_has p [] e a = refl
  none_has p (q ∷ ps) e a = ap (λ r. is_eq r || has_key cmp key ps) (o.trans key p q.0 e a.0) ∙ none_has p ps e a.1

  -- a list has a key where the pair behind those with lesser keys has it
  pub has_keyed : (ps : List (K × V)) → IsAscending cmp ps → has_key cmp key ps ≡ is_keyed cmp key (slice_get ps (lesser cmp key ps))
  has_keyed [] up = refl
  has_keyed (p ∷ ps) up =
      let more = has_keyed ps (sorted_tail cmp p.0 (keys_of ps) up) in
      let head = sorted_head cmp p.0 (keys_of ps) up in
      let at : Ordering → ℕ = λ r. cond (is_lt r) (suc (lesser cmp key ps)) 0 in
      rw (o.antisymm key p.0) ((elim (cmp p.0 key) as (λ r. cmp p.0 key ≡ r → (is_eq (ordering_reverse r) || has_key cmp key ps) ≡ is_keyed cmp key (slice_get (p ∷ ps) (at r))) [
        | Less ↦ λ e. more
        | Equal ↦ λ e. rw e refl
        | Greater ↦ λ e. let l : cmp key p.0 ≡ Less = o.antisymm key p.0 ∙ ap ordering_reverse e in rw e (none_has p.0 ps l head)
      ]) refl)
