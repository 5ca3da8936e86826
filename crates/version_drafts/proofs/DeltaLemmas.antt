-- What changes make of a list: step by step along both, and edit by edit.
use Rattle.std.proofs.Common.{◌≡◌, ◌≤◌, ◌+◌, length, length-append, arith, Bool, true, false, not, cond, ◌||◌, ◌&&◌, List, [], ◌∷◌, ◌++◌, Option, Some, None, append_assoc, refl, sym, ap, ◌∙◌}
use Rattle.std.proofs.lemmas.Bool.{false≢true}
use Rattle.std.proofs.lemmas.Cmp.{alike_right}
use Rattle.std.proofs.lemmas.List.Elements.{filter-append}
use Rattle.std.proofs.lemmas.List.Folds.{list_any-append}
use Rattle.std.specs.Prelude.{slice_get}
use Rattle.std.specs.BTreeMap.{is_at}
use Rattle.std.specs.BTreeMap.Range.{range_contains}
use Rattle.std.specs.List.{filter}
use Rattle.std.specs.declared.ops.Bound.TheVariants.{Unbounded}
use Rattle.std.specs.Cmp.{IsTotalOrder, tied_itself}
use Rattle.std.specs.declared.cmp.Ordering.{Ordering}
use Rattle.std.specs.declared.cmp.Ordering.TheVariants.{Less, Equal, Greater}
use Rattle.std.specs.Option.{is_some}
use Rattle.std.specs.Ordering.{is_gt, is_lt, is_eq}
use Rattle.leaf_array.specs.Edits.{above, below, removed, upserted}
use Rattle.leaf_array.specs.Pairs.{IsAscending, has_key, value_of_key}
use Rattle.tree_index.specs.Shape.{AllKeys}
use Rattle.tree_index.proofs.ArenaLemmas.{all_filtered}
use Rattle.tree_index.proofs.LeafLemmas.{filter_all}
use Rattle.tree_index.proofs.ShapeLemmas.{all_append, all_weaken, turned, passed}
use Rattle.version_drafts.specs.Changes.{apply_delta, pair_left}
use Rattle.version_views.proofs.FilterLemmas.{on_test, kept, kept_few, kept_swap, kept_narrow, all_passed, rising_cons, rising_head, rising_tail, rising_kept, rising_joined, all_over, all_behind, none_below, all_above, all_below, none_above, IsFair, fair_above, fair_below, kept_sides}

-- whether a key is there, by what was noted of it and by whether it was there before
abbrev pub found : {V : Type 0} → Option (Option V) → Bool → Bool
found None before = before
found (Some to) before = is_some to

or_false : (b : Bool) → (b || false) ≡ b
or_false true = refl
or_false false = refl

gt_other : (c : Ordering) → is_gt c ≡ true → not (is_eq c) ≡ true
gt_other Less h = refl
gt_other Equal h = h
gt_other Greater h = refl

gt_not_lt : (c : Ordering) → is_gt c ≡ true → is_lt c ≡ false
gt_not_lt Less h = absurd (false≢true h)
gt_not_lt Equal h = refl
gt_not_lt Greater h = refl

lt_other : (c : Ordering) → is_lt c ≡ true → not (is_eq c) ≡ true
lt_other Less h = refl
lt_other Equal h = h
lt_other Greater h = refl

module _ {K : Type 0} {cmp : K → K → Ordering} (o : IsTotalOrder cmp) where
  gt_turn : (k y : K) → is_gt (cmp k y) ≡ true → cmp y k ≡ Less
  gt_turn k y h =
      (elim (cmp k y) as (λ c. cmp k y ≡ c → is_gt c ≡ true → cmp y k ≡ Less) [
        | Less ↦ λ c h. absurd (false≢true h)
        | Equal ↦ λ c h. absurd (false≢true h)
        | Greater ↦ λ c h. rw c at (o.antisymm y k)
      ]) refl h

  gt_wider : (c k y : K) → cmp c k ≡ Less → is_gt (cmp c y) ≡ true → is_gt (cmp k y) ≡ true
  gt_wider c k y l h = ap is_gt (turned o y k (o.trans y c k (gt_turn c y h) l))

  below_under : {X : Type 0} (k : K) (ps : List (K × X)) → AllKeys (λ y. cmp y k ≡ Less) (below cmp k ps)
  below_under k ps = all_passed (λ y. cmp y k ≡ Less) (λ y. is_gt (cmp k y)) (λ y h. gt_turn k y h) ps

  above_over : {X : Type 0} (k : K) (ps : List (K × X)) → AllKeys (λ y. cmp k y ≡ Less) (above cmp k ps)
  above_over k ps = all_passed (λ y. cmp k y ≡ Less) (λ y. is_lt (cmp k y)) (λ y h. passed o k y h) ps

module _ {K V : Type 0} {cmp : K → K → Ordering} (o : IsTotalOrder cmp) where
  -- ---- along both lists

  pub merge_less : (k : K) (to : Option V) (cs : List (K × Option V)) (p : K × V) (ps : List (K × V)) → cmp k p.0 ≡ Less → IsAscending cmp (p ∷ ps) → apply_delta cmp ((k, to) ∷ cs) (p ∷ ps) ≡ pair_left k to ++ apply_delta cmp cs (p ∷ ps)
  merge_less k to cs p ps l up = let over = all_over o k p ps l up in rw (none_below o k (p ∷ ps) over, all_above o k (p ∷ ps) over) refl

  pub merge_equal : (k : K) (to : Option V) (cs : List (K × Option V)) (p : K × V) (ps : List (K × V)) → cmp k p.0 ≡ Equal → IsAscending cmp (p ∷ ps) → apply_delta cmp ((k, to) ∷ cs) (p ∷ ps) ≡ pair_left k to ++ apply_delta cmp cs ps
  merge_equal k to cs p ps e up = let over = all_behind o k p ps e up in rw e (rw (none_below o k ps over, all_above o k ps over) refl)

  pub merge_greater : (k : K) (to : Option V) (cs : List (K × Option V)) (p : K × V) (ps : List (K × V)) → cmp k p.0 ≡ Greater → apply_delta cmp ((k, to) ∷ cs) (p ∷ ps) ≡ p ∷ apply_delta cmp ((k, to) ∷ cs) ps
  merge_greater k to cs p ps g = rw g refl

  -- ---- keys

  all_left : (P : K → Type 0) (k : K) (to : Option V) → P k → AllKeys P (pair_left k to)
  all_left P k None h = tt
  all_left P k (Some v) h = (h, tt)

  all_amended : (P : K → Type 0) (cs : List (K × Option V)) (ps : List (K × V)) → AllKeys P cs → AllKeys P ps → AllKeys P (apply_delta cmp cs ps)
  all_amended P [] ps a b = b
  all_amended P (c ∷ cs) ps a b =
      all_append P _ _ (all_filtered P (λ y. is_gt (cmp c.0 y)) ps b)
      (all_append P _ _ (all_left P c.0 c.1 a.0) (all_amended P cs (above cmp c.0 ps) a.1 (all_filtered P (λ y. is_lt (cmp c.0 y)) ps b)))

  rising_left : (k : K) (to : Option V) (ps : List (K × V)) → AllKeys (λ y. cmp k y ≡ Less) ps → IsAscending cmp ps → IsAscending cmp (pair_left k to ++ ps)
  rising_left k None ps a up = up
  rising_left k (Some v) ps a up = rising_cons cmp (k, v) ps a up

  -- the keys still rise
  pub rising_amended : (cs : List (K × Option V)) (ps : List (K × V)) → IsAscending cmp cs → IsAscending cmp ps → IsAscending cmp (apply_delta cmp cs ps)
  rising_amended [] ps up vp = vp
  rising_amended (c ∷ cs) ps up vp =
      let rest = apply_delta cmp cs (above cmp c.0 ps) in
      let over : AllKeys (λ y. cmp c.0 y ≡ Less) rest = all_amended (λ y. cmp c.0 y ≡ Less) cs (above cmp c.0 ps) (rising_head cmp c cs up) (above_over o c.0 ps) in
      rising_joined o c.0 (below cmp c.0 ps) (pair_left c.0 c.1 ++ rest)
      (rising_kept cmp (λ y. is_gt (cmp c.0 y)) ps vp)
      (rising_left c.0 c.1 rest over (rising_amended cs (above cmp c.0 ps) (rising_tail cmp c cs up) (rising_kept cmp (λ y. is_lt (cmp c.0 y)) ps vp)))
      (below_under o c.0 ps)
      (all_append _ _ _ (all_left (λ y. is_gt (cmp c.0 y) ≡ false) c.0 c.1 (ap is_gt (tied_itself o c.0))) (all_weaken (λ y. cmp c.0 y ≡ Less) (λ y. is_gt (cmp c.0 y) ≡ false) (λ y l. ap is_gt l) rest over))

  -- ---- tests

  -- what lies before all changes stays
  amended_front : (k : K) (cs : List (K × Option V)) (xs ys : List (K × V)) → AllKeys (λ y. cmp y k ≡ Less) xs → AllKeys (λ y. cmp k y ≡ Less) cs → apply_delta cmp cs (xs ++ ys) ≡ xs ++ apply_delta cmp cs ys
  amended_front k [] xs ys lo hi = refl
  amended_front k (c ∷ cs) xs ys lo hi =
      let under : AllKeys (λ y. cmp y c.0 ≡ Less) xs = all_weaken (λ y. cmp y k ≡ Less) (λ y. cmp y c.0 ≡ Less) (λ y l. o.trans y k c.0 l hi.0) xs lo in
      rw (filter-append (λ p. is_gt (cmp c.0 p.0)) xs ys, filter-append (λ p. is_lt (cmp c.0 p.0)) xs ys, all_below o c.0 xs under, none_above o c.0 xs under) (append_assoc xs (below cmp c.0 ys) (pair_left c.0 c.1 ++ apply_delta cmp cs (above cmp c.0 ys)))

  -- what lies before the first change stays
  pub amended_passed : (cs : List (K × Option V)) (xs ys : List (K × V)) → ((c : K × Option V) → slice_get cs 0 ≡ Some c → AllKeys (λ y. cmp y c.0 ≡ Less) xs) → apply_delta cmp cs (xs ++ ys) ≡ xs ++ apply_delta cmp cs ys
  amended_passed [] xs ys h = refl
  amended_passed (c ∷ cs) xs ys h =
      let under : AllKeys (λ y. cmp y c.0 ≡ Less) xs = h c refl in
      rw (filter-append (λ p. is_gt (cmp c.0 p.0)) xs ys, filter-append (λ p. is_lt (cmp c.0 p.0)) xs ys, all_below o c.0 xs under, none_above o c.0 xs under) (append_assoc xs (below cmp c.0 ys) (pair_left c.0 c.1 ++ apply_delta cmp cs (above cmp c.0 ys)))

  left_kept : (test : K → Bool) (k : K) (to : Option V) → kept test (pair_left k to) ≡ cond (test k) (pair_left k to) []
  left_kept test k None = elim (test k) as (λ b. ◌≡◌ {A = List (K × V)} [] (cond b [] [])) [ true ↦ refl | false ↦ refl ]
  left_kept test k (Some v) = refl

  -- a test goes through to changes and pairs
  pub kept_amended : (test : K → Bool) → IsFair o test → (cs : List (K × Option V)) (ps : List (K × V)) → IsAscending cmp cs → IsAscending cmp ps → kept test (apply_delta cmp cs ps) ≡ apply_delta cmp (kept test cs) (kept test ps)
  kept_amended test fair [] ps up vp = refl
  kept_amended test fair (c ∷ cs) ps up vp =
      let lower = below cmp c.0 ps in
      let upper = above cmp c.0 ps in
      let rest = kept_amended test fair cs upper (rising_tail cmp c cs up) (rising_kept cmp (λ y. is_lt (cmp c.0 y)) ps vp) in
      let parts : kept test (apply_delta cmp (c ∷ cs) ps) ≡ kept test lower ++ (kept test (pair_left c.0 c.1) ++ apply_delta cmp (kept test cs) (kept test upper)) =
      filter-append (λ p. test p.0) lower (pair_left c.0 c.1 ++ apply_delta cmp cs upper)
      ∙ ap (λ qs. kept test lower ++ qs) (filter-append (λ p. test p.0) (pair_left c.0 c.1) (apply_delta cmp cs upper) ∙ ap (λ qs. kept test (pair_left c.0 c.1) ++ qs) rest) in
      on_test (test c.0)
      (λ a. let l : kept test (pair_left c.0 c.1) ≡ pair_left c.0 c.1 = left_kept test c.0 c.1 ∙ rw a refl in
      parts ∙ rw (l, kept_swap test (λ y. is_gt (cmp c.0 y)) ps, kept_swap test (λ y. is_lt (cmp c.0 y)) ps, a) refl)
      (λ a. let l : kept test (pair_left c.0 c.1) ≡ [] = left_kept test c.0 c.1 ∙ rw a refl in
      let sides = kept_sides o test fair c.0 a ps vp in
      let front = amended_front c.0 (kept test cs) (kept test lower) (kept test upper) (all_filtered _ test lower (below_under o c.0 ps)) (all_filtered _ test cs (rising_head cmp c cs up)) in
      parts ∙ rw (l, a, sides) (sym front))

  -- ---- edits

  -- changes, one more, and changes above it
  middle : (k : K) (to : Option V) (xs ys : List (K × Option V)) (ps : List (K × V)) → AllKeys (λ y. cmp y k ≡ Less) xs → apply_delta cmp (xs ++ (k, to) ∷ ys) ps ≡ apply_delta cmp xs (below cmp k ps) ++ (pair_left k to ++ apply_delta cmp ys (above cmp k ps))
  middle k to [] ys ps lo = refl
  middle k to (c ∷ xs) ys ps lo =
      let inner : below cmp c.0 (below cmp k ps) ≡ below cmp c.0 ps = kept_narrow (λ y. is_gt (cmp c.0 y)) (λ y. is_gt (cmp k y)) (λ y h. gt_wider o c.0 k y lo.0 h) ps in
      let outer : above cmp k (above cmp c.0 ps) ≡ above cmp k ps = kept_narrow (λ y. is_lt (cmp k y)) (λ y. is_lt (cmp c.0 y)) (λ y h. ap is_lt (o.trans c.0 k y lo.0 (passed o k y h))) ps in
      rw (middle k to xs ys (above cmp c.0 ps) lo.1, inner, outer, kept_swap (λ y. is_lt (cmp c.0 y)) (λ y. is_gt (cmp k y)) ps) (simp append_assoc)

  -- a change that is noted, instead of any of its key
  pub noted : (k : K) (to : Option V) (cs : List (K × Option V)) (ps : List (K × V)) → IsAscending cmp cs → IsAscending cmp ps → apply_delta cmp (upserted cmp k to cs) ps ≡ below cmp k (apply_delta cmp cs ps) ++ (pair_left k to ++ above cmp k (apply_delta cmp cs ps))
  noted k to cs ps up vp =
      rw (kept_amended (λ y. is_gt (cmp k y)) (fair_below o k) cs ps up vp, kept_amended (λ y. is_lt (cmp k y)) (fair_above o k) cs ps up vp)
      (middle k to (below cmp k cs) (above cmp k cs) ps (below_under o k cs))

  -- at most one change more is noted
  pub noted_few : (k : K) (to : Option V) (cs : List (K × Option V)) → length (upserted cmp k to cs) ≤ length cs + 1
  noted_few k to cs =
      let both = kept_few (λ y. is_gt (cmp k y)) (λ y. is_lt (cmp k y)) (λ y h. gt_not_lt (cmp k y) h) cs in
      let long : length (below cmp k cs ++ (k, to) ∷ above cmp k cs) ≡ length (below cmp k cs) + length ((k, to) ∷ above cmp k cs) = length-append (below cmp k cs) ((k, to) ∷ above cmp k cs) in
      omega (arith, both, long)

  -- a pair that is noted as taken away
  pub noted_none : (k : K) (cs : List (K × Option V)) (ps : List (K × V)) → IsAscending cmp cs → IsAscending cmp ps → apply_delta cmp (upserted cmp k None cs) ps ≡ removed cmp k (apply_delta cmp cs ps)
  noted_none k cs ps up vp =
      let all = apply_delta cmp cs ps in
      let other : K → Bool = λ y. not (is_at (cmp k) y) in
      let away : other k ≡ false = ap (λ c. not (is_eq c)) (tied_itself o k) in
      let sides = kept_sides o other (λ x y e. ap (λ c. not (is_eq c)) (alike_right o x y k e)) k away all (rising_amended cs ps up vp) in
      let lower : kept other (below cmp k all) ≡ below cmp k all = filter_all other (below cmp k all) (all_passed (λ y. other y ≡ true) (λ y. is_gt (cmp k y)) (λ y h. gt_other (cmp k y) h) all) in
      let upper : kept other (above cmp k all) ≡ above cmp k all = filter_all other (above cmp k all) (all_passed (λ y. other y ≡ true) (λ y. is_lt (cmp k y)) (λ y h. lt_other (cmp k y) h) all) in
      noted k None cs ps up vp ∙ sym (sides ∙ rw (lower, upper) refl)

  -- a key that isn't there
  pub removed_absent : (k : K) (ps : List (K × V)) → has_key cmp k ps ≡ false → removed cmp k ps ≡ ps
  removed_absent k [] = λ h. refl
  removed_absent k (p ∷ ps) =
      elim (is_at (cmp k) p.0) as (λ b. (b || has_key cmp k ps) ≡ false → cond (not b) (p ∷ removed cmp k ps) (removed cmp k ps) ≡ p ∷ ps) [
        | true ↦ λ h. cc
        | false ↦ λ h. ap (λ qs. p ∷ qs) (removed_absent k ps h)
      ]

  -- no key lies without bounds
  pub all_cleared : (ps : List (K × V)) → filter (λ p. not (range_contains cmp Unbounded Unbounded p.0)) ps ≡ []
  all_cleared [] = refl
  all_cleared (p ∷ ps) = all_cleared ps

  -- ---- what is found

  pub fair_has : (test : K → Bool) → IsFair o test → (k : K) (ps : List (K × V)) → has_key cmp k (kept test ps) ≡ (test k && has_key cmp k ps)
  fair_has test fair k [] = elim (test k) as (λ b. false ≡ (b && false)) [ true ↦ refl | false ↦ refl ]
  fair_has test fair k (p ∷ ps) =
      (elim (cmp k p.0) as (λ c. cmp k p.0 ≡ c → has_key cmp k (kept test (p ∷ ps)) ≡ (test k && (is_eq c || has_key cmp k ps))) [
        | Less ↦ λ c. on_test (test p.0) (λ a. rw (a, c) (fair_has test fair k ps)) (λ a. rw a (fair_has test fair k ps))
        | Equal ↦ λ c. on_test (test p.0) (λ a. let b : test k ≡ true = fair k p.0 c ∙ a in rw (a, b, c) refl) (λ a. let b : test k ≡ false = fair k p.0 c ∙ a in rw (a, b) (fair_has test fair k ps ∙ rw b refl))
        | Greater ↦ λ c. on_test (test p.0) (λ a. rw (a, c) (fair_has test fair k ps)) (λ a. rw a (fair_has test fair k ps))
      ]) refl

  pub not_noted : (k : K) (cs : List (K × Option V)) → AllKeys (λ y. cmp k y ≡ Less) cs → value_of_key cmp k cs ≡ None
  not_noted k [] a = refl
  not_noted k (c ∷ cs) a = let l = a.0 in rw l (not_noted k cs a.1)

  left_has : (k c : K) (to : Option V) → has_key cmp k (pair_left c to) ≡ (is_eq (cmp k c) && is_some to)
  left_has k c None = elim (is_eq (cmp k c)) as (λ b. false ≡ (b && false)) [ true ↦ refl | false ↦ refl ]
  left_has k c (Some v) = elim (is_eq (cmp k c)) as (λ b. (b || false) ≡ (b && true)) [ true ↦ refl | false ↦ refl ]

  pub has_amended : (k : K) (cs : List (K × Option V)) (ps : List (K × V)) → IsAscending cmp cs → has_key cmp k (apply_delta cmp cs ps) ≡ found (value_of_key cmp k cs) (has_key cmp k ps)
  has_amended k [] ps up = refl
  has_amended k (c ∷ cs) ps up =
      let lower = below cmp c.0 ps in
      let upper = above cmp c.0 ps in
      let rest = has_amended k cs upper (rising_tail cmp c cs up) in
      let parts : has_key cmp k (apply_delta cmp (c ∷ cs) ps) ≡ (has_key cmp k lower || (has_key cmp k (pair_left c.0 c.1) || found (value_of_key cmp k cs) (has_key cmp k upper))) =
      list_any-append (λ p. is_at (cmp k) p.0) lower (pair_left c.0 c.1 ++ apply_delta cmp cs upper)
      ∙ ap (λ b. has_key cmp k lower || b) (list_any-append (λ p. is_at (cmp k) p.0) (pair_left c.0 c.1) (apply_delta cmp cs upper) ∙ ap (λ b. has_key cmp k (pair_left c.0 c.1) || b) rest) in
      let in_lower : has_key cmp k lower ≡ (is_gt (cmp c.0 k) && has_key cmp k ps) = fair_has (λ y. is_gt (cmp c.0 y)) (fair_below o c.0) k ps in
      let in_upper : has_key cmp k upper ≡ (is_lt (cmp c.0 k) && has_key cmp k ps) = fair_has (λ y. is_lt (cmp c.0 y)) (fair_above o c.0) k ps in
      parts ∙ (elim (cmp k c.0) as (λ d. cmp k c.0 ≡ d → (has_key cmp k lower || (has_key cmp k (pair_left c.0 c.1) || found (value_of_key cmp k cs) (has_key cmp k upper))) ≡ found (cond (is_eq d) (Some c.1) (value_of_key cmp k cs)) (has_key cmp k ps)) [
        | Less ↦ λ d.
            let t : cmp c.0 k ≡ Greater = turned o k c.0 d in
            let none = not_noted k cs (all_over o k c cs d up).1 in
            let alone : has_key cmp k (pair_left c.0 c.1) ≡ false = left_has k c.0 c.1 ∙ rw d refl in
            rw (in_lower, in_upper, t, none, alone) (or_false (has_key cmp k ps))
        | Equal ↦ λ d.
            let t : cmp c.0 k ≡ Equal = rw d at (o.antisymm c.0 k) in
            let none = not_noted k cs (all_behind o k c cs d up) in
            let alone : has_key cmp k (pair_left c.0 c.1) ≡ is_some c.1 = left_has k c.0 c.1 ∙ rw d refl in
            rw (in_lower, in_upper, t, none, alone) (or_false (is_some c.1))
        | Greater ↦ λ d.
            let t : cmp c.0 k ≡ Less = rw d at (o.antisymm c.0 k) in
            let alone : has_key cmp k (pair_left c.0 c.1) ≡ false = left_has k c.0 c.1 ∙ rw d refl in
            rw (in_lower, in_upper, t, alone) refl
      ]) refl
