-- The pairs that a cursor is yet to give, where it goes forward alone.
use Rattle.std.proofs.Common.{◌≡◌, ℕ, zero, suc, ◌+◌, ◌<◌, Bool, true, false, cond, nat_lt, not, is_some, IsTrue, ◌↔◌, IsSome, List, [], ◌∷◌, ◌++◌, take, drop, length, Option, Some, None, refl, sym, ap, ◌∙◌, arith, append-nil, length-append}
use Rattle.std.specs.Borrow.{Bor}
use Rattle.std.proofs.lemmas.Bool.Decides.{nat_tests}
use Rattle.std.proofs.lemmas.List.{drop-drop, drop_all}
use Rattle.std.specs.BTreeMap.Range.{is_from_start, is_past_end, entries_between}
use Rattle.std.specs.Cmp.{IsTotalOrder}
use Rattle.std.specs.List.{slice_get}
use Rattle.std.specs.Ordering.{is_le, is_lt}
use Rattle.std.specs.declared.cmp.Ordering.{Ordering}
use Rattle.std.specs.declared.cmp.Ordering.TheVariants.{Less, Equal, Greater}
use Rattle.std.specs.declared.ops.Bound.{Bound}
use Rattle.std.specs.declared.ops.Bound.TheVariants.{Included, Excluded, Unbounded}
use Rattle.leaf_array.specs.Pairs.{IsAscending}
use Rattle.tree_index.specs.Cursor.{Cursor, before_start, forth, kept_below, moved_forth, next_of, pair_at, deref_pair}
use Rattle.tree_index.specs.Shape.{AllKeys}
use Rattle.tree_index.specs.declared.cursor.End.{End}
use Rattle.tree_index.specs.declared.cursor.End.TheVariants.{Unopened, At, Done}
use Rattle.tree_index.proofs.ShapeLemmas.{all_weaken}
use Rattle.version_views.proofs.FilterLemmas.{on_test, rising_head, rising_tail}
use Rattle.serial_history.specs.RemainingPairs.{IsStart, behind_end, remaining_pairs, run_within}

module _ {K : Type 0} {cmp : K → K → Ordering} (o : IsTotalOrder cmp) where
  le_after : (a p k : K) (r : Ordering) → cmp a p ≡ r → is_le r ≡ true → cmp p k ≡ Less → is_le (cmp a k) ≡ true
  le_after a p k Less e t l = ap is_le (o.trans a p k e l)
  le_after a p k Equal e t l = ap is_le (o.congr a p k e ∙ l)
  le_after a p k Greater e t l = cc

  lt_after : (a p k : K) (r : Ordering) → cmp a p ≡ r → is_lt r ≡ true → cmp p k ≡ Less → is_lt (cmp a k) ≡ true
  lt_after a p k Less e t l = ap is_lt (o.trans a p k e l)
  lt_after a p k Equal e t l = cc
  lt_after a p k Greater e t l = cc

  -- what comes behind a key within a lower bound is within it too, and what comes behind one past an upper bound is past it
  pub from_after : (b : Bound K) (p k : K) → is_from_start cmp b p ≡ true → cmp p k ≡ Less → is_from_start cmp b k ≡ true
  from_after (Included a) p k e l = le_after a p k (cmp a p) refl e l
  from_after (Excluded a) p k e l = lt_after a p k (cmp a p) refl e l
  from_after Unbounded p k e l = refl

  pub past_after : (b : Bound K) (p k : K) → is_past_end cmp b p ≡ true → cmp p k ≡ Less → is_past_end cmp b k ≡ true
  past_after (Included a) p k e l = lt_after a p k (cmp a p) refl e l
  past_after (Excluded a) p k e l = le_after a p k (cmp a p) refl e l
  past_after Unbounded p k e l = e

module _ {K V : Type 0} {cmp : K → K → Ordering} (o : IsTotalOrder cmp) (lower upper : Bound K) where
  pub none_between : (ps : List (K × V)) → AllKeys (λ k. is_past_end cmp upper k ≡ true) ps → entries_between cmp lower upper ps ≡ []
  none_between [] a = refl
  none_between (p ∷ ps) a =
      on_test (is_from_start cmp lower p.0)
      (λ f. rw (f, a.0) (none_between ps a.1))
      (λ f. rw f (none_between ps a.1))

  -- from the lower bound on, the pairs within the upper one are those between the two
  run_between : (ps : List (K × V)) → IsAscending cmp ps → AllKeys (λ k. is_from_start cmp lower k ≡ true) ps → run_within cmp upper ps ≡ entries_between cmp lower upper ps
  run_between [] up a = refl
  run_between (p ∷ ps) up a =
      on_test (is_past_end cmp upper p.0)
      (λ past. rw (past, a.0) (sym (none_between ps (all_weaken (λ k. cmp p.0 k ≡ Less) (λ k. is_past_end cmp upper k ≡ true) (λ k l. past_after o upper p.0 k past l) ps (rising_head cmp p ps up)))))
      (λ past. rw (past, a.0) (ap (λ qs. p ∷ qs) (run_between ps (rising_tail cmp p ps up) a.1)))

  pub start_between : (ps : List (K × V)) → IsAscending cmp ps → run_within cmp upper (drop (before_start cmp lower ps) ps) ≡ entries_between cmp lower upper ps
  start_between [] up = refl
  start_between (p ∷ ps) up =
      on_test (is_from_start cmp lower p.0)
      (λ f. ap (λ n. run_within cmp upper (drop n (p ∷ ps))) (at_first f) ∙ run_between (p ∷ ps) up (f, all_weaken (λ k. cmp p.0 k ≡ Less) (λ k. is_from_start cmp lower k ≡ true) (λ k l. from_after o lower p.0 k f l) ps (rising_head cmp p ps up)))
      (λ f. rw f (start_between ps (rising_tail cmp p ps up)))
    where
      at_first : is_from_start cmp lower p.0 ≡ true → before_start cmp lower (p ∷ ps) ≡ 0
      at_first f = rw f refl

first_left : {X : Type 0} (n : ℕ) (xs : List X) → slice_get (drop n xs) 0 ≡ slice_get xs n
first_left zero xs = refl
first_left (suc n) [] = refl
first_left (suc n) (x ∷ xs) = first_left n xs

none_at : {X : Type 0} (n : ℕ) (xs : List X) → nat_lt n (length xs) ≡ false → slice_get (drop n xs) 0 ≡ None
none_at n xs e = ap (λ ys. slice_get ys 0) (drop_all n xs (grind (arith, nat_tests)))

module _ {K V : Type 0} (cmp : K → K → Ordering) where
  run_first : (upper : Bound K) (ps : List (K × V)) → slice_get (run_within cmp upper ps) 0 ≡ kept_below cmp upper (slice_get ps 0)
  run_first upper [] = refl
  run_first upper (p ∷ ps) =
      on_test (is_past_end cmp upper p.0)
      (λ past. rw past refl)
      (λ past. rw past refl)

  run_rest : (upper : Bound K) (ps : List (K × V)) → is_some (kept_below cmp upper (slice_get ps 0)) ≡ true → run_within cmp upper (drop 1 ps) ≡ drop 1 (run_within cmp upper ps)
  run_rest upper [] e = refl
  run_rest upper (p ∷ ps) e =
      (elim (is_past_end cmp upper p.0) as (λ b. is_some (kept_below cmp upper (slice_get (p ∷ ps) 0)) ≡ true → is_past_end cmp upper p.0 ≡ b → run_within cmp upper ps ≡ drop 1 (cond b [] (p ∷ run_within cmp upper ps))) [
        | true ↦ λ some b. absurd (let s = rw b at some in cc)
        | false ↦ λ some b. refl
      ]) e refl

  -- where a forward end goes is the first place behind it
  forth_first : (lower : Bound K) (ps : List (K × V)) (e : End ℕ) → pair_at ps (forth cmp lower ps e) ≡ slice_get (behind_end cmp lower ps e) 0
  forth_first lower ps Unopened =
      let n : ℕ = before_start cmp lower ps in
      on_test (nat_lt n (length ps))
      (λ b. rw b (sym (first_left n ps)))
      (λ b. rw b (sym (none_at n ps b)))
  forth_first lower ps (At p) =
      on_test (nat_lt (p + 1) (length ps))
      (λ b. rw b (sym (first_left (p + 1) ps)))
      (λ b. rw b (sym (none_at (p + 1) ps b)))
  forth_first lower ps Done = refl

  forth_rest : (lower : Bound K) (ps : List (K × V)) (e : End ℕ) → is_some (pair_at ps (forth cmp lower ps e)) ≡ true → behind_end cmp lower ps (forth cmp lower ps e) ≡ drop 1 (behind_end cmp lower ps e)
  forth_rest lower ps Unopened some =
      let n : ℕ = before_start cmp lower ps in
      on_test (nat_lt n (length ps))
      (λ b. rw b (sym (drop-drop 1 n ps)))
      (λ b. absurd (let s = rw b at some in cc))
  forth_rest lower ps (At p) some =
      on_test (nat_lt (p + 1) (length ps))
      (λ b. rw b (sym (drop-drop 1 (p + 1) ps)))
      (λ b. absurd (let s = rw b at some in cc))
  forth_rest lower ps Done some = refl

  some_kept : (upper : Bound K) (o : Option (K × V)) → is_some (kept_below cmp upper o) ≡ true → is_some o ≡ true
  some_kept upper None e = e
  some_kept upper (Some p) e = refl

  pub first_of : (c : Cursor K V) → c.backward ≡ Unopened → next_of cmp c ≡ slice_get (remaining_pairs cmp c) 0
  first_of c alone =
      rw alone (ap (kept_below cmp c.upper) (forth_first c.lower c.pairs c.forward) ∙ sym (run_first c.upper (behind_end cmp c.lower c.pairs c.forward)))

  pub rest_of : (c : Cursor K V) → c.backward ≡ Unopened → is_some (next_of cmp c) ≡ true → remaining_pairs cmp (moved_forth cmp c) ≡ drop 1 (remaining_pairs cmp c)
  rest_of c alone some =
      let kept : is_some (kept_below cmp c.upper (pair_at c.pairs (forth cmp c.lower c.pairs c.forward))) ≡ true = rw alone at some in
      ap (run_within cmp c.upper) (forth_rest c.lower c.pairs c.forward (some_kept c.upper (pair_at c.pairs (forth cmp c.lower c.pairs c.forward)) kept))
      ∙ run_rest c.upper (behind_end cmp c.lower c.pairs c.forward) (ap (λ p. is_some (kept_below cmp c.upper p)) (sym (forth_first c.lower c.pairs c.forward)) ∙ kept)

-- a cursor that hasn't been asked is yet to give the pairs between its bounds
pub left_at_start : {K V : Type 0} {cmp : K → K → Ordering} → IsTotalOrder cmp → (c : Cursor K V) → IsStart cmp c → remaining_pairs cmp c ≡ entries_between cmp c.lower c.upper c.pairs
left_at_start {cmp = cmp} o c s = rw s.forward (start_between o c.lower c.upper c.pairs s.rising)

-- a pair was given where the next one is there
pub given_some : {K V : Type 0} (r : Option (Bor K × Bor V)) (next : Option (K × V)) → deref_pair r ≡ next → IsSome r → is_some next ≡ true
given_some None next e s = absurd cc
given_some (Some p) next e s = ap is_some (sym e)

module _ {X : Type 0} where
  get_behind : (n : ℕ) (xs ys : List X) → n < length xs → slice_get (take n xs ++ ys) n ≡ slice_get ys 0
  get_behind zero xs ys h = refl
  get_behind (suc n) [] ys h = absurd (omega (arith, h))
  get_behind (suc n) (x ∷ xs) ys h = get_behind n xs ys (omega (arith, h))

  nothing : (xs : List X) → slice_get xs 0 ≡ None → xs ≡ []
  nothing [] e = refl
  nothing (x ∷ xs) e = absurd cc

  get_front : (n : ℕ) (xs ys : List X) → n < length xs → slice_get (xs ++ ys) n ≡ slice_get xs n
  get_front n [] ys h = absurd (omega (arith, h))
  get_front zero (x ∷ xs) ys h = refl
  get_front (suc n) (x ∷ xs) ys h = get_front n xs ys (omega (arith, h))

  -- no list that begins with these items is the whole, where another one was given among them
  pub differs : (n : ℕ) (told left all : List X) → take n told ++ left ≡ all → n < length told → (slice_get left 0 ≡ slice_get told n → ⊥) → (more : List X) → told ++ more ≡ all → ⊥
  differs n told left all e h other more same =
      other (sym (sym (get_front n told more h) ∙ ap (λ xs. slice_get xs n) (same ∙ sym e) ∙ get_behind n told left h))

  pub done_all : (done left all : List X) → done ++ left ≡ all → slice_get left 0 ≡ None → done ≡ all
  done_all done left all e none = sym (append-nil done) ∙ ap (λ xs. done ++ xs) (sym (nothing left none)) ∙ e

-- all is given exactly where nothing is left
pub all_given : {K V : Type 0} (told left all : List (K × V)) (r : Option (Bor K × Bor V)) (none : Bool) → told ++ left ≡ all → is_some r ≡ not none → deref_pair r ≡ slice_get left 0 → IsTrue none ↔ (told ≡ all)
all_given told [] all None true e b f = (λ t. sym (append-nil told) ∙ e, λ same. refl)
all_given told [] all None false e b f = absurd cc
all_given told [] all (Some r) none e b f = absurd cc
all_given told (x ∷ left) all None none e b f = absurd cc
all_given told (x ∷ left) all (Some r) true e b f = absurd cc
all_given told (x ∷ left) all (Some r) false e b f =
    (λ t. absurd cc, λ same. absurd (let n = ap length (same ∙ sym e) in omega (arith, n, length-append told (x ∷ left))))
