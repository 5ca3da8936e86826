-- The pairs that a cursor is yet to give, where it goes backward alone.
use Rattle.std.proofs.Common.{◌≡◌, ℕ, zero, suc, ◌-◌, ◌<◌, ◌≤◌, nat_lt, true, false, cond, is_some, IfSome, List, [], ◌∷◌, ◌++◌, drop, length, reverse, Option, Some, None, refl, sym, ap, ◌∙◌, arith}
use Rattle.std.proofs.lemmas.Bool.Decides.{nat_tests}
use Rattle.std.proofs.lemmas.List.{reverse-append}
use Rattle.std.specs.BTreeMap.Range.{is_from_start, is_past_end, entries_between}
use Rattle.std.specs.Cmp.{IsTotalOrder}
use Rattle.std.specs.List.{slice_get}
use Rattle.std.specs.declared.cmp.Ordering.{Ordering}
use Rattle.std.specs.declared.cmp.Ordering.TheVariants.{Less}
use Rattle.std.specs.declared.ops.Bound.{Bound}
use Rattle.leaf_array.specs.Pairs.{IsAscending}
use Rattle.tree_index.specs.Cursor.{Cursor, back, kept_above, lies_before, moved_back, next_back_of, pair_at, up_to_end}
use Rattle.tree_index.specs.Shape.{AllKeys}
use Rattle.tree_index.specs.declared.cursor.End.{End}
use Rattle.tree_index.specs.declared.cursor.End.TheVariants.{Unopened, At, Done}
use Rattle.tree_index.proofs.ShapeLemmas.{all_weaken}
use Rattle.version_views.proofs.FilterLemmas.{on_test, rising_head, rising_tail}
use Rattle.serial_history.specs.RemainingPairs.{IsStart, before_end, falling, onto, remaining_back, run_above}
use Rattle.serial_history.proofs.RemainingPairsLemmas.{from_after, none_between, past_after}

module _ {X : Type 0} where
  first_onto : (o : Option X) (ys : List X) → slice_get (onto o ys) 0 ≡ o
  first_onto None ys = refl
  first_onto (Some x) ys = refl

  rest_onto : (o : Option X) (ys : List X) → is_some o ≡ true → ys ≡ drop 1 (onto o ys)
  rest_onto None ys e = absurd cc
  rest_onto (Some x) ys e = refl

  onto_end : (x : X) (o : Option X) (ys : List X) → is_some o ≡ true → onto o (ys ++ x ∷ []) ≡ onto o ys ++ x ∷ []
  onto_end x None ys e = absurd cc
  onto_end x (Some z) ys e = refl

  there : (ys : List X) (i : ℕ) → i < length ys → is_some (slice_get ys i) ≡ true
  there [] i h = absurd (omega (arith, h))
  there (y ∷ ys) zero h = refl
  there (y ∷ ys) (suc i) h = there ys i (omega (arith, h))

  -- those before a place behind the first item are those of the rest, and then the first one
  falling_more : (x : X) (xs : List X) (n : ℕ) → n ≤ length xs → falling (suc n) (x ∷ xs) ≡ falling n xs ++ x ∷ []
  falling_more x xs zero h = refl
  falling_more x xs (suc n) h =
      ap (onto (slice_get xs n)) (falling_more x xs n (omega (arith, h))) ∙ onto_end x (slice_get xs n) (falling n xs) (there xs n (omega (arith, h)))

unopened_before : (e : End ℕ) → lies_before Unopened e ≡ true
unopened_before Unopened = refl
unopened_before (At p) = refl
unopened_before Done = refl

stepped : (n : ℕ) (e : End ℕ) → cond (nat_lt 0 (suc n)) (At (suc n - 1)) e ≡ At n
stepped n e =
    let some : nat_lt 0 (suc n) ≡ true = grind (arith, nat_tests) in
    let place : suc n - 1 ≡ n = omega arith in
    rw (some, place) refl

module _ {K V : Type 0} (cmp : K → K → Ordering) where
  above_first : (lower : Bound K) (ps : List (K × V)) → slice_get (run_above cmp lower ps) 0 ≡ kept_above cmp lower (slice_get ps 0)
  above_first lower [] = refl
  above_first lower (p ∷ ps) =
      on_test (is_from_start cmp lower p.0)
      (λ from. rw from refl)
      (λ from. rw from refl)

  above_rest : (lower : Bound K) (ps : List (K × V)) → is_some (kept_above cmp lower (slice_get ps 0)) ≡ true → run_above cmp lower (drop 1 ps) ≡ drop 1 (run_above cmp lower ps)
  above_rest lower [] e = refl
  above_rest lower (p ∷ ps) e =
      (elim (is_from_start cmp lower p.0) as (λ b. is_some (kept_above cmp lower (slice_get (p ∷ ps) 0)) ≡ true → is_from_start cmp lower p.0 ≡ b → run_above cmp lower ps ≡ drop 1 (cond b (p ∷ run_above cmp lower ps) [])) [
        | true ↦ λ some b. refl
        | false ↦ λ some b. absurd (let s = rw b at some in cc)
      ]) e refl

  -- where a backward end goes is the first place before it
  back_first : (upper : Bound K) (ps : List (K × V)) (e : End ℕ) → pair_at ps (back cmp upper ps e) ≡ slice_get (before_end cmp upper ps e) 0
  back_first upper ps Unopened = opened (up_to_end cmp upper ps)
    where
      opened : (n : ℕ) → pair_at ps (cond (nat_lt 0 n) (At (n - 1)) Unopened) ≡ slice_get (falling n ps) 0
      opened zero = refl
      opened (suc n) = ap (pair_at ps) (stepped n Unopened) ∙ sym (first_onto (slice_get ps n) (falling n ps))
  back_first upper ps (At zero) = refl
  back_first upper ps (At (suc p)) = ap (pair_at ps) (stepped p Done) ∙ sym (first_onto (slice_get ps p) (falling p ps))
  back_first upper ps Done = refl

  back_rest : (upper : Bound K) (ps : List (K × V)) (e : End ℕ) → is_some (pair_at ps (back cmp upper ps e)) ≡ true → before_end cmp upper ps (back cmp upper ps e) ≡ drop 1 (before_end cmp upper ps e)
  back_rest upper ps Unopened some = opened (up_to_end cmp upper ps) some
    where
      opened : (n : ℕ) → is_some (pair_at ps (cond (nat_lt 0 n) (At (n - 1)) Unopened)) ≡ true → before_end cmp upper ps (cond (nat_lt 0 n) (At (n - 1)) Unopened) ≡ drop 1 (falling n ps)
      opened zero e = absurd cc
      opened (suc n) e = ap (before_end cmp upper ps) (stepped n Unopened) ∙ rest_onto (slice_get ps n) (falling n ps) (ap (λ x. is_some (pair_at ps x)) (sym (stepped n Unopened)) ∙ e)
  back_rest upper ps (At zero) some = absurd cc
  back_rest upper ps (At (suc p)) some = ap (before_end cmp upper ps) (stepped p Done) ∙ rest_onto (slice_get ps p) (falling p ps) (ap (λ x. is_some (pair_at ps x)) (sym (stepped p Done)) ∙ some)
  back_rest upper ps Done some = refl

  some_above : (lower : Bound K) (o : Option (K × V)) → is_some (kept_above cmp lower o) ≡ true → is_some o ≡ true
  some_above lower None e = e
  some_above lower (Some p) e = refl

  pub last_of : (c : Cursor K V) → c.forward ≡ Unopened → next_back_of cmp c ≡ slice_get (remaining_back cmp c) 0
  last_of c alone =
      rw (alone, unopened_before (back cmp c.upper c.pairs c.backward)) (ap (kept_above cmp c.lower) (back_first c.upper c.pairs c.backward) ∙ sym (above_first c.lower (before_end cmp c.upper c.pairs c.backward)))

  pub rest_back_of : (c : Cursor K V) → c.forward ≡ Unopened → is_some (next_back_of cmp c) ≡ true → remaining_back cmp (moved_back cmp c) ≡ drop 1 (remaining_back cmp c)
  rest_back_of c alone some =
      let kept : is_some (kept_above cmp c.lower (pair_at c.pairs (back cmp c.upper c.pairs c.backward))) ≡ true = rw (alone, unopened_before (back cmp c.upper c.pairs c.backward)) at some in
      ap (run_above cmp c.lower) (back_rest c.upper c.pairs c.backward (some_above c.lower (pair_at c.pairs (back cmp c.upper c.pairs c.backward)) kept))
      ∙ above_rest c.lower (before_end cmp c.upper c.pairs c.backward) (ap (λ p. is_some (kept_above cmp c.lower p)) (sym (back_first c.upper c.pairs c.backward)) ∙ kept)

  up_to_within : (upper : Bound K) (ps : List (K × V)) → up_to_end cmp upper ps ≤ length ps
  up_to_within upper [] = omega arith
  up_to_within upper (p ∷ ps) =
      let r = up_to_within upper ps in elim (is_past_end cmp upper p.0) as (λ b. cond b 0 (suc (up_to_end cmp upper ps)) ≤ suc (length ps)) [
        | true ↦ omega arith
        | false ↦ omega (arith, r)
      ]

  -- an end of a run that isn't within the lower bound changes nothing; one is its last where all are within
  above_without : (lower : Bound K) (p : K × V) (ps : List (K × V)) → is_from_start cmp lower p.0 ≡ false → run_above cmp lower (ps ++ p ∷ []) ≡ run_above cmp lower ps
  above_without lower p [] f = rw f refl
  above_without lower p (q ∷ ps) f = ap (λ qs. cond (is_from_start cmp lower q.0) (q ∷ qs) []) (above_without lower p ps f)

  above_with : (lower : Bound K) (p : K × V) (ps : List (K × V)) → is_from_start cmp lower p.0 ≡ true → AllKeys (λ k. is_from_start cmp lower k ≡ true) ps → run_above cmp lower (ps ++ p ∷ []) ≡ run_above cmp lower ps ++ p ∷ []
  above_with lower p [] f a = rw f refl
  above_with lower p (q ∷ ps) f a = rw a.0 (ap (λ qs. q ∷ qs) (above_with lower p ps f a.1))

  falling_all : (P : K → Type 0) (n : ℕ) (ps : List (K × V)) → AllKeys P ps → AllKeys P (falling n ps)
  falling_all P zero ps a = tt
  falling_all P (suc n) ps a = all_onto (slice_get ps n) (falling n ps) (all_at ps n a) (falling_all P n ps a)
    where
      all_onto : (o : Option (K × V)) (qs : List (K × V)) → IfSome o (λ p. P p.0) → AllKeys P qs → AllKeys P (onto o qs)
      all_onto None qs h a = tt
      all_onto (Some p) qs h a = (h, a)

      all_at : (qs : List (K × V)) (i : ℕ) → AllKeys P qs → IfSome (slice_get qs i) (λ p. P p.0)
      all_at [] i a = tt
      all_at (q ∷ qs) zero a = a.0
      all_at (q ∷ qs) (suc i) a = all_at qs i a.1

module _ {K V : Type 0} {cmp : K → K → Ordering} (o : IsTotalOrder cmp) (lower upper : Bound K) where
  -- from the upper bound back, the pairs within the lower one are those between the two, turned around
  end_between : (ps : List (K × V)) → IsAscending cmp ps → run_above cmp lower (falling (up_to_end cmp upper ps) ps) ≡ reverse (entries_between cmp lower upper ps)
  end_between [] up = refl
  end_between (p ∷ ps) up =
      let rising = rising_tail cmp p ps up in
      let m : ℕ = up_to_end cmp upper ps in
      let between : List (K × V) = entries_between cmp lower upper ps in
      on_test (is_past_end cmp upper p.0)
      (λ past. let none : up_to_end cmp upper (p ∷ ps) ≡ 0 = rw past refl in
      ap (λ n. run_above cmp lower (falling n (p ∷ ps))) none
      ∙ sym (ap reverse (none_between o lower upper (p ∷ ps) (past, all_weaken (λ k. cmp p.0 k ≡ Less) (λ k. is_past_end cmp upper k ≡ true) (λ k l. past_after o upper p.0 k past l) ps (rising_head cmp p ps up)))))
      (λ past. let more : up_to_end cmp upper (p ∷ ps) ≡ suc m = rw past refl in
      ap (λ n. run_above cmp lower (falling n (p ∷ ps))) more ∙ ap (run_above cmp lower) (falling_more p ps m (up_to_within cmp upper ps))
      ∙ on_test (is_from_start cmp lower p.0)
      (λ from. let kept : entries_between cmp lower upper (p ∷ ps) ≡ p ∷ between = rw (from, past) refl in
      above_with cmp lower p (falling m ps) from (falling_all cmp (λ k. is_from_start cmp lower k ≡ true) m ps (all_weaken (λ k. cmp p.0 k ≡ Less) (λ k. is_from_start cmp lower k ≡ true) (λ k l. from_after o lower p.0 k from l) ps (rising_head cmp p ps up)))
      ∙ ap (λ qs. qs ++ p ∷ []) (end_between ps rising) ∙ sym (reverse-append (p ∷ []) between) ∙ ap reverse (sym kept))
      (λ from. let dropped : entries_between cmp lower upper (p ∷ ps) ≡ between = rw from refl in
      above_without cmp lower p (falling m ps) from ∙ end_between ps rising ∙ ap reverse (sym dropped)))

-- a cursor that hasn't been asked is yet to give the pairs between its bounds, the last one first
pub left_at_end : {K V : Type 0} {cmp : K → K → Ordering} → IsTotalOrder cmp → (c : Cursor K V) → IsStart cmp c → remaining_back cmp c ≡ reverse (entries_between cmp c.lower c.upper c.pairs)
left_at_end {cmp = cmp} o c s = rw s.backward (end_between o c.lower c.upper c.pairs s.rising)
