-- Lists that are made again from transactions.
use Rattle.std.proofs.Common.{◌≡◌, ℕ, zero, suc, ◌+◌, ◌-◌, ◌<◌, ◌≤◌, List, [], ◌∷◌, ◌++◌, length, take, drop, get_or, refl, sym, ap, ◌∙◌, subst, arith, Some, append_assoc}
use Rattle.std.proofs.lemmas.List.{drop-take}
use Rattle.std.specs.List.{slice_get}
use Rattle.std.specs.declared.cmp.Ordering.{Ordering}
use Rattle.std.specs.declared.ops.Bound.TheVariants.{Unbounded}
use Rattle.std.specs.Cmp.{IsTotalOrder}
use Rattle.leaf_array.specs.Edits.{upserted}
use Rattle.leaf_array.specs.Pairs.{IsAscending}
use Rattle.tree_index.proofs.CopyLemmas.{upserted_behind}
use Rattle.tree_index.proofs.InsertionPointLemmas.{start_none}
use Rattle.tree_index.specs.Cursor.{Cursor}
use Rattle.version_views.proofs.FilterLemmas.{rising_front, rising_under}
use Rattle.version_views.specs.Writes.{after_write, after_writes}
use Rattle.version_views.specs.declared.write.Write.{Write}
use Rattle.version_views.specs.declared.write.Write.TheVariants.{Clear}
use Rattle.serial_history.specs.Serial.{after_all}
use Rattle.serial_history.specs.RemainingPairs.{IsStart, remaining_pairs, run_within}
use Rattle.serial_history.specs.declared.transaction.Transaction.{Transaction}

take_less : {X : Type 0} (f n : ℕ) (xs : List X) → f ≤ n → take f (take n xs) ≡ take f xs
take_less zero n xs h = refl
take_less (suc f) zero xs h = absurd (omega (arith, h))
take_less (suc f) (suc n) [] h = refl
take_less (suc f) (suc n) (x ∷ xs) h = ap (λ ys. x ∷ ys) (take_less f n xs (omega (arith, h)))

module _ {K V : Type 0} (cmp : K → K → Ordering) where
  -- writes leave the same list of any, if one of them removes all pairs
  pub cleared : (ws : List (Write K V)) (i : ℕ) (w : Write K V) → i < length ws → w ≡ get_or ws i w → w ≡ Clear → (xs ys : List (K × V)) → after_writes cmp ws xs ≡ after_writes cmp ws ys
  cleared [] i w lt is clear xs ys = absurd (omega (arith, lt))
  cleared (v ∷ ws) zero w lt is clear xs ys = ap (after_writes cmp ws) (ap (λ u. after_write cmp u xs) (sym is ∙ clear) ∙ sym (ap (λ u. after_write cmp u ys) (sym is ∙ clear)))
  cleared (v ∷ ws) (suc i) w lt is clear xs ys = cleared ws i w (omega (arith, lt)) is clear (after_write cmp v xs) (after_write cmp v ys)

  -- so do transactions from such a one on
  pub cleared_from : (ts : List (Transaction K V)) (i : ℕ) (t : Transaction K V) → i < length ts → t ≡ get_or ts i t → ((xs ys : List (K × V)) → after_writes cmp t.writes xs ≡ after_writes cmp t.writes ys) → (xs ys : List (K × V)) → after_all cmp (drop i ts) xs ≡ after_all cmp (drop i ts) ys
  cleared_from [] i t lt is forgets xs ys = absurd (omega (arith, lt))
  cleared_from (u ∷ ts) zero t lt is forgets xs ys = ap (after_all cmp ts) (subst (λ (r : Transaction K V). after_writes cmp r.writes xs ≡ after_writes cmp r.writes ys) is (forgets xs ys))
  cleared_from (u ∷ ts) (suc i) t lt is forgets xs ys = cleared_from ts i t (omega (arith, lt)) is forgets xs ys

  -- the first transactions, and then the others
  pub after_split : (n : ℕ) (ts : List (Transaction K V)) (xs : List (K × V)) → after_all cmp ts xs ≡ after_all cmp (drop n ts) (after_all cmp (take n ts) xs)
  after_split zero ts xs = refl
  after_split (suc n) [] xs = refl
  after_split (suc n) (t ∷ ts) xs = after_split n ts (after_writes cmp t.writes xs)

  -- the transactions of a number, and those up to a later one
  pub after_between : (f n : ℕ) (ts : List (Transaction K V)) (xs : List (K × V)) → f ≤ n → after_all cmp (take (n - f) (drop f ts)) (after_all cmp (take f ts) xs) ≡ after_all cmp (take n ts) xs
  after_between f n ts xs h =
      let sum : f + (n - f) ≡ n = omega (arith, h) in
      let rear : take (n - f) (drop f ts) ≡ drop f (take n ts) = sym (drop-take f (n - f) ts) ∙ ap (λ k. drop f (take k ts)) sum in
      ap (λ us. after_all cmp us (after_all cmp (take f ts) xs)) rear ∙ ap (λ us. after_all cmp (drop f (take n ts)) (after_all cmp us xs)) (sym (take_less f n ts h)) ∙ sym (after_split f (take n ts) xs)

  -- a list without bounds is given whole
  run_whole : (ps : List (K × V)) → run_within cmp Unbounded ps ≡ ps
  run_whole [] = refl
  run_whole (p ∷ ps) = ap (λ qs. p ∷ qs) (run_whole ps)

  pub left_whole : (c : Cursor K V) → IsStart cmp c → c.lower ≡ Unbounded → c.upper ≡ Unbounded → remaining_pairs cmp c ≡ c.pairs
  left_whole c start lower upper = rw (start.forward, lower, upper, start_none cmp c.pairs) (run_whole c.pairs)

module _ {K V : Type 0} {cmp : K → K → Ordering} (o : IsTotalOrder cmp) where
  -- the next pair of an ascending list is put behind those before it
  pub gathered_more : (done left all : List (K × V)) (p : K × V) → done ++ left ≡ all → IsAscending cmp all → slice_get left 0 ≡ Some p → upserted cmp p.0 p.1 done ++ drop 1 left ≡ all
  gathered_more done [] all p is up first = absurd cc
  gathered_more done (q ∷ left) all p is up first =
      let same : q ≡ p = cc in
      let whole : (done ++ q ∷ []) ++ left ≡ all = append_assoc done (q ∷ []) left ∙ is in
      let under = rising_under cmp done q (rising_front cmp (done ++ q ∷ []) left (subst (IsAscending cmp) (sym whole) up)) in
      ap (λ (r : K × V). upserted cmp r.0 r.1 done ++ left) (sym same) ∙ ap (λ ps. ps ++ left) (upserted_behind o q.0 q.1 done under) ∙ whole
