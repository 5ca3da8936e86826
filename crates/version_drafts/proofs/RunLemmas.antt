-- Pairs before the next change, which are given as they are.
use Rattle.std.proofs.Common.{◌≡◌, ◌≤◌, inl, inr, ℕ, zero, suc, ◌+◌, ◌-◌, Option, Some, None, List, [], ◌∷◌, ◌++◌, append_assoc, drop, length, take, refl, sym, ap, ◌∙◌, subst, arith}
use Rattle.std.proofs.Math.Seq.{take-length}
use Rattle.std.proofs.lemmas.Bool.{cases_lt}
use Rattle.std.proofs.lemmas.List.{length-drop, take-append-drop}
use Rattle.std.specs.Prelude.{slice_get, option_copied}
use Rattle.std.specs.Borrow.{Bor}
use Rattle.std.specs.Option.{option_map}
use Rattle.tree_index.proofs.WayLemmas.{some_same}
use Rattle.std.specs.Cmp.{IsTotalOrder}
use Rattle.std.specs.declared.cmp.Ordering.{Ordering}
use Rattle.std.specs.declared.cmp.Ordering.TheVariants.{Less}
use Rattle.leaf_array.specs.Pairs.{IsAscending}
use Rattle.tree_index.specs.Shape.{AllKeys}
use Rattle.tree_index.proofs.CopyLemmas.{slice_dropped}
use Rattle.tree_index.proofs.RunLemmas.{all_fewer}
use Rattle.version_drafts.specs.Gone.{without_gone}
use Rattle.version_drafts.specs.declared.gone.Gone.{Gone}
use Rattle.tree_index.proofs.ShapeLemmas.{turned}
use Rattle.version_drafts.specs.Changes.{apply_delta}
use Rattle.version_drafts.specs.Cutting.{GivesNoMoreThanRead, IsPassedBy, IsReachedBy, LiesBelow, room_spent}
use Rattle.version_drafts.specs.Parts.{made_in}
use Rattle.version_drafts.specs.declared.segments.SegmentBuilder.{SegmentBuilder}
use Rattle.version_drafts.proofs.DeltaLemmas.{amended_passed}
use Rattle.version_drafts.proofs.MergeLemmas.{rising_part}
use Rattle.version_views.proofs.FilterLemmas.{rising_rear}

all_at : {K V : Type 0} (P : K → Type 0) (ps : List (K × V)) (i : ℕ) (p : K × V) → AllKeys P ps → slice_get ps i ≡ Some p → P p.0
all_at P [] i p a h = absurd (cc)
all_at P (q ∷ ps) zero p a h = let same : ◌≡◌ {A = Option _} (Some q) (Some p) = h in let e : q ≡ p = cc in subst (λ x. P x.0) e a.0
all_at P (q ∷ ps) (suc i) p a h = all_at P ps i p a.1 h

module _ {K V : Type 0} {cmp : K → K → Ordering} (o : IsTotalOrder cmp) (cs : List (K × Option V)) (ps rest : List (K × V)) (n : ℕ) (passed : IsPassedBy cmp cs (take n ps)) where
  -- the run comes first, of what is left and of what changes make of it
  run_whole : ps ++ rest ≡ take n ps ++ (drop n ps ++ rest)
  run_whole = ap (λ qs. qs ++ rest) (sym (take-append-drop n ps)) ∙ append_assoc (take n ps) (drop n ps) rest

  run_amended : apply_delta cmp cs (ps ++ rest) ≡ take n ps ++ apply_delta cmp cs (drop n ps ++ rest)
  run_amended = ap (apply_delta cmp cs) run_whole ∙ amended_passed o cs (take n ps) (drop n ps ++ rest) passed

  pub run_split : (qs : List (K × V)) → qs ≡ drop n ps → apply_delta cmp cs (ps ++ rest) ≡ take n ps ++ apply_delta cmp cs (qs ++ rest)
  run_split qs next = run_amended ∙ ap (λ xs. take n ps ++ apply_delta cmp cs (xs ++ rest)) (sym next)

  -- what is left still rises
  pub run_sorted : (qs : List (K × V)) → qs ≡ drop n ps → IsAscending cmp (ps ++ rest) → IsAscending cmp (qs ++ rest)
  run_sorted qs next up = subst (λ xs. IsAscending cmp (xs ++ rest)) (sym next) (rising_rear cmp (take n ps) (drop n ps ++ rest) (subst (IsAscending cmp) run_whole up))

  -- the run comes behind what was given, and so behind the end of that
  pub run_given : (given : List (K × V)) → IsAscending cmp (given ++ apply_delta cmp cs (ps ++ rest)) → IsAscending cmp (given ++ take n ps)
  run_given given up = rising_part cmp given (take n ps) (apply_delta cmp cs (drop n ps ++ rest)) (apply_delta cmp cs (ps ++ rest)) run_amended up

  pub run_rises : (front tail : List (K × V)) → IsAscending cmp ((front ++ tail) ++ apply_delta cmp cs (ps ++ rest)) → IsAscending cmp (tail ++ take n ps)
  run_rises front tail up = rising_rear cmp front (tail ++ take n ps) (subst (IsAscending cmp) (append_assoc front tail (take n ps)) (run_given (front ++ tail) up))

module _ {K V X : Type 0} {cmp : K → K → Ordering} (o : IsTotalOrder cmp) (cs : List (K × X)) (ps : List (K × V)) (n : ℕ) (within : n ≤ length ps) (passed : IsPassedBy cmp cs (take n ps)) where
  -- a change that reaches the last pair comes behind the run
  pub run_reached : (qs : List (K × V)) → qs ≡ drop n ps → IsReachedBy cmp cs ps → IsReachedBy cmp cs qs
  run_reached qs next h = subst (IsReachedBy cmp cs) (sym next) (elim (cases_lt n (length ps)) [
    | inl less ↦
        let long = length-drop n ps in
        let at : length ps - 1 ≡ n + (length (drop n ps) - 1) = omega (arith, less, long) in
        record {
          change = h.change;
          pair = h.pair;
          first = h.first;
          last = slice_dropped n (length ps - 1) (length (drop n ps) - 1) ps at ∙ h.last;
          upto = h.upto;
        }
    | inr all ↦
        let size : n ≡ length ps = omega (arith, all, within) in
        let whole : take n ps ≡ ps = ap (λ (m : ℕ). take m ps) size ∙ take-length ps in
        let under = all_at (λ k. cmp k h.change.0 ≡ Less) ps (length ps - 1) h.pair (subst (AllKeys (λ k. cmp k h.change.0 ≡ Less)) whole (passed h.change h.first)) h.last in
        absurd (h.upto (turned o h.pair.0 h.change.0 under))
  ])

-- pairs below the key of the first change, if there is one, come before it
pub passed_of : {K V X : Type 0} (cmp : K → K → Ordering) (cs : List (K × X)) (ps : List (K × V)) (upto : Option (Bor K)) → option_copied upto ≡ option_map (λ p. p.0) (slice_get cs 0) → LiesBelow cmp upto ps → IsPassedBy cmp cs ps
passed_of cmp cs ps None e h = λ change first. absurd (let no : None ≡ Some change.0 = e ∙ ap (option_map (λ p. p.0)) first in cc)
passed_of cmp cs ps (Some key) e h = λ change first. subst (λ x. AllKeys (λ k. cmp k x ≡ Less) ps) (some_same (e ∙ ap (option_map (λ p. p.0)) first)) h

pub lies_fewer : {K V : Type 0} (cmp : K → K → Ordering) (upto : Option (Bor K)) (m k : ℕ) (ps : List (K × V)) → k ≤ m → LiesBelow cmp upto (take m ps) → LiesBelow cmp upto (take k ps)
lies_fewer cmp None m k ps le h = tt
lies_fewer cmp (Some key) m k ps le h = all_fewer (λ y. cmp y key.now ≡ Less) m k ps le h

-- where no range is gone, no pair is
pub without_none : {K V : Type 0} (cmp : K → K → Ordering) (gone : List (Gone K)) (ps : List (K × V)) → length gone ≡ 0 → without_gone cmp gone ps ≡ ps
without_none cmp [] [] e = refl
without_none cmp [] (p ∷ ps) e = ap (λ qs. p ∷ qs) (without_none cmp [] ps e)
without_none cmp (g ∷ gs) ps e = absurd (omega (arith, e))

-- as many pairs were given as were read
pub run_filled : {K V : Type 0} (s a b n : ℕ) (c c' : SegmentBuilder K V) → room_spent s c' ≡ room_spent s c + n → b + n ≤ a → length c'.tail.pairs ≡ length c.tail.pairs + n → made_in c'.row.parts.items ≡ made_in c.row.parts.items → GivesNoMoreThanRead s a b c c'
run_filled s a b n c c' spent left more made = record {
  spent = omega (arith, spent, left);
  some = λ some. omega (arith, some, more);
  none = λ none. made;
}
