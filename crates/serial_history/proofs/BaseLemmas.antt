-- Histories that begin with a base.
use Rattle.std.proofs.Common.{◌≡◌, ℕ, zero, suc, ◌+◌, ◌-◌, ◌<◌, ◌≤◌, List, [], ◌∷◌, ◌++◌, length, take, drop, get_or, refl, sym, ap, ◌∙◌, subst, arith, append_assoc, length-drop, take-append-drop}
use Rattle.std.proofs.lemmas.List.{drop_more}
use Rattle.std.proofs.Math.Seq.{take-length}
use Rattle.std.specs.BTreeMap.Range.{entries_between}
use Rattle.std.specs.declared.cmp.Ordering.{Ordering}
use Rattle.std.specs.declared.ops.Bound.TheVariants.{Unbounded}
use Rattle.leaf_array.specs.Pairs.{IsAscending}
use Rattle.tree_index.specs.Depth.{IsAbove}
use Rattle.version_views.proofs.FilterLemmas.{rising_front, rising_under}
use Rattle.version_views.specs.Writes.{after_writes}
use Rattle.serial_history.specs.Serial.{Base, HasNumber, IsSerial, after_all, base_at, history_behind, latest, list_numbered}
use Rattle.serial_history.specs.declared.transaction.Transaction.{Transaction}
use Rattle.serial_history.proofs.ReplayLemmas.{after_between, after_split}
use Rattle.serial_history.proofs.RunLemmas.{take-push}

-- a bound on neither side leaves all
pub between_all : {K V : Type 0} (cmp : K → K → Ordering) (ps : List (K × V)) → entries_between cmp Unbounded Unbounded ps ≡ ps
between_all cmp [] = refl
between_all cmp (p ∷ ps) = ap (λ qs. p ∷ qs) (between_all cmp ps)

-- the key of a pair is above those before it
pub above_taken : {K V : Type 0} (cmp : K → K → Ordering) (ps : List (K × V)) (i : ℕ) (d : K × V) → IsAscending cmp ps → i < length ps → IsAbove cmp (get_or ps i d).0 (take i ps)
above_taken cmp ps i d up lt =
    let p = get_or ps i d in
    let whole : (take i ps ++ p ∷ []) ++ drop (i + 1) ps ≡ ps = append_assoc (take i ps) (p ∷ []) (drop (i + 1) ps) ∙ ap (λ qs. take i ps ++ qs) (sym (drop_more ps i d lt)) ∙ take-append-drop i ps in
    rising_under cmp (take i ps) p (rising_front cmp (take i ps ++ p ∷ []) (drop (i + 1) ps) (subst (IsAscending cmp) (sym whole) up))

module _ {K V : Type 0} (cmp : K → K → Ordering) where
  -- the list of the present number is that after all transactions
  pub list_latest : (base : Base K V) (history : List (Transaction K V)) → list_numbered cmp base history (latest base history) ≡ after_all cmp history base.pairs
  list_latest base history =
      let more : base.number + length history - base.number ≡ length history = omega arith in
      ap (λ n. after_all cmp (take n history) base.pairs) more ∙ ap (λ ts. after_all cmp ts base.pairs) (take-length history)

  -- a longer history has the same lists up to the number that was the present one
  pub list_longer : (base : Base K V) (history : List (Transaction K V)) (t : Transaction K V) (n : ℕ) → n ≤ latest base history → list_numbered cmp base (history ++ t ∷ []) n ≡ list_numbered cmp base history n
  list_longer base history t n h = ap (λ ts. after_all cmp ts base.pairs) (take-push cmp history t (n - base.number) (omega (arith, h)))

  -- the transactions since a number lead from its list to that of a later one
  pub list_since : (base : Base K V) (history : List (Transaction K V)) (f n : ℕ) → base.number ≤ f → f ≤ n → after_all cmp (take (n - f) (drop (f - base.number) history)) (list_numbered cmp base history f) ≡ list_numbered cmp base history n
  list_since base history f n from upto =
      let steps : n - f ≡ n - base.number - (f - base.number) = omega (arith, from, upto) in
      ap (λ k. after_all cmp (take k (drop (f - base.number) history)) (list_numbered cmp base history f)) steps
      ∙ after_between cmp (f - base.number) (n - base.number) history base.pairs (omega (arith, from, upto))

  -- ---- a base at a later number

  -- from it on the lists are the same
  pub list_kept : (base : Base K V) (history : List (Transaction K V)) (n i : ℕ) → base.number ≤ n → n ≤ i → list_numbered cmp (base_at cmp base history n) (history_behind base history n) i ≡ list_numbered cmp base history i
  list_kept base history n i from upto = list_since base history n i from upto

  -- the present list is
  pub last_kept : (base : Base K V) (history : List (Transaction K V)) (n : ℕ) → after_all cmp (history_behind base history n) (list_numbered cmp base history n) ≡ after_all cmp history base.pairs
  last_kept base history n = sym (after_split cmp (n - base.number) history base.pairs)

  -- and so is the present number
  pub number_kept : (base : Base K V) (history : List (Transaction K V)) (n : ℕ) → HasNumber base history n → latest (base_at cmp base history n) (history_behind base history n) ≡ latest base history
  number_kept base history n has =
      let less = length-drop (n - base.number) history in
      let from = has.0 in
      let upto = has.1 in
      omega (arith, less, from, upto)

  -- what is left of a serial run is one
  pub serial_behind : (k : ℕ) (history : List (Transaction K V)) (pairs : List (K × V)) → IsSerial cmp history pairs → IsSerial cmp (drop k history) (after_all cmp (take k history) pairs)
  serial_behind zero history pairs serial = serial
  serial_behind (suc k) [] pairs serial = serial
  serial_behind (suc k) (t ∷ ts) pairs serial = serial_behind k ts (after_writes cmp t.writes pairs) serial.1

  pub serial_kept : (base : Base K V) (history : List (Transaction K V)) (n : ℕ) → IsSerial cmp history base.pairs → IsSerial cmp (history_behind base history n) (list_numbered cmp base history n)
  serial_kept base history n serial = serial_behind (n - base.number) history base.pairs serial
