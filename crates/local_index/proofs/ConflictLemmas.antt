-- Reads are tested by their answers alone.
use Rattle.std.proofs.Common.{◌≡◌, ◌≢◌, ℕ, ◌+◌, ◌-◌, ◌≤◌, Bool, true, false, cond, List, [], ◌∷◌, ◌++◌, Some, length, take, drop, refl, sym, ap, ◌∙◌, arith, length-append}
use Rattle.std.proofs.Math.Seq.{drop-append-add}
use Rattle.std.proofs.lemmas.List.{take-append-le}
use Rattle.std.proofs.lemmas.List.Elements.{filter-append}
use Rattle.std.specs.BTreeMap.{is_at}
use Rattle.std.specs.BTreeMap.Range.{entries_between, range_contains}
use Rattle.std.specs.Cmp.{IsTotalOrder}
use Rattle.std.specs.List.{All}
use Rattle.std.specs.Ordering.{is_eq}
use Rattle.std.specs.declared.cmp.Ordering.{Ordering}
use Rattle.std.specs.declared.cmp.Ordering.TheVariants.{Less, Equal, Greater}
use Rattle.std.specs.declared.ops.Bound.{Bound}
use Rattle.leaf_array.specs.Pairs.{has_key}
use Rattle.leaf_array.proofs.ListLemmas.{value_of_key-upserted}
use Rattle.version_views.specs.Writes.{after_write, after_writes}
use Rattle.version_views.specs.declared.write.Write.{Write}
use Rattle.version_views.specs.declared.write.Write.TheVariants as writes
use Rattle.version_drafts.proofs.RangeLemmas.{fair_range}
use Rattle.serial_history.specs.Answers.{answer_to}
use Rattle.serial_history.specs.Parts.{last_items}
use Rattle.serial_history.specs.Serial.{Holds, Read}
use Rattle.local_index.specs.State.{MayRefuse, State, present}
use Rattle.serial_history.specs.declared.commit.Cause.TheVariants as causes
use Rattle.serial_history.specs.declared.query.Answer.TheVariants as answers
use Rattle.serial_history.specs.declared.query.Query.TheVariants as queries
use Rattle.local_index.proofs.ReceiptLemmas.{first_of}

module _ {K V : Type 0} {cmp : K → K → Ordering} (o : IsTotalOrder cmp) where
  -- a value that is written again is read again, whatever was written before
  pub written_back : (between : List (Write K V)) (pairs : List (K × V)) (key : K) (value : V) → Holds cmp (after_writes cmp (between ++ writes.Upsert key value ∷ []) pairs) (queries.Get key, answers.Get (Some value))
  written_back [] pairs key value = ap answers.Get (sym (value_of_key-upserted o key value pairs))
  written_back (w ∷ ws) pairs key value = written_back ws (after_write cmp w pairs) key value

  module _ (lower upper : Bound K) (key : K) (inside : range_contains cmp lower upper key ≡ true) where
    other : (p : K × V) (ps : List (K × V)) (b : Bool) → is_at (cmp key) p.0 ≡ false → has_key cmp key (cond b (p ∷ ps) ps) ≡ has_key cmp key ps
    other p ps true e = rw e refl
    other p ps false e = refl

    passed : (p : K × V) (ps : List (K × V)) → is_at (cmp key) p.0 ≡ false → has_key cmp key (entries_between cmp lower upper ps) ≡ has_key cmp key ps → has_key cmp key (entries_between cmp lower upper (p ∷ ps)) ≡ has_key cmp key (p ∷ ps)
    passed p ps e rest = other p (entries_between cmp lower upper ps) (range_contains cmp lower upper p.0) e ∙ rest ∙ sym (other p ps true e)

    -- a range has a key that lies in it exactly if its list has
    has_between : (ps : List (K × V)) → has_key cmp key (entries_between cmp lower upper ps) ≡ has_key cmp key ps
    has_between [] = refl
    has_between (p ∷ ps) =
        (elim (cmp key p.0) as (λ c. cmp key p.0 ≡ c → has_key cmp key (entries_between cmp lower upper (p ∷ ps)) ≡ has_key cmp key (p ∷ ps)) [
          | Less ↦ λ c. passed p ps (ap is_eq c) (has_between ps)
          | Equal ↦ λ c. let here : range_contains cmp lower upper p.0 ≡ true = sym (fair_range o lower upper key p.0 c) ∙ inside in rw (here, c) refl
          | Greater ↦ λ c. passed p ps (ap is_eq c) (has_between ps)
        ]) refl

    -- so the range of a list that has the key isn't that of one that hasn't
    pub range_differs : (old new : List (K × V)) → has_key cmp key old ≢ has_key cmp key new → Holds cmp new (queries.Range lower upper, answer_to cmp (queries.Range lower upper) old) → ⊥
    range_differs old new differ holds = differ (sym (has_between old) ∙ ap (has_key cmp key) (same (entries_between cmp lower upper old) (entries_between cmp lower upper new) holds) ∙ has_between new)
      where
        same : (xs ys : List (K × V)) → answers.Range xs ≡ answers.Range ys → xs ≡ ys
        same xs ys e = cc

-- reads that hold are no conflict
pub held_is_no_conflict : {K V : Type 0} (cmp : K → K → Ordering) (width : ℕ) (s : State K V) (reads : List (Read K V)) (writes : List (Write K V)) (place : ℕ) → All (Holds cmp (present cmp s)) reads → MayRefuse cmp width s reads writes (causes.Conflict place) → ⊥
held_is_no_conflict cmp width s reads writes place hold first = let d = first_of reads place first.within in first.differs d (hold place d first.within)

module _ {K V : Type 0} (cmp : K → K → Ordering) (lower upper : Bound K) (count : ℕ) where
  -- what comes behind so many pairs of a range changes nothing in its first ones
  first_same : (front xs : List (K × V)) → count ≤ length (entries_between cmp lower upper front) → take count (entries_between cmp lower upper (front ++ xs)) ≡ take count (entries_between cmp lower upper front)
  first_same front xs few =
      ap (take count) (filter-append (λ e. range_contains cmp lower upper e.0) front xs)
      ∙ take-append-le count (entries_between cmp lower upper front) (entries_between cmp lower upper xs) few

  pub first_holds : (front old new : List (K × V)) → count ≤ length (entries_between cmp lower upper front) → Holds cmp (front ++ new) (queries.First lower upper count, answer_to cmp (queries.First lower upper count) (front ++ old))
  first_holds front old new few = ap answers.Range (first_same front old few ∙ sym (first_same front new few))

  -- and what comes before so many changes nothing in its last ones
  last_same : (xs back : List (K × V)) → count ≤ length (entries_between cmp lower upper back) → last_items count (entries_between cmp lower upper (xs ++ back)) ≡ last_items count (entries_between cmp lower upper back)
  last_same xs back few =
      let before : List (K × V) = entries_between cmp lower upper xs in
      let last : List (K × V) = entries_between cmp lower upper back in
      ap (last_items count) (filter-append (λ e. range_contains cmp lower upper e.0) xs back)
      ∙ ap (λ n. drop n (before ++ last)) (passed before last few) ∙ drop-append-add before last (length last - count)
    where
      passed : (before last : List (K × V)) → count ≤ length last → length (before ++ last) - count ≡ length before + (length last - count)
      passed before last few = omega (arith, few, length-append before last)

  pub last_holds : (old new back : List (K × V)) → count ≤ length (entries_between cmp lower upper back) → Holds cmp (new ++ back) (queries.Last lower upper count, answer_to cmp (queries.Last lower upper count) (old ++ back))
  last_holds old new back few = ap answers.Range (last_same old back few ∙ sym (last_same new back few))
