-- How often the pairs of a list turn from those that are gone to others.
use Rattle.std.proofs.Common.{◌≡◌, ◌+◌, ◌*◌, ◌≤◌, length, arith, Bool, true, false, not, ◌||◌, ◌&&◌, List, [], ◌∷◌, ◌++◌, refl, ap, ◌∙◌, subst}
use Rattle.std.proofs.lemmas.Bool.{false≢true}
use Rattle.std.specs.BTreeMap.Range.{is_from_start, is_past_end, range_contains}
use Rattle.std.specs.Cmp.{IsTotalOrder}
use Rattle.std.specs.declared.cmp.Ordering.{Ordering}
use Rattle.std.specs.declared.cmp.Ordering.TheVariants.{Less, Equal, Greater}
use Rattle.std.specs.declared.ops.Bound.{Bound}
use Rattle.std.specs.declared.ops.Bound.TheVariants.{Included, Excluded, Unbounded}
use Rattle.std.specs.Ordering.{is_le, is_lt}
use Rattle.leaf_array.specs.Pairs.{IsAscending}
use Rattle.tree_index.specs.Shape.{AllKeys}
use Rattle.tree_index.proofs.ShapeLemmas.{all_weaken}
use Rattle.version_drafts.specs.Cutting.{differ, turn_count}
use Rattle.version_drafts.specs.Gone.{is_gone}
use Rattle.version_drafts.specs.declared.gone.Gone.{Gone}
use Rattle.version_views.proofs.FilterLemmas.{on_test, rising_head, rising_tail}

differ_none : (a b : Bool) → differ a b ≡ 0 → b ≡ a
differ_none true true h = refl
differ_none true false h = absurd (omega (arith, h))
differ_none false true h = absurd (omega (arith, h))
differ_none false false h = refl

pub differ_same : (a : Bool) → differ a a ≡ 0
differ_same true = refl
differ_same false = refl

module _ {K V : Type 0} (test : K → Bool) where
  -- what the test answers of the last pair
  abbrev pub last_answer : Bool → List (K × V) → Bool
  last_answer last [] = last
  last_answer last (p ∷ ps) = last_answer (test p.0) ps

  pub turns_both : (last : Bool) (xs ys : List (K × V)) → turn_count test last (xs ++ ys) ≡ turn_count test last xs + turn_count test (last_answer last xs) ys
  turns_both last [] ys = omega arith
  turns_both last (x ∷ xs) ys = let rest = turns_both (test x.0) xs ys in omega (arith, rest)

  -- without a turn all are alike
  pub all_alike : (last : Bool) (xs : List (K × V)) → turn_count test last xs ≡ 0 → AllKeys (λ k. test k ≡ last) xs
  all_alike last [] h = tt
  all_alike last (x ∷ xs) h =
      let same : test x.0 ≡ last = differ_none last (test x.0) (omega (arith, h)) in
      (same, subst (λ b. AllKeys (λ k. test k ≡ b) xs) same (all_alike (test x.0) xs (omega (arith, h))))

  -- pairs that are alike turn at most once
  pub alike_turns : (last v : Bool) (xs ys : List (K × V)) → 1 ≤ length xs → AllKeys (λ k. test k ≡ v) xs → turn_count test last (xs ++ ys) ≡ differ last v + turn_count test v ys
  alike_turns last v [] ys some a = absurd (omega (arith, some))
  alike_turns last v (x ∷ []) ys some a = ap (λ b. differ last b + turn_count test b ys) a.0
  alike_turns last v (x ∷ (z ∷ xs)) ys some a =
      let rest = alike_turns v v (z ∷ xs) ys (omega arith) a.1 in
      let same = differ_same v in
      ap (λ b. differ last b + turn_count test b ((z ∷ xs) ++ ys)) a.0 ∙ omega (arith, rest, same)

differ_or : (a b c d : Bool) → differ (a || b) (c || d) ≤ differ a c + differ b d
differ_or true b true d = omega arith
differ_or true true false true = omega arith
differ_or true true false false = omega arith
differ_or true false false true = omega arith
differ_or true false false false = omega arith
differ_or false true true true = omega arith
differ_or false true true false = omega arith
differ_or false false true true = omega arith
differ_or false false true false = omega arith
differ_or false b false d = omega arith

pub turns_or : {K V : Type 0} (f g : K → Bool) (a b : Bool) (ps : List (K × V)) → turn_count (λ k. f k || g k) (a || b) ps ≤ turn_count f a ps + turn_count g b ps
turns_or f g a b [] = omega arith
turns_or f g a b (p ∷ ps) =
    let one = differ_or a b (f p.0) (g p.0) in
    let rest = turns_or f g (f p.0) (g p.0) ps in
    omega (arith, one, rest)

turns_never : {K V : Type 0} (ps : List (K × V)) → turn_count (λ (k : K). false) false ps ≡ 0
turns_never [] = refl
turns_never (p ∷ ps) = let rest = turns_never ps in omega (arith, rest)

both_left : (a b : Bool) → (a && b) ≡ true → a ≡ true
both_left true b h = refl
both_left false b h = absurd (false≢true h)

no_right : (a : Bool) → (a && false) ≡ false
no_right true = refl
no_right false = refl

lt_le : (c : Ordering) → is_lt c ≡ true → is_le c ≡ true
lt_le Less h = refl
lt_le Equal h = absurd (false≢true h)
lt_le Greater h = absurd (false≢true h)

module _ {K : Type 0} {cmp : K → K → Ordering} (o : IsTotalOrder cmp) where
  less_on : (a x y : K) → is_le (cmp a x) ≡ true → cmp x y ≡ Less → cmp a y ≡ Less
  less_on a x y h l =
      (elim (cmp a x) as (λ c. cmp a x ≡ c → is_le c ≡ true → cmp a y ≡ Less) [
        | Less ↦ λ c h. o.trans a x y c l
        | Equal ↦ λ c h. o.congr a x y c ∙ l
        | Greater ↦ λ c h. absurd (false≢true h)
      ]) refl h

  from_on : (bound : Bound K) (x y : K) → is_from_start cmp bound x ≡ true → cmp x y ≡ Less → is_from_start cmp bound y ≡ true
  from_on (Included a) x y h l = ap is_le (less_on a x y h l)
  from_on (Excluded a) x y h l = ap is_lt (less_on a x y (lt_le (cmp a x) h) l)
  from_on Unbounded x y h l = refl

  past_on : (bound : Bound K) (x y : K) → is_past_end cmp bound x ≡ true → cmp x y ≡ Less → is_past_end cmp bound y ≡ true
  past_on (Included a) x y h l = ap is_lt (less_on a x y (lt_le (cmp a x) h) l)
  past_on (Excluded a) x y h l = ap is_le (less_on a x y h l)
  past_on Unbounded x y h l = absurd (false≢true h)

  module _ (lower upper : Bound K) where
    abbrev inside : K → Bool
    inside k = range_contains cmp lower upper k

    turns_past : {V : Type 0} (ps : List (K × V)) → AllKeys (λ k. is_past_end cmp upper k ≡ true) ps → turn_count inside false ps ≡ 0
    turns_past [] a = refl
    turns_past (p ∷ ps) a =
        let out : inside p.0 ≡ false = ap (λ b. is_from_start cmp lower p.0 && not b) a.0 ∙ no_right (is_from_start cmp lower p.0) in
        let rest = turns_past ps a.1 in
        let all : turn_count inside false (p ∷ ps) ≡ 0 + turn_count inside false ps = ap (λ b. differ false b + turn_count inside b ps) out in
        omega (arith, rest, all)

    turns_from : {V : Type 0} (ps : List (K × V)) → IsAscending cmp ps → AllKeys (λ k. is_from_start cmp lower k ≡ true) ps → turn_count inside true ps ≤ 1
    turns_from [] up a = omega arith
    turns_from (p ∷ ps) up a =
        on_test (is_past_end cmp upper p.0)
        (λ e. let out : inside p.0 ≡ false = ap (λ b. is_from_start cmp lower p.0 && not b) e ∙ no_right (is_from_start cmp lower p.0) in
        let none = turns_past ps (all_weaken (λ y. cmp p.0 y ≡ Less) (λ y. is_past_end cmp upper y ≡ true) (λ y l. past_on upper p.0 y e l) ps (rising_head cmp p ps up)) in
        let all : turn_count inside true (p ∷ ps) ≡ 1 + turn_count inside false ps = ap (λ b. differ true b + turn_count inside b ps) out in
        omega (arith, none, all))
        (λ e. let here : inside p.0 ≡ true = ap (λ b. is_from_start cmp lower p.0 && not b) e ∙ ap (λ b. b && true) a.0 in
        let rest = turns_from ps (rising_tail cmp p ps up) a.1 in
        let all : turn_count inside true (p ∷ ps) ≡ 0 + turn_count inside true ps = ap (λ b. differ true b + turn_count inside b ps) here in
        omega (arith, rest, all))

    -- a range begins and ends
    turns_range : {V : Type 0} (ps : List (K × V)) → IsAscending cmp ps → turn_count inside false ps ≤ 2
    turns_range [] up = omega arith
    turns_range (p ∷ ps) up =
        on_test (inside p.0)
        (λ e. let from : is_from_start cmp lower p.0 ≡ true = both_left (is_from_start cmp lower p.0) (not (is_past_end cmp upper p.0)) e in
        let rest = turns_from ps (rising_tail cmp p ps up) (all_weaken (λ y. cmp p.0 y ≡ Less) (λ y. is_from_start cmp lower y ≡ true) (λ y l. from_on lower p.0 y from l) ps (rising_head cmp p ps up)) in
        let all : turn_count inside false (p ∷ ps) ≡ 1 + turn_count inside true ps = ap (λ b. differ false b + turn_count inside b ps) e in
        omega (arith, rest, all))
        (λ e. let rest = turns_range ps (rising_tail cmp p ps up) in
        let all : turn_count inside false (p ∷ ps) ≡ 0 + turn_count inside false ps = ap (λ b. differ false b + turn_count inside b ps) e in
        omega (arith, rest, all))

  -- so ranges make at most two turns each
  pub turns_gone : {V : Type 0} (gone : List (Gone K)) (ps : List (K × V)) → IsAscending cmp ps → turn_count (is_gone cmp gone) false ps ≤ 2 * length gone
  turns_gone [] ps up = let none = turns_never ps in omega (arith, none)
  turns_gone (g ∷ gs) ps up =
      let one = turns_range g.lower g.upper ps up in
      let rest = turns_gone gs ps up in
      let both = turns_or (λ k. range_contains cmp g.lower g.upper k) (is_gone cmp gs) false false ps in
      omega (arith, one, rest, both)
