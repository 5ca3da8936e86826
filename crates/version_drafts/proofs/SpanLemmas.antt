-- Ranges that are gone, and the blocks that they reach.
use Rattle.std.proofs.Common.{◌≡◌, ◌⊎◌, inl, inr, ℕ, zero, suc, ◌<◌, length, arith, Bool, true, false, not, ◌||◌, ◌&&◌, List, [], ◌∷◌, take, drop, get_or, Option, Some, None, refl, ap, ◌∙◌, subst}
use Rattle.std.proofs.lemmas.Bool.{cases_lt}
use Rattle.std.specs.Prelude.{slice_get}
use Rattle.std.specs.BTreeMap.Range.{is_from_start, is_past_end, range_contains}
use Rattle.std.specs.Cmp.{IsTotalOrder}
use Rattle.std.specs.List.{All}
use Rattle.std.specs.declared.cmp.Ordering.{Ordering}
use Rattle.std.specs.declared.cmp.Ordering.TheVariants.{Less}
use Rattle.std.specs.declared.ops.Bound.{Bound}
use Rattle.std.specs.declared.ops.Bound.TheVariants.{Included, Excluded, Unbounded}
use Rattle.std.specs.Ordering.{is_le, is_lt}
use Rattle.std.proofs.lemmas.Option.{slice_get_within}
use Rattle.tree_index.specs.Shape.{AllKeys}
use Rattle.tree_index.proofs.ShapeLemmas.{all_weaken, turned}
use Rattle.tree_index.proofs.WayLemmas.{some_same}
use Rattle.version_views.specs.Cuts.{pairs_in}
use Rattle.version_drafts.specs.Gone.{IsAmong, IsBefore, IsBehind, IsCovered, IsEndAt, IsFrom, IsNear, IsSpan, IsUpto, is_gone}
use Rattle.version_views.specs.SeparatorSearch.{IsOrdered, IsPlaceOf}
use Rattle.version_drafts.specs.declared.gone.Gone.{Gone}
use Rattle.version_views.proofs.FilterLemmas.{all_front, all_rear}
use Rattle.version_views.proofs.PlaceLemmas.{around_place}

module _ {K V : Type 0} (P : K → Type 0) where
  all_in : (blocks : List (List (K × V))) (i : ℕ) (b : List (K × V)) → slice_get blocks i ≡ Some b → AllKeys P (pairs_in blocks) → AllKeys P b
  all_in [] i b e a = absurd (cc)
  all_in (c ∷ bs) zero b e a = subst (AllKeys P) (some_same e) (all_front P c (pairs_in bs) a)
  all_in (c ∷ bs) (suc i) b e a = all_in bs i b e (all_rear P c (pairs_in bs) a)

  all_in_front : (blocks : List (List (K × V))) (i place : ℕ) (b : List (K × V)) → slice_get blocks i ≡ Some b → i < place → AllKeys P (pairs_in (take place blocks)) → AllKeys P b
  all_in_front [] i place b e lt a = absurd (cc)
  all_in_front (c ∷ bs) i zero b e lt a = absurd (omega (arith, lt))
  all_in_front (c ∷ bs) zero (suc place) b e lt a = subst (AllKeys P) (some_same e) (all_front P c (pairs_in (take place bs)) a)
  all_in_front (c ∷ bs) (suc i) (suc place) b e lt a = all_in_front bs i place b e (omega (arith, lt)) (all_rear P c (pairs_in (take place bs)) a)

  all_in_rear : (blocks : List (List (K × V))) (i place : ℕ) (b : List (K × V)) → slice_get blocks i ≡ Some b → place < i → AllKeys P (pairs_in (drop (suc place) blocks)) → AllKeys P b
  all_in_rear [] i place b e lt a = absurd (cc)
  all_in_rear (c ∷ bs) zero place b e lt a = absurd (omega (arith, lt))
  all_in_rear (c ∷ bs) (suc i) zero b e lt a = all_in bs i b e a
  all_in_rear (c ∷ bs) (suc i) (suc place) b e lt a = all_in_rear bs i place b e (omega (arith, lt)) a

all_two : {K V : Type 0} (P Q R : K → Type 0) → ((k : K) → P k → Q k → R k) → (ps : List (K × V)) → AllKeys P ps → AllKeys Q ps → AllKeys R ps
all_two P Q R f [] a b = tt
all_two P Q R f (p ∷ ps) a b = (f p.0 a.0 b.0, all_two P Q R f ps a.1 b.1)

pub all_false : {K V : Type 0} (ps : List (K × V)) → AllKeys (λ (k : K). false ≡ false) ps
all_false [] = tt
all_false (p ∷ ps) = (refl, all_false ps)

from_or : (end : Option ℕ) (i : ℕ) → IsFrom end i ⊎ (IsFrom end i → ⊥)
from_or None i = inl tt
from_or (Some place) i = elim (cases_lt i place) [
  | inl less ↦ inr (λ h. omega (arith, less, h))
  | inr more ↦ inl more
]

module _ {K V : Type 0} {cmp : K → K → Ordering} (o : IsTotalOrder cmp) (blocks : List (List (K × V))) where
  pub among_of : (key : K) (keys : List K) (place : ℕ) → IsOrdered cmp blocks keys → IsPlaceOf cmp key keys place → IsAmong cmp blocks key place
  among_of key keys place ordered at = record {
    before = λ i b e lt. let within = slice_get_within blocks i b e in all_in_front (λ k. cmp k key ≡ Less) blocks i place b e lt (around_place cmp o key blocks keys place ordered at (omega (arith, within))).before;
    behind = λ i b e lt. let within = slice_get_within blocks i b e in all_in_rear (λ k. cmp key k ≡ Less) blocks i place b e lt (around_place cmp o key blocks keys place ordered at (omega (arith, within))).behind;
  }

  module _ (i : ℕ) (b : List (K × V)) (here : slice_get blocks i ≡ Some b) where
    from_apart : (bound : Bound K) (end : Option ℕ) → IsEndAt cmp blocks bound end → (IsFrom end i → ⊥) → AllKeys (λ k. is_from_start cmp bound k ≡ false) b
    from_apart (Included key) (Some place) e off = all_weaken (λ k. cmp k key ≡ Less) (λ k. is_from_start cmp (Included key) k ≡ false) (λ k l. ap is_le (turned o k key l)) b (e.before i b here (elim (cases_lt i place) [ inl less ↦ less | inr more ↦ absurd (off more) ]))
    from_apart (Excluded key) (Some place) e off = all_weaken (λ k. cmp k key ≡ Less) (λ k. is_from_start cmp (Excluded key) k ≡ false) (λ k l. ap is_lt (turned o k key l)) b (e.before i b here (elim (cases_lt i place) [ inl less ↦ less | inr more ↦ absurd (off more) ]))
    from_apart Unbounded None e off = absurd (off tt)
    from_apart (Included key) None e off = absurd e
    from_apart (Excluded key) None e off = absurd e
    from_apart Unbounded (Some place) e off = absurd e

    from_within : (bound : Bound K) (end : Option ℕ) → IsEndAt cmp blocks bound end → IsBehind end i → AllKeys (λ k. is_from_start cmp bound k ≡ true) b
    from_within (Included key) (Some place) e lt = all_weaken (λ k. cmp key k ≡ Less) (λ k. is_from_start cmp (Included key) k ≡ true) (λ k l. ap is_le l) b (e.behind i b here lt)
    from_within (Excluded key) (Some place) e lt = all_weaken (λ k. cmp key k ≡ Less) (λ k. is_from_start cmp (Excluded key) k ≡ true) (λ k l. ap is_lt l) b (e.behind i b here lt)
    from_within Unbounded None e lt = all_true b
      where
        all_true : (ps : List (K × V)) → AllKeys (λ (k : K). true ≡ true) ps
        all_true [] = tt
        all_true (p ∷ ps) = (refl, all_true ps)
    from_within (Included key) None e lt = absurd e
    from_within (Excluded key) None e lt = absurd e
    from_within Unbounded (Some place) e lt = absurd e

    upto_apart : (bound : Bound K) (end : Option ℕ) → IsEndAt cmp blocks bound end → (IsUpto end i → ⊥) → AllKeys (λ k. is_past_end cmp bound k ≡ true) b
    upto_apart (Included key) (Some place) e off = all_weaken (λ k. cmp key k ≡ Less) (λ k. is_past_end cmp (Included key) k ≡ true) (λ k l. ap is_lt l) b (e.behind i b here (elim (cases_lt place i) [ inl less ↦ less | inr more ↦ absurd (off more) ]))
    upto_apart (Excluded key) (Some place) e off = all_weaken (λ k. cmp key k ≡ Less) (λ k. is_past_end cmp (Excluded key) k ≡ true) (λ k l. ap is_le l) b (e.behind i b here (elim (cases_lt place i) [ inl less ↦ less | inr more ↦ absurd (off more) ]))
    upto_apart Unbounded None e off = absurd (off tt)
    upto_apart (Included key) None e off = absurd e
    upto_apart (Excluded key) None e off = absurd e
    upto_apart Unbounded (Some place) e off = absurd e

    upto_within : (bound : Bound K) (end : Option ℕ) → IsEndAt cmp blocks bound end → IsBefore end i → AllKeys (λ k. is_past_end cmp bound k ≡ false) b
    upto_within (Included key) (Some place) e lt = all_weaken (λ k. cmp k key ≡ Less) (λ k. is_past_end cmp (Included key) k ≡ false) (λ k l. ap is_lt (turned o k key l)) b (e.before i b here lt)
    upto_within (Excluded key) (Some place) e lt = all_weaken (λ k. cmp k key ≡ Less) (λ k. is_past_end cmp (Excluded key) k ≡ false) (λ k l. ap is_le (turned o k key l)) b (e.before i b here lt)
    upto_within Unbounded None e lt = all_false b
    upto_within (Included key) None e lt = absurd e
    upto_within (Excluded key) None e lt = absurd e
    upto_within Unbounded (Some place) e lt = absurd e

  no_right : (a : Bool) → (a && false) ≡ false
  no_right true = refl
  no_right false = refl

  pub span_of : (g : Gone K) → IsEndAt cmp blocks g.lower g.from → IsEndAt cmp blocks g.upper g.upto → IsSpan cmp blocks g
  span_of g lo hi = record {
    apart = λ i b e off. elim (from_or g.from i) [
      | inl in_from ↦ all_weaken (λ k. is_past_end cmp g.upper k ≡ true) (λ k. range_contains cmp g.lower g.upper k ≡ false) (λ k p. ap (λ x. is_from_start cmp g.lower k && not x) p ∙ no_right (is_from_start cmp g.lower k)) b (upto_apart i b e g.upper g.upto hi (λ u. off (in_from, u)))
      | inr out ↦ all_weaken (λ k. is_from_start cmp g.lower k ≡ false) (λ k. range_contains cmp g.lower g.upper k ≡ false) (λ k p. ap (λ x. x && not (is_past_end cmp g.upper k)) p) b (from_apart i b e g.lower g.from lo out)
    ];
    covered = λ i b e h.
        all_two (λ k. is_from_start cmp g.lower k ≡ true) (λ k. is_past_end cmp g.upper k ≡ false) (λ k. range_contains cmp g.lower g.upper k ≡ true) (λ k p q. ap (λ x. x && not (is_past_end cmp g.upper k)) p ∙ ap not q) b
        (from_within i b e g.lower g.from lo h.0) (upto_within i b e g.upper g.upto hi h.1);
  }

module _ {K V : Type 0} (cmp : K → K → Ordering) (blocks : List (List (K × V))) where
  -- a key in one of the ranges is gone
  gone_at : (gone : List (Gone K)) (i : ℕ) (d : Gone K) (k : K) → i < length gone → range_contains cmp (get_or gone i d).lower (get_or gone i d).upper k ≡ true → is_gone cmp gone k ≡ true
  gone_at [] i d k lt e = absurd (omega (arith, lt))
  gone_at (g ∷ gs) zero d k lt e = rw e refl
  gone_at (g ∷ gs) (suc i) d k lt e = rw (gone_at gs i d k (omega (arith, lt)) e) (or_true (range_contains cmp g.lower g.upper k))
    where
      or_true : (a : Bool) → (a || true) ≡ true
      or_true true = refl
      or_true false = refl

  pub covered_at : (gone : List (Gone K)) (i : ℕ) (d : Gone K) (place : ℕ) (b : List (K × V)) → i < length gone → All (IsSpan cmp blocks) gone → IsCovered (get_or gone i d) place → slice_get blocks place ≡ Some b → AllKeys (λ k. is_gone cmp gone k ≡ true) b
  covered_at gone i d place b lt all h e =
      all_weaken (λ k. range_contains cmp (get_or gone i d).lower (get_or gone i d).upper k ≡ true) (λ k. is_gone cmp gone k ≡ true) (λ k c. gone_at gone i d k lt c) b ((all i d lt).covered place b e h)

  pub none_near : (gone : List (Gone K)) (place : ℕ) (b : List (K × V)) → ((i : ℕ) (d : Gone K) → i < length gone → IsSpan cmp blocks (get_or gone i d)) → ((i : ℕ) (d : Gone K) → i < length gone → IsNear (get_or gone i d) place → ⊥) → slice_get blocks place ≡ Some b → AllKeys (λ k. is_gone cmp gone k ≡ false) b
  none_near [] place b all off e = all_false b
  none_near (g ∷ gs) place b all off e =
      all_two (λ k. range_contains cmp g.lower g.upper k ≡ false) (λ k. is_gone cmp gs k ≡ false) (λ k. is_gone cmp (g ∷ gs) k ≡ false) (λ k p q. rw (p, q) refl) b
      ((all 0 g (omega arith)).apart place b e (off 0 g (omega arith)))
      (none_near gs place b (λ i d lt. all (suc i) d (omega (arith, lt))) (λ i d lt. off (suc i) d (omega (arith, lt))) e)
