-- Ends of a walk, as they move.
use Rattle.std.proofs.Common.{◌≡◌, ◌⊎◌, inl, inr, ℕ, suc, ◌+◌, ◌-◌, ◌<◌, ◌≤◌, true, false, cond, nat_lt, Option, None, Some, List, [], ◌∷◌, length, refl, sym, ap, ◌∙◌, arith, subst}
use Rattle.std.proofs.lemmas.Bool.{lt-ltb}
use Rattle.std.proofs.lemmas.Bool.Decides.{leb_tells}
use Rattle.std.proofs.lemmas.Option.{get_or_from_slice_get, slice_get_within}
use Rattle.std.specs.BTreeMap.Range.{is_past_end}
use Rattle.std.specs.Cmp.{IsTotalOrder}
use Rattle.std.specs.Ordering.{is_lt}
use Rattle.leaf_array.specs.Pairs.{IsAscending}
use Rattle.tree_index.proofs.EndLemmas.{forth_next}
use Rattle.tree_index.proofs.RisingLemmas.{earlier, not_earlier}
use Rattle.std.specs.Borrow.{Bor}
use Rattle.std.specs.Prelude.{slice_get}
use Rattle.std.specs.declared.cmp.Ordering.{Ordering}
use Rattle.std.specs.declared.ops.Bound.{Bound}
use Rattle.std.specs.declared.ops.Bound.TheVariants.{Unbounded}
use Rattle.tree_index.specs.declared.cursor.End.{End}
use Rattle.tree_index.specs.declared.cursor.End.TheVariants.{Unopened, At, Done}
use Rattle.tree_index.specs.Cursor.{Cursor, whole, forth, back, before_start, up_to_end, kept_above, kept_below, lies_before, moved_back, moved_forth, next_back_of, next_of, pair_at, deref_pair, shown_forth, shown_back}
use Rattle.version_views.specs.Cuts.{pairs_in}
use Rattle.version_views.specs.CursorEnds.{fore_place, further, pairs_before_block, rear_place, AreRising, IsFore, IsForeAt, IsPairAt, IsRear, IsRearAt}
use Rattle.version_views.specs.declared.position.CursorEnd.TheVariants as cursor_ends
use Rattle.version_views.specs.declared.position.Position.{Position}
use Rattle.version_views.proofs.PlaceLemmas.{next_before, pair_in, place_inside_all}
use Rattle.version_views.proofs.SeparatorSearchLemmas.{get_some}
use Rattle.version_views.proofs.ChangeScanLemmas.{above_all, kept_all}

module _ {X : Type 0} (a b : ℕ) (x y : X) where
  pub on_less : a < b → cond (nat_lt a b) x y ≡ x
  on_less h = ap (λ t. cond t x y) (lt-ltb a b h)

  pub on_more : b ≤ a → cond (nat_lt a b) x y ≡ y
  on_more h = elim (leb_tells (suc a) b) [
    | inl d ↦ absurd (omega (arith, h, d.1))
    | inr d ↦ ap (λ t. cond t x y) d.0
  ]

pub some_none : {X : Type 0} {x : X} → Some x ≡ None → ⊥
some_none e = cc

pub block_some : {K V : Type 0} (cmp : K → K → Ordering) (blocks : List (List (K × V))) (i : ℕ) (b : List (K × V)) → AreRising cmp blocks → slice_get blocks i ≡ Some b → 1 ≤ length b
block_some cmp blocks i b h here = subst (λ ps. 1 ≤ length ps) (get_or_from_slice_get blocks i b b here) (h.some i b (slice_get_within blocks i b here))

module _ {K V : Type 0} (cmp : K → K → Ordering) where
  -- ---- the first pair of a cursor over a block

  abbrev pub from_bound : Bound K → List (K × V) → Cursor K V
  from_bound lower b = record { pairs = b; lower = lower; upper = Unbounded; forward = Unopened; backward = Unopened }

  first_step : (lower : Bound K) (b : List (K × V)) → (before_start cmp lower b < length b) × (forth cmp lower b Unopened ≡ At (before_start cmp lower b)) × (next_of cmp (from_bound lower b) ≡ slice_get b (before_start cmp lower b)) ⊎ (length b ≤ before_start cmp lower b) × (next_of cmp (from_bound lower b) ≡ None)
  first_step lower b =
      let s = before_start cmp lower b in
      let answer : End ℕ → Option (K × V) = λ e. cond (lies_before e Unopened) (kept_below cmp Unbounded (pair_at b e)) None in
      elim (leb_tells (suc s) (length b)) [
        | inl d ↦
            let moved = on_less s (length b) (At s) Unopened (omega (arith, d.1)) in
            inl (omega (arith, d.1), moved, ap answer moved ∙ kept_all cmp (slice_get b s))
        | inr d ↦ inr (omega (arith, d.1), ap answer (on_more s (length b) (At s) Unopened (omega (arith, d.1))))
      ]

  -- ---- the last pair of a cursor over a block

  abbrev pub upto_bound : Bound K → List (K × V) → Cursor K V
  upto_bound upper b = record { pairs = b; lower = Unbounded; upper = upper; forward = Unopened; backward = Unopened }

  end_all : (upper : Bound K) (ps : List (K × V)) → up_to_end cmp upper ps ≤ length ps
  end_all upper [] = omega arith
  end_all upper (p ∷ ps) =
      elim (is_past_end cmp upper p.0) as (λ c. cond c 0 (suc (up_to_end cmp upper ps)) ≤ suc (length ps)) [
        | true ↦ omega arith
        | false ↦ omega (arith, end_all upper ps)
      ]

  last_step : (upper : Bound K) (b : List (K × V)) → (0 < up_to_end cmp upper b) × (back cmp upper b Unopened ≡ At (up_to_end cmp upper b - 1)) × (next_back_of cmp (upto_bound upper b) ≡ slice_get b (up_to_end cmp upper b - 1)) ⊎ (up_to_end cmp upper b ≡ 0) × (next_back_of cmp (upto_bound upper b) ≡ None)
  last_step upper b =
      let e = up_to_end cmp upper b in
      let answer : End ℕ → Option (K × V) = λ x. cond (lies_before Unopened x) (kept_above cmp Unbounded (pair_at b x)) None in
      elim (leb_tells 1 e) [
        | inl d ↦
            let moved = on_less 0 e (At (e - 1)) Unopened (omega (arith, d.1)) in
            inl (omega (arith, d.1), moved, ap answer moved ∙ above_all cmp (slice_get b (e - 1)))
        | inr d ↦ inr (omega (arith, d.1), ap answer (on_more 0 e (At (e - 1)) Unopened (omega (arith, d.1))))
      ]

  module _ (blocks : List (List (K × V))) (i : ℕ) (b : List (K × V)) (here : slice_get blocks i ≡ Some b) (n : ℕ) where
    pub fore_at : (s : ℕ) (c : Cursor K V) → c ≡ whole b (At s) Unopened → s < length b → n ≡ pairs_before_block blocks i + s → IsForeAt blocks n (record { segment = i; cursor = c })
    fore_at s c e h at =
        subst (λ c. IsForeAt blocks n (record { segment = i; cursor = c })) (sym e) (record {
          stands = record { place = s; here = here; within = h; is = refl };
          alone = refl;
          place = ap (λ m. At m) (sym at);
        })

    pub rear_at : (s : ℕ) (c : Cursor K V) → c ≡ whole b Unopened (At (s - 1)) → 0 < s → s ≤ length b → n ≡ pairs_before_block blocks i + s → IsRearAt blocks n (record { segment = i; cursor = c })
    rear_at s c e some h at =
        let same : pairs_before_block blocks i + (s - 1) ≡ n - 1 = omega (arith, some, at) in
        subst (λ c. IsRearAt blocks n (record { segment = i; cursor = c })) (sym e) (record {
          stands = record { place = s - 1; here = here; within = omega (arith, some, h); is = refl };
          alone = refl;
          some = omega (arith, some, at);
          place = ap (λ m. At m) same;
        })

    module _ (r : Option (Bor K × Bor V)) where
      pub found_fore : (lower : Bound K) → n ≡ pairs_before_block blocks i + before_start cmp lower b → deref_pair r ≡ next_of cmp (from_bound lower b) → (pair : Bor K × Bor V) → r ≡ Some pair → (c : Cursor K V) → c ≡ whole b (forth cmp lower b Unopened) Unopened → IsForeAt blocks n (record { segment = i; cursor = c }) × IsPairAt blocks n pair
      found_fore lower starts answer pair is c e =
          let told : Some (pair.0.now, pair.1.now) ≡ next_of cmp (from_bound lower b) = sym (ap deref_pair is) ∙ answer in
          elim (first_step lower b) [
            | inl d ↦ (fore_at (before_start cmp lower b) c (e ∙ ap (λ f. whole b f Unopened) d.1) d.0 starts, ap (slice_get (pairs_in blocks)) starts ∙ pair_in blocks i b here (before_start cmp lower b) d.0 ∙ sym (told ∙ d.2))
            | inr d ↦ absurd (some_none (told ∙ d.1))
          ]

      pub none_fore : (lower : Bound K) → deref_pair r ≡ next_of cmp (from_bound lower b) → r ≡ None → length b ≤ before_start cmp lower b
      none_fore lower answer is = elim (first_step lower b) [
        | inl d ↦
            let x = get_some b (before_start cmp lower b) d.0 in
            absurd (some_none (sym (sym (ap deref_pair is) ∙ answer ∙ d.2 ∙ x.1)))
        | inr d ↦ d.0
      ]

      pub found_rear : (upper : Bound K) → n ≡ pairs_before_block blocks i + up_to_end cmp upper b → deref_pair r ≡ next_back_of cmp (upto_bound upper b) → (pair : Bor K × Bor V) → r ≡ Some pair → (c : Cursor K V) → c ≡ whole b Unopened (back cmp upper b Unopened) → IsRearAt blocks n (record { segment = i; cursor = c }) × IsPairAt blocks (n - 1) pair
      found_rear upper ends answer pair is c e =
          let told : Some (pair.0.now, pair.1.now) ≡ next_back_of cmp (upto_bound upper b) = sym (ap deref_pair is) ∙ answer in
          let last = up_to_end cmp upper b in
          elim (last_step upper b) [
            | inl d ↦
                let same : n - 1 ≡ pairs_before_block blocks i + (last - 1) = omega (arith, d.0, ends) in
                let most = end_all upper b in
                (rear_at last c (e ∙ ap (λ f. whole b Unopened f) d.1) d.0 most ends, ap (slice_get (pairs_in blocks)) same ∙ pair_in blocks i b here (last - 1) (omega (arith, d.0, most)) ∙ sym (told ∙ d.2))
            | inr d ↦ absurd (some_none (told ∙ d.1))
          ]

      pub none_rear : (upper : Bound K) → deref_pair r ≡ next_back_of cmp (upto_bound upper b) → r ≡ None → up_to_end cmp upper b ≡ 0
      none_rear upper answer is = elim (last_step upper b) [
        | inl d ↦
            let most = end_all upper b in
            let x = get_some b (up_to_end cmp upper b - 1) (omega (arith, d.0, most)) in
            absurd (some_none (sym (sym (ap deref_pair is) ∙ answer ∙ d.2 ∙ x.1)))
        | inr d ↦ d.0
      ]

-- ---- an end that stands at a pair, and its next step

module _ {K V : Type 0} (cmp : K → K → Ordering) (blocks : List (List (K × V))) (s : Position K V) where
  -- the pair of an end is the one at its place
  pub fore_pair : (h : IsFore blocks s) → (fore_place blocks (cursor_ends.At s) ≡ At (pairs_before_block blocks s.segment + h.place)) × (shown_forth cmp s.cursor ≡ slice_get (pairs_in blocks) (pairs_before_block blocks s.segment + h.place))
  fore_pair h = (
    ap (λ (c : Cursor K V). further (pairs_before_block blocks s.segment) c.forward) h.is,
    ap (shown_forth cmp) h.is ∙ kept_all cmp (slice_get s.cursor.pairs h.place) ∙ sym (pair_in blocks s.segment s.cursor.pairs h.here h.place h.within),
  )

  pub rear_pair : (h : IsRear blocks s) → (rear_place blocks (cursor_ends.At s) ≡ At (pairs_before_block blocks s.segment + h.place)) × (shown_back cmp s.cursor ≡ slice_get (pairs_in blocks) (pairs_before_block blocks s.segment + h.place))
  rear_pair h = (
    ap (λ (c : Cursor K V). further (pairs_before_block blocks s.segment) c.backward) h.is,
    ap (shown_back cmp) h.is ∙ above_all cmp (slice_get s.cursor.pairs h.place) ∙ sym (pair_in blocks s.segment s.cursor.pairs h.here h.place h.within),
  )

  pub fore_shows : IsFore blocks s → pair_at (pairs_in blocks) (fore_place blocks (cursor_ends.At s)) ≡ shown_forth cmp s.cursor
  fore_shows h = ap (pair_at (pairs_in blocks)) (fore_pair h).0 ∙ sym (fore_pair h).1

  pub rear_shows : IsRear blocks s → pair_at (pairs_in blocks) (rear_place blocks (cursor_ends.At s)) ≡ shown_back cmp s.cursor
  rear_shows h = ap (pair_at (pairs_in blocks)) (rear_pair h).0 ∙ sym (rear_pair h).1

  pub record IsForeStep (t : Position K V) : Type 0 where
    pub stands : IsFore blocks t
    pub alone : t.cursor.backward ≡ s.cursor.backward
    pub place : (lower : Bound K) → fore_place blocks (cursor_ends.At t) ≡ forth cmp lower (pairs_in blocks) (fore_place blocks (cursor_ends.At s))
    pub pair : shown_forth cmp t.cursor ≡ pair_at (pairs_in blocks) (fore_place blocks (cursor_ends.At t))

  pub record IsRearStep (t : Position K V) : Type 0 where
    pub stands : IsRear blocks t
    pub alone : t.cursor.forward ≡ s.cursor.forward
    pub place : (upper : Bound K) → rear_place blocks (cursor_ends.At t) ≡ back cmp upper (pairs_in blocks) (rear_place blocks (cursor_ends.At s))
    pub pair : shown_back cmp t.cursor ≡ pair_at (pairs_in blocks) (rear_place blocks (cursor_ends.At t))

  module _ (t : Position K V) (same : t.segment ≡ s.segment) where
    -- a position with the same segment and this cursor
    told : (P : Position K V → Type 0) (c : Cursor K V) → t.cursor ≡ c → P (record { segment = s.segment; cursor = c }) → P t
    told P c e h = subst (λ n. P (record { segment = n; cursor = t.cursor })) (sym same) (subst (λ d. P (record { segment = s.segment; cursor = d })) (sym e) h)

    -- it goes to the next pair of its segment, or stood at the last one
    pub stepped_fore : (h : IsFore blocks s) → t.cursor ≡ moved_forth cmp s.cursor → IsForeStep t ⊎ (shown_forth cmp t.cursor ≡ None) × (pairs_before_block blocks (s.segment + 1) ≡ pairs_before_block blocks s.segment + h.place + 1)
    stepped_fore h e =
        let b = s.cursor.pairs in
        let p = h.place in
        let before = pairs_before_block blocks s.segment in
        let moved = e ∙ ap (moved_forth cmp) h.is in
        elim (leb_tells (suc (p + 1)) (length b)) [
          | inl d ↦
              let within : p + 1 < length b = omega (arith, d.1) in
              let inside : before + (p + 1) < length (pairs_in blocks) = place_inside_all blocks s.segment b h.here (p + 1) within in
              inl (told IsForeStep (whole b (At (p + 1)) s.cursor.backward) (moved ∙ ap (λ f. whole b f s.cursor.backward) (on_less (p + 1) (length b) (At (p + 1)) Done within)) (record {
                stands = record { place = p + 1; here = h.here; within = within; is = refl };
                alone = refl;
                place = λ lower. forth_next cmp lower (pairs_in blocks) (before + (p + 1)) inside (before + p) (omega arith) ∙ ap (forth cmp lower (pairs_in blocks)) (sym (fore_pair h).0);
                pair = kept_all cmp (slice_get b (p + 1)) ∙ sym (pair_in blocks s.segment b h.here (p + 1) within);
              }))
          | inr d ↦
              let out : length b ≤ p + 1 = omega (arith, d.1) in
              inr (ap (shown_forth cmp) (moved ∙ ap (λ f. whole b f s.cursor.backward) (on_more (p + 1) (length b) (At (p + 1)) Done out)), omega (arith, next_before blocks s.segment b h.here, out, h.within))
        ]

    pub stepped_rear : (h : IsRear blocks s) → t.cursor ≡ moved_back cmp s.cursor → IsRearStep t ⊎ (shown_back cmp t.cursor ≡ None) × (h.place ≡ 0)
    stepped_rear h e =
        let b = s.cursor.pairs in
        let p = h.place in
        let before = pairs_before_block blocks s.segment in
        let moved = e ∙ ap (moved_back cmp) h.is in
        elim (leb_tells 1 p) [
          | inl d ↦
              let some : 0 < p = omega (arith, d.1) in
              let one : before + (p - 1) ≡ before + p - 1 = omega (arith, some) in
              let within : p - 1 < length b = omega (arith, some, h.within) in
              inl (told IsRearStep (whole b s.cursor.forward (At (p - 1))) (moved ∙ ap (λ f. whole b s.cursor.forward f) (on_less 0 p (At (p - 1)) Done some)) (record {
                stands = record { place = p - 1; here = h.here; within = within; is = refl };
                alone = refl;
                place = λ upper. ap (λ n. At n) one ∙ sym (on_less 0 (before + p) (At (before + p - 1)) Done (omega (arith, some))) ∙ ap (back cmp upper (pairs_in blocks)) (sym (rear_pair h).0);
                pair = above_all cmp (slice_get b (p - 1)) ∙ sym (pair_in blocks s.segment b h.here (p - 1) within);
              }))
          | inr d ↦
              let none : p ≡ 0 = omega (arith, d.1) in
              inr (ap (shown_back cmp) (moved ∙ ap (λ f. whole b s.cursor.forward f) (on_more 0 p (At (p - 1)) Done (omega (arith, none)))), none)
        ]

  -- such an end shows a pair
  pub fore_shown : IsFore blocks s → shown_forth cmp s.cursor ≡ None → ⊥
  fore_shown h none = some_none (sym (get_some s.cursor.pairs h.place h.within).1 ∙ sym (ap (shown_forth cmp) h.is ∙ kept_all cmp (slice_get s.cursor.pairs h.place)) ∙ none)

  pub rear_shown : IsRear blocks s → shown_back cmp s.cursor ≡ None → ⊥
  rear_shown h none = some_none (sym (get_some s.cursor.pairs h.place h.within).1 ∙ sym (ap (shown_back cmp) h.is ∙ above_all cmp (slice_get s.cursor.pairs h.place)) ∙ none)

module _ {K V : Type 0} (cmp : K → K → Ordering) (blocks : List (List (K × V))) (s t : Position K V) (same : t.segment ≡ s.segment) (r : Option (Bor K × Bor V)) where
  -- a step that gives a pair stays in its segment, and one that gives none leaves it
  pub stays_fore : IsFore blocks s → t.cursor ≡ moved_forth cmp s.cursor → deref_pair r ≡ shown_forth cmp t.cursor → (pair : Bor K × Bor V) → r ≡ Some pair → IsForeStep cmp blocks s t
  stays_fore h e answer pair is = elim (stepped_fore cmp blocks s t same h e) [
    | inl d ↦ d
    | inr d ↦ absurd (some_none (sym (ap deref_pair is) ∙ answer ∙ d.0))
  ]

  pub leaves_fore : (h : IsFore blocks s) → t.cursor ≡ moved_forth cmp s.cursor → deref_pair r ≡ shown_forth cmp t.cursor → r ≡ None → pairs_before_block blocks (t.segment + 1) ≡ pairs_before_block blocks s.segment + h.place + 1
  leaves_fore h e answer is = elim (stepped_fore cmp blocks s t same h e) [
    | inl d ↦ absurd (fore_shown cmp blocks t d.stands (sym answer ∙ ap deref_pair is))
    | inr d ↦ ap (λ i. pairs_before_block blocks (i + 1)) same ∙ d.1
  ]

  pub stays_rear : IsRear blocks s → t.cursor ≡ moved_back cmp s.cursor → deref_pair r ≡ shown_back cmp t.cursor → (pair : Bor K × Bor V) → r ≡ Some pair → IsRearStep cmp blocks s t
  stays_rear h e answer pair is = elim (stepped_rear cmp blocks s t same h e) [
    | inl d ↦ d
    | inr d ↦ absurd (some_none (sym (ap deref_pair is) ∙ answer ∙ d.0))
  ]

  pub leaves_rear : (h : IsRear blocks s) → t.cursor ≡ moved_back cmp s.cursor → deref_pair r ≡ shown_back cmp t.cursor → r ≡ None → pairs_before_block blocks t.segment ≡ pairs_before_block blocks s.segment + h.place
  leaves_rear h e answer is = elim (stepped_rear cmp blocks s t same h e) [
    | inl d ↦ absurd (rear_shown cmp blocks t d.stands (sym answer ∙ ap deref_pair is))
    | inr d ↦ ap (pairs_before_block blocks) same ∙ omega (arith, d.1)
  ]

-- keys tell which of two places comes first
pub order_told : {K V : Type 0} {cmp : K → K → Ordering} (o : IsTotalOrder cmp) (ps : List (K × V)) (m n : ℕ) (p q : K × V) → IsAscending cmp ps → slice_get ps m ≡ Some p → slice_get ps n ≡ Some q → is_lt (cmp p.0 q.0) ≡ nat_lt m n
order_told o ps m n p q up a b = elim (leb_tells (suc m) n) [
  | inl d ↦ ap is_lt (earlier o ps m n p q up a b (omega (arith, d.1))) ∙ sym d.0
  | inr d ↦ not_earlier o ps m n p q up a b (omega (arith, d.1)) ∙ sym d.0
]
