-- Ends of a walk change places.
use Rattle.std.proofs.Common.{◌≡◌, ℕ, ◌+◌, ◌-◌, ◌<◌, true, cond, Some, List, length, refl, sym, ap, ◌∙◌, subst}
use Rattle.std.proofs.lemmas.Bool.{false≢true}
use Rattle.std.specs.Option.{is_some}
use Rattle.std.specs.Prelude.{slice_get}
use Rattle.std.specs.declared.cmp.Ordering.{Ordering}
use Rattle.std.specs.declared.ops.Bound.{Bound}
use Rattle.tree_index.specs.declared.cursor.End.{End}
use Rattle.tree_index.specs.declared.cursor.End.TheVariants.{Unopened, At, Done}
use Rattle.tree_index.specs.Cursor.{Cursor, whole, can_turn, turned, turns}
use Rattle.version_views.specs.Cuts.{pairs_in}
use Rattle.version_views.specs.CursorEnds.{fore_place, pairs_before_block, rear_place, swapped, AreRising, IsFore, IsForeAt, IsRear, IsRearAt, IsWalking}
use Rattle.version_views.specs.declared.position.CursorEnd.{CursorEnd}
use Rattle.version_views.specs.declared.position.CursorEnd.TheVariants as cursor_ends
use Rattle.version_views.specs.declared.position.Position.{Position}
use Rattle.version_views.proofs.CursorEndLemmas.{fore_pair, rear_pair}
use Rattle.version_views.proofs.PlaceLemmas.{place_inside_all}
use Rattle.version_views.proofs.SeparatorSearchLemmas.{get_some}
use Rattle.version_views.proofs.ChangeScanLemmas.{above_all, kept_all}

module _ {K V : Type 0} (cmp : K → K → Ordering) (blocks : List (List (K × V))) where
  -- ---- one end

  turned_fore : (b : List (K × V)) (p : ℕ) (x : K × V) → slice_get b p ≡ Some x → turned cmp (whole b (At p) Unopened) ≡ whole b Unopened (At p)
  turned_fore b p x here = ap (λ o. cond (is_some o) (whole b Unopened (At p)) (whole b (At p) Unopened)) (kept_all cmp (slice_get b p) ∙ here)

  turned_rear : (b : List (K × V)) (p : ℕ) (x : K × V) → slice_get b p ≡ Some x → turned cmp (whole b Unopened (At p)) ≡ whole b (At p) Unopened
  turned_rear b p x here = ap (λ o. cond (is_some o) (whole b (At p) Unopened) (whole b Unopened (At p))) (above_all cmp (slice_get b p) ∙ here)

  -- a forward end has become a backward one at the same place, and the other way round
  pub record IsTurnedFore (s t : Position K V) : Type 0 where
    pub stands : IsRear blocks t
    pub alone : t.cursor.forward ≡ Unopened
    pub place : rear_place blocks (cursor_ends.At t) ≡ fore_place blocks (cursor_ends.At s)

  pub record IsTurnedRear (s t : Position K V) : Type 0 where
    pub stands : IsFore blocks t
    pub alone : t.cursor.backward ≡ Unopened
    pub place : fore_place blocks (cursor_ends.At t) ≡ rear_place blocks (cursor_ends.At s)

  abbrev pub turned_spot : Position K V → Position K V
  turned_spot s = record s { cursor = turned cmp s.cursor }

  pub fore_turned : (s : Position K V) → IsFore blocks s → s.cursor.backward ≡ Unopened → IsTurnedFore s (turned_spot s)
  fore_turned s h alone =
      let b = s.cursor.pairs in
      let x = get_some b h.place h.within in
      let e : turned cmp s.cursor ≡ whole b Unopened (At h.place) = ap (turned cmp) (h.is ∙ ap (λ o. whole b (At h.place) o) alone) ∙ turned_fore b h.place x.0 x.1 in
      subst (λ c. IsTurnedFore s (record { segment = s.segment; cursor = c })) (sym e) (record {
        stands = record { place = h.place; here = h.here; within = h.within; is = refl };
        alone = refl;
        place = sym (fore_pair cmp blocks s h).0;
      })

  pub rear_turned : (s : Position K V) → IsRear blocks s → s.cursor.forward ≡ Unopened → IsTurnedRear s (turned_spot s)
  rear_turned s h alone =
      let b = s.cursor.pairs in
      let x = get_some b h.place h.within in
      let e : turned cmp s.cursor ≡ whole b (At h.place) Unopened = ap (turned cmp) (h.is ∙ ap (λ o. whole b o (At h.place)) alone) ∙ turned_rear b h.place x.0 x.1 in
      subst (λ c. IsTurnedRear s (record { segment = s.segment; cursor = c })) (sym e) (record {
        stands = record { place = h.place; here = h.here; within = h.within; is = refl };
        alone = refl;
        place = sym (rear_pair cmp blocks s h).0;
      })

  -- ---- both ends

  module _ (lower upper : Bound K) where
    abbrev pub walk_of : CursorEnd K V → CursorEnd K V → Cursor K V
    walk_of f b = record { pairs = pairs_in blocks; lower = lower; upper = upper; forward = fore_place blocks f; backward = rear_place blocks b }

    pub record AreTurned (f b : CursorEnd K V) : Type 0 where
      pub walking : IsWalking cmp blocks (swapped cmp b) (swapped cmp f)
      pub forward : fore_place blocks (swapped cmp b) ≡ rear_place blocks b
      pub backward : rear_place blocks (swapped cmp f) ≡ fore_place blocks f

    pub ends_turned : (f b : CursorEnd K V) → IsWalking cmp blocks f b → can_turn cmp (walk_of f b) ≡ true → AreTurned f b
    ends_turned cursor_ends.Unopened cursor_ends.Unopened h t = record {
      walking = record { blocks_rise = h.blocks_rise; forward_stands = tt; backward_stands = tt; forward_alone = λ e. tt; backward_alone = λ e. tt };
      forward = refl;
      backward = refl;
    }
    ends_turned (cursor_ends.At s) cursor_ends.Unopened h t =
        let r = fore_turned s h.forward_stands (h.forward_alone refl) in
        record {
          walking = record { blocks_rise = h.blocks_rise; forward_stands = tt; backward_stands = r.stands; forward_alone = λ e. tt; backward_alone = λ e. r.alone };
          forward = refl;
          backward = r.place;
        }
    ends_turned cursor_ends.Done cursor_ends.Unopened h t = absurd (false≢true t)
    ends_turned cursor_ends.Unopened (cursor_ends.At s) h t =
        let r = rear_turned s h.backward_stands (h.backward_alone refl) in
        record {
          walking = record { blocks_rise = h.blocks_rise; forward_stands = r.stands; backward_stands = tt; forward_alone = λ e. r.alone; backward_alone = λ e. tt };
          forward = r.place;
          backward = refl;
        }
    ends_turned cursor_ends.Unopened cursor_ends.Done h t = absurd (false≢true t)
    ends_turned (cursor_ends.At s) (cursor_ends.At u) h t =
        let c = walk_of (cursor_ends.At s) (cursor_ends.At u) in
        absurd (false≢true (sym (ap (λ x. turns cmp c x c.backward) (fore_pair cmp blocks s h.forward_stands).0 ∙ ap (λ y. turns cmp c (At (pairs_before_block blocks s.segment + h.forward_stands.place)) y) (rear_pair cmp blocks u h.backward_stands).0) ∙ t))
    ends_turned (cursor_ends.At s) cursor_ends.Done h t =
        let c = walk_of (cursor_ends.At s) cursor_ends.Done in
        absurd (false≢true (sym (ap (λ x. turns cmp c x Done) (fore_pair cmp blocks s h.forward_stands).0) ∙ t))
    ends_turned cursor_ends.Done (cursor_ends.At u) h t =
        let c = walk_of cursor_ends.Done (cursor_ends.At u) in
        absurd (false≢true (sym (ap (λ y. turns cmp c Done y) (rear_pair cmp blocks u h.backward_stands).0) ∙ t))
    ends_turned cursor_ends.Done cursor_ends.Done h t = absurd (false≢true t)

    -- the walk is the turned one
    pub walk_turned : (f b : CursorEnd K V) → AreTurned f b → can_turn cmp (walk_of f b) ≡ true → walk_of (swapped cmp b) (swapped cmp f) ≡ turned cmp (walk_of f b)
    walk_turned f b h t =
        let made : End ℕ → End ℕ → Cursor K V = λ x y. record { pairs = pairs_in blocks; lower = lower; upper = upper; forward = x; backward = y } in
        ap (λ x. made x (rear_place blocks (swapped cmp f))) h.forward
        ∙ ap (made (rear_place blocks b)) h.backward
        ∙ sym (ap (λ u. cond u (made (rear_place blocks b) (fore_place blocks f)) (walk_of f b)) t)

-- ---- two ends beside one another

at_same : {m n : ℕ} → ◌≡◌ {A = End ℕ} (At m) (At n) → m ≡ n
at_same e = cc

module _ {K V : Type 0} (cmp : K → K → Ordering) (blocks : List (List (K × V))) (n : ℕ) where
  -- the place behind n pairs has a pair
  pub fore_inside : (s : Position K V) → IsForeAt blocks n s → n < length (pairs_in blocks)
  fore_inside s h =
      let at : pairs_before_block blocks s.segment + h.stands.place ≡ n = at_same (sym (fore_pair cmp blocks s h.stands).0 ∙ h.place) in
      subst (λ m. m < length (pairs_in blocks)) at (place_inside_all blocks s.segment s.cursor.pairs h.stands.here h.stands.place h.stands.within)

  -- a walk stands between two neighbours, whose ends have changed places
  pub record StandsBetween (smaller larger : CursorEnd K V) : Type 0 where
    pub walking : IsWalking cmp blocks smaller larger
    pub cursor : whole (pairs_in blocks) (fore_place blocks smaller) (rear_place blocks larger) ≡ whole (pairs_in blocks) (At (n - 1)) (At n)

  pub stands_between : (s f : Position K V) → AreRising cmp blocks → IsRearAt blocks n s → IsForeAt blocks n f → StandsBetween (swapped cmp (cursor_ends.At s)) (swapped cmp (cursor_ends.At f))
  stands_between s f rise hs hf =
      let a = rear_turned cmp blocks s hs.stands hs.alone in
      let b = fore_turned cmp blocks f hf.stands hf.alone in
      record {
        walking = record { blocks_rise = rise; forward_stands = a.stands; backward_stands = b.stands; forward_alone = λ e. a.alone; backward_alone = λ e. b.alone };
        cursor = ap (λ x. whole (pairs_in blocks) x (rear_place blocks (swapped cmp (cursor_ends.At f)))) (a.place ∙ hs.place) ∙ ap (whole (pairs_in blocks) (At (n - 1))) (b.place ∙ hf.place);
      }
