-- Where a key stands, in the block that it is around.
use Rattle.std.proofs.Common.{◌≡◌, inl, inr, ℕ, suc, ◌+◌, ◌-◌, ◌<◌, ◌≤◌, true, false, Some, List, ◌++◌, length, drop, take, refl, sym, ap, ◌∙◌, arith, subst}
use Rattle.std.proofs.lemmas.Bool.{false≢true}
use Rattle.std.proofs.lemmas.Bool.Decides.{leb_tells}
use Rattle.std.proofs.lemmas.Option.{slice_get_past}
use Rattle.std.specs.Cmp.{IsTotalOrder}
use Rattle.std.specs.Prelude.{slice_get}
use Rattle.std.specs.declared.cmp.Ordering.{Ordering}
use Rattle.leaf_array.specs.Cells.{lesser}
use Rattle.leaf_array.specs.Pairs.{has_key, IsAscending}
use Rattle.tree_index.proofs.InsertionPointLemmas.{has_keyed}
use Rattle.tree_index.specs.Cursor.{Cursor, whole}
use Rattle.tree_index.specs.SplitPoints.{is_keyed}
use Rattle.tree_index.specs.declared.cursor.End.TheVariants.{Unopened, At}
use Rattle.version_views.specs.Cuts.{pairs_in}
use Rattle.version_views.specs.CursorEnds.{fore_place, pairs_before_block, rear_place, AreRising, IsBlockAround, IsForeAt, IsRearAt, IsWalking}
use Rattle.version_views.specs.declared.position.CursorEnd.TheVariants as cursor_ends
use Rattle.version_views.specs.declared.position.Position.{Position}
use Rattle.version_views.proofs.CursorEndLemmas.{fore_at, rear_at}
use Rattle.version_views.proofs.FilterLemmas.{rising_front, rising_rear}
use Rattle.version_views.proofs.PlaceLemmas.{has_around, lesser_around, next_before, place_inside_all}
use Rattle.version_views.proofs.SeparatorSearchLemmas.{around_block}

module _ {K V : Type 0} (cmp : K → K → Ordering) (o : IsTotalOrder cmp) (key : K) (blocks : List (List (K × V))) (rise : AreRising cmp blocks) (i : ℕ) (a : IsBlockAround cmp key blocks i) (b : List (K × V)) (here : slice_get blocks i ≡ Some b) where
  block_rises : IsAscending cmp b
  block_rises =
      let rest = pairs_in (drop (suc i) blocks) in
      rising_front cmp b rest (rising_rear cmp (pairs_in (take i blocks)) (b ++ rest) (subst (IsAscending cmp) (around_block blocks i b here) rise.rising))

  past_end : length b ≤ lesser cmp key b → has_key cmp key b ≡ false
  past_end h = has_keyed cmp o key b block_rises ∙ ap (is_keyed cmp key) (slice_get_past b (lesser cmp key b) h)

  -- the key's pair has a place
  key_inside : has_key cmp key b ≡ true → lesser cmp key b < length b
  key_inside h = elim (leb_tells (suc (lesser cmp key b)) (length b)) [
    | inl d ↦ omega (arith, d.1)
    | inr d ↦ absurd (false≢true (sym (past_end (omega (arith, d.1))) ∙ h))
  ]

  abbrev position : Cursor K V → Position K V
  position c = record { segment = i; cursor = c }

  -- ---- at the pair

  pub exact_at : (c : Cursor K V) → has_key cmp key b ≡ true → c ≡ whole b (At (lesser cmp key b)) Unopened → IsForeAt blocks (lesser cmp key (pairs_in blocks)) (position c)
  exact_at c h e = fore_at cmp blocks i b here (lesser cmp key (pairs_in blocks)) (lesser cmp key b) c e (key_inside h) (lesser_around cmp o key blocks i a b here)

  pub one_walks : (n : ℕ) (s : Position K V) → IsForeAt blocks n s → IsWalking cmp blocks (cursor_ends.At s) cursor_ends.Unopened
  one_walks n s h = record { blocks_rise = rise; forward_stands = h.stands; backward_stands = tt; forward_alone = λ e. h.alone; backward_alone = λ e. tt }

  -- ---- between two pairs of the block

  pub record IsInside (s : Position K V) : Type 0 where
    pub walking : IsWalking cmp blocks (cursor_ends.At s) (cursor_ends.At s)
    pub some : 0 < lesser cmp key (pairs_in blocks)
    pub within : lesser cmp key (pairs_in blocks) < length (pairs_in blocks)
    pub ends : whole (pairs_in blocks) (fore_place blocks (cursor_ends.At s)) (rear_place blocks (cursor_ends.At s)) ≡ whole (pairs_in blocks) (At (lesser cmp key (pairs_in blocks) - 1)) (At (lesser cmp key (pairs_in blocks)))

  pub is_inside : (c : Cursor K V) → 0 < lesser cmp key b → lesser cmp key b < length b → c ≡ whole b (At (lesser cmp key b - 1)) (At (lesser cmp key b)) → IsInside (position c)
  is_inside c some within e =
      let l = lesser cmp key b in
      let all = lesser_around cmp o key blocks i a b here in
      let before : pairs_before_block blocks i + (l - 1) ≡ lesser cmp key (pairs_in blocks) - 1 = omega (arith, all, some) in
      subst (λ c. IsInside (position c)) (sym e) (record {
        walking = record {
          blocks_rise = rise;
          forward_stands = record { place = l - 1; here = here; within = omega (arith, some, within); is = refl };
          backward_stands = record { place = l; here = here; within = within; is = refl };
          forward_alone = λ e. absurd (cc);
          backward_alone = λ e. absurd (cc);
        };
        some = omega (arith, all, some);
        within = omega (arith, all, place_inside_all blocks i b here l within);
        ends = ap (λ n. whole (pairs_in blocks) (At n) (At (pairs_before_block blocks i + l))) before ∙ ap (λ n. whole (pairs_in blocks) (At (lesser cmp key (pairs_in blocks) - 1)) (At n)) (sym all);
      })

  -- ---- before all pairs of the block, or behind them

  pub first_at : (c : Cursor K V) → lesser cmp key b ≡ 0 → 0 < length b → c ≡ whole b (At 0) Unopened → IsForeAt blocks (pairs_before_block blocks i) (position c) × (lesser cmp key (pairs_in blocks) ≡ pairs_before_block blocks i)
  first_at c none some e = (fore_at cmp blocks i b here (pairs_before_block blocks i) 0 c e some (omega arith), omega (arith, lesser_around cmp o key blocks i a b here, none))

  pub last_at : (c : Cursor K V) → lesser cmp key b ≡ length b → 0 < length b → c ≡ whole b Unopened (At (length b - 1)) → IsRearAt blocks (pairs_before_block blocks (i + 1)) (position c) × (lesser cmp key (pairs_in blocks) ≡ pairs_before_block blocks (i + 1)) × (has_key cmp key (pairs_in blocks) ≡ false)
  last_at c all some e =
      let next = next_before blocks i b here in (
        rear_at cmp blocks i b here (pairs_before_block blocks (i + 1)) (length b) c e some (omega arith) next,
        omega (arith, lesser_around cmp o key blocks i a b here, all, next),
        has_around cmp o key blocks i a b here ∙ past_end (omega (arith, all)),
      )
