-- Places in blocks.
use Rattle.std.proofs.Common.{◌≡◌, ℕ, zero, suc, ◌+◌, ◌<◌, ◌≤◌, false, true, Some, List, [], ◌∷◌, ◌++◌, length, drop, take, slice_get, refl, sym, ap, ◌∙◌, arith}
use Rattle.std.specs.declared.cmp.Ordering.{Ordering}
use Rattle.std.specs.declared.ops.Bound.TheVariants.{Included, Excluded, Unbounded}
use Rattle.std.specs.Cmp.{IsTotalOrder}
use Rattle.std.proofs.lemmas.List.{length-append}
use Rattle.std.specs.BTreeMap.{is_at}
use Rattle.std.specs.Map.{lookup_entry}
use Rattle.leaf_array.specs.Cells.{lesser}
use Rattle.leaf_array.specs.Pairs.{has_key}
use Rattle.tree_index.specs.Cursor.{before_start, up_to_end}
use Rattle.tree_index.proofs.InsertionPointLemmas.{bound_middle, end_included, end_excluded, end_none, included_is, start_none}
use Rattle.tree_index.proofs.WayLemmas.{has_middle, lookup_middle}
use Rattle.version_views.specs.Cuts.{pairs_in}
use Rattle.version_views.specs.CursorEnds.{IsBlockAround, pairs_before_block}
use Rattle.version_views.specs.SeparatorSearch.{IsOrdered, IsPlaceOf}
use Rattle.version_views.proofs.BlockLemmas.{place_inside, take_all}
use Rattle.version_views.proofs.SeparatorSearchLemmas.{around_block, up_to_block, get_some, front_below, back_above}

module _ {X : Type 0} where
  pub get_fore : (ms ys : List X) (p : ℕ) → p < length ms → slice_get (ms ++ ys) p ≡ slice_get ms p
  get_fore [] ys p h = absurd (omega (arith, h))
  get_fore (m ∷ ms) ys zero h = refl
  get_fore (m ∷ ms) ys (suc p) h = get_fore ms ys p (omega (arith, h))

  pub get_rear : (xs ms : List X) (k p : ℕ) → k ≡ length xs + p → slice_get (xs ++ ms) k ≡ slice_get ms p
  get_rear [] ms k p e = let same : k ≡ p = omega (arith, e) in ap (slice_get ms) same
  get_rear (x ∷ xs) ms zero p e = absurd (omega (arith, e))
  get_rear (x ∷ xs) ms (suc k) p e = get_rear xs ms k p (omega (arith, e))

module _ {K V : Type 0} (blocks : List (List (K × V))) (i : ℕ) (b : List (K × V)) (here : slice_get blocks i ≡ Some b) where
  -- a pair of a block is one of all pairs
  pub pair_in : (p : ℕ) → p < length b → slice_get (pairs_in blocks) (pairs_before_block blocks i + p) ≡ slice_get b p
  pair_in p h =
      let rest = pairs_in (drop (suc i) blocks) in
      ap (λ ps. slice_get ps (pairs_before_block blocks i + p)) (around_block blocks i b here)
      ∙ get_rear (pairs_in (take i blocks)) (b ++ rest) (pairs_before_block blocks i + p) p refl
      ∙ get_fore b rest p h

  -- the block behind one begins where that one ends
  pub next_before : pairs_before_block blocks (i + 1) ≡ pairs_before_block blocks i + length b
  next_before =
      let one : i + 1 ≡ suc i = omega arith in
      ap (pairs_before_block blocks) one ∙ ap length (up_to_block blocks i b here) ∙ length-append (pairs_in (take i blocks)) b

  pub place_inside_all : (p : ℕ) → p < length b → pairs_before_block blocks i + p < length (pairs_in blocks)
  place_inside_all p h =
      let rest = pairs_in (drop (suc i) blocks) in
      let long : length (pairs_in blocks) ≡ pairs_before_block blocks i + (length b + length rest) = ap length (around_block blocks i b here) ∙ length-append (pairs_in (take i blocks)) (b ++ rest) ∙ ap (λ n. pairs_before_block blocks i + n) (length-append b rest) in
      omega (arith, long, h)

-- all pairs stand before the end
pub before_end_is : {K V : Type 0} (blocks : List (List (K × V))) (n : ℕ) → length blocks ≤ n → pairs_before_block blocks n ≡ length (pairs_in blocks)
before_end_is blocks n h = ap (λ bs. length (pairs_in bs)) (take_all blocks n h)

-- a block that some others end with is the last one
last_before_end : {K V : Type 0} (blocks : List (List (K × V))) (i : ℕ) (b : List (K × V)) → slice_get blocks i ≡ Some b → length blocks ≤ i + 1 → pairs_before_block blocks i + length b ≡ length (pairs_in blocks)
last_before_end blocks i b here h = sym (next_before blocks i b here) ∙ before_end_is blocks (i + 1) h

module _ {K V : Type 0} (cmp : K → K → Ordering) (o : IsTotalOrder cmp) (key : K) (blocks : List (List (K × V))) (i : ℕ) (a : IsBlockAround cmp key blocks i) (b : List (K × V)) (here : slice_get blocks i ≡ Some b) where
  abbrev front : List (K × V)
  front = pairs_in (take i blocks)

  abbrev rear : List (K × V)
  rear = pairs_in (drop (suc i) blocks)

  -- a key that a block is around is sought in it
  pub entry_around : lookup_entry (is_at (cmp key)) (pairs_in blocks) ≡ lookup_entry (is_at (cmp key)) b
  entry_around = ap (lookup_entry (is_at (cmp key))) (around_block blocks i b here) ∙ lookup_middle cmp o key front rear a.before a.behind b

  pub has_around : has_key cmp key (pairs_in blocks) ≡ has_key cmp key b
  has_around = ap (has_key cmp key) (around_block blocks i b here) ∙ has_middle cmp o key front rear a.before a.behind b

  -- a bound at a key that a block is around lies in it or beside it
  pub start_included : before_start cmp (Included key) (pairs_in blocks) ≡ pairs_before_block blocks i + before_start cmp (Included key) b
  start_included = ap (before_start cmp (Included key)) (around_block blocks i b here) ∙ bound_middle cmp o key false front b rear a.before a.behind

  pub start_excluded : before_start cmp (Excluded key) (pairs_in blocks) ≡ pairs_before_block blocks i + before_start cmp (Excluded key) b
  start_excluded = ap (before_start cmp (Excluded key)) (around_block blocks i b here) ∙ bound_middle cmp o key true front b rear a.before a.behind

  pub end_at_included : up_to_end cmp (Included key) (pairs_in blocks) ≡ pairs_before_block blocks i + up_to_end cmp (Included key) b
  end_at_included = end_included cmp key (pairs_in blocks) ∙ start_excluded ∙ ap (λ n. pairs_before_block blocks i + n) (sym (end_included cmp key b))

  pub end_at_excluded : up_to_end cmp (Excluded key) (pairs_in blocks) ≡ pairs_before_block blocks i + up_to_end cmp (Excluded key) b
  end_at_excluded = end_excluded cmp key (pairs_in blocks) ∙ start_included ∙ ap (λ n. pairs_before_block blocks i + n) (sym (end_excluded cmp key b))

  pub lesser_around : lesser cmp key (pairs_in blocks) ≡ pairs_before_block blocks i + lesser cmp key b
  lesser_around = sym (included_is cmp o key (pairs_in blocks)) ∙ start_included ∙ ap (λ n. pairs_before_block blocks i + n) (included_is cmp o key b)

module _ {K V : Type 0} (cmp : K → K → Ordering) (blocks : List (List (K × V))) (b : List (K × V)) where
  pub start_first : slice_get blocks 0 ≡ Some b → before_start cmp Unbounded (pairs_in blocks) ≡ pairs_before_block blocks 0 + before_start cmp Unbounded b
  start_first here = omega (arith, start_none cmp (pairs_in blocks), start_none cmp b)

  pub end_last : (i : ℕ) → slice_get blocks i ≡ Some b → length blocks ≤ i + 1 → up_to_end cmp Unbounded (pairs_in blocks) ≡ pairs_before_block blocks i + up_to_end cmp Unbounded b
  end_last i here h = end_none cmp (pairs_in blocks) ∙ sym (last_before_end blocks i b here h) ∙ ap (λ n. pairs_before_block blocks i + n) (sym (end_none cmp b))

-- the place that separators name for a key is one that the key is around
pub around_place : {K V : Type 0} (cmp : K → K → Ordering) (o : IsTotalOrder cmp) (key : K) (blocks : List (List (K × V))) (keys : List K) (place : ℕ) → IsOrdered cmp blocks keys → IsPlaceOf cmp key keys place → 0 < length blocks → IsBlockAround cmp key blocks place
around_place cmp o key blocks keys place h at some =
    let within = place_inside blocks keys place h.separated at.within some in
    let b = get_some blocks place within in
    record {
      within = within;
      before = front_below cmp o key blocks keys h.separated h.rising place b.0 at b.1;
      behind = back_above cmp o key blocks keys h.separated h.rising place b.0 at b.1;
    }
