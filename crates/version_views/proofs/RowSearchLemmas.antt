-- A key that is sought among rows, and then in one.
use Rattle.std.proofs.Common.{◌≡◌, ◌≢◌, ℕ, zero, suc, ◌+◌, ◌-◌, ◌<◌, ◌≤◌, ◌++◌, Option, None, Some, List, [], ◌∷◌, length, map, take, slice_get, refl, sym, ap, ◌∙◌, arith, subst, inl, inr, length-append}
use Rattle.std.specs.declared.cmp.Ordering.{Ordering}
use Rattle.std.specs.declared.cmp.Ordering.TheVariants.{Less}
use Rattle.std.specs.Cmp.{IsTotalOrder}
use Rattle.std.specs.List.{All, filter_map, flat_map}
use Rattle.std.specs.Option.{option_map}
use Rattle.std.proofs.lemmas.List.{length-map, length-take}
use Rattle.std.proofs.lemmas.Option.{slice_get_within}
use Rattle.tree_index.proofs.WayLemmas.{some_same}
use Rattle.version_views.specs.Cuts.{IsSeparated, greatest_key, pairs_in, separators_of}
use Rattle.version_views.specs.CursorEnds.{AreRising, IsBlockAround}
use Rattle.version_views.specs.Items.{row_keys, row_owners}
use Rattle.version_views.specs.Rows.{CutsInRows, IsRow, IsRowed}
use Rattle.version_views.specs.SeparatorSearch.{IsPlaceOf}
use Rattle.version_views.specs.declared.directory.Directory.{Directory}
use Rattle.version_views.specs.declared.row.Row.{Row}
use Rattle.version_views.proofs.BlockLemmas.{place_inside, take_all}
use Rattle.version_views.proofs.PlaceLemmas.{around_place, get_rear}
use Rattle.version_views.proofs.RowLemmas.{all_at, before_row, count_is, got_in_row, last_row, next_row, row_lies, row_within, start_is}
use Rattle.version_views.proofs.SeparatorSearchLemmas.{get_some, le_or, separator_at, up_to_block}
use Rattle.version_views.proofs.SlotLemmas.{slice_map}

module _ {K V : Type 0} where
  -- a block of pairs has a greatest key
  pub known : (b : List (K × V)) → 1 ≤ length b → (k : K) × (greatest_key b ≡ Some k)
  known b h = let p = get_some b (length b - 1) (omega (arith, h)) in (p.0.0, ap (option_map (λ (q : K × V). q.0)) p.1)

  -- all blocks but the last are separated by their greatest keys
  all_greatest : (bs : List (List (K × V))) (n : ℕ) → All (λ b. 1 ≤ length b) bs → map Some (filter_map greatest_key (take n bs)) ≡ map greatest_key (take n bs)
  all_greatest [] zero all = refl
  all_greatest [] (suc n) all = refl
  all_greatest (b ∷ bs) zero all = refl
  all_greatest (b ∷ bs) (suc n) all =
      let k = known b (all 0 b (omega arith)) in
      rw k.1 (ap (λ xs. Some k.0 ∷ xs) (all_greatest bs n (λ i d h. all (suc i) d (omega (arith, h)))))

  pub are_separated : (blocks : List (List (K × V))) → All (λ b. 1 ≤ length b) blocks → IsSeparated blocks (separators_of blocks)
  are_separated blocks all = all_greatest blocks (length blocks - 1) all

  pub keys_count : (blocks : List (List (K × V))) (keys : List K) → IsSeparated blocks keys → length keys ≡ length blocks - 1
  keys_count blocks keys sep =
      let size = sym (length-map keys Some) ∙ ap length sep ∙ length-map (take (length blocks - 1) blocks) greatest_key in
      let taken = length-take (length blocks - 1) blocks in
      omega (arith, size, taken)

  module _ (blocks : List (List (K × V))) (keys : List K) (sep : IsSeparated blocks keys) (i : ℕ) (b : List (K × V)) (here : slice_get blocks i ≡ Some b) (k : K) where
    named : (o : Option K) → option_map Some o ≡ Some (Some k) → o ≡ Some k
    named None e = absurd (cc)
    named (Some x) e = cc

    -- the separator at a place and the greatest key of the block there are the same
    pub key_told : i + 1 < length blocks → greatest_key b ≡ Some k → slice_get keys i ≡ Some k
    key_told h great = named (slice_get keys i) (separator_at blocks keys i sep h ∙ ap (option_map greatest_key) here ∙ ap Some great)

    pub key_inside : slice_get keys i ≡ Some k → i + 1 < length blocks
    key_inside e = let at = slice_get_within keys i k e in let count = keys_count blocks keys sep in omega (arith, at, count)

    pub key_great : slice_get keys i ≡ Some k → greatest_key b ≡ Some k
    key_great e = some_same (sym (ap (option_map greatest_key) here) ∙ sym (separator_at blocks keys i sep (key_inside e)) ∙ ap (option_map Some) e)

  -- the greatest key of blocks is that of the last one
  pub greatest_last : (bs : List (List (K × V))) (b : List (K × V)) → slice_get bs (length bs - 1) ≡ Some b → 1 ≤ length b → greatest_key (pairs_in bs) ≡ greatest_key b
  greatest_last bs b e h =
      let front = pairs_in (take (length bs - 1) bs) in
      let whole : pairs_in bs ≡ front ++ b = ap pairs_in (sym (take_all bs (suc (length bs - 1)) (omega arith))) ∙ up_to_block bs (length bs - 1) b e in
      let long = length-append front b in
      let last : length (front ++ b) - 1 ≡ length front + (length b - 1) = omega (arith, long, h) in
      ap greatest_key whole ∙ ap (option_map (λ (q : K × V). q.0)) (get_rear front b (length (front ++ b) - 1) (length b - 1) last)

module _ {R K V : Type 0} (blocks : R → List (List (K × V))) (keys : R → List K) (rows : List R) (separators : List K) (each : All (λ r. IsRow (blocks r) (keys r)) rows) (separated : IsSeparated (map (λ r. pairs_in (blocks r)) rows) separators) (some : All (λ b. 1 ≤ length b) (flat_map blocks rows)) where
  -- a row of rows is one
  is_row : (i : ℕ) (r : R) → slice_get rows i ≡ Some r → IsRow (blocks r) (keys r)
  is_row i r here = all_at (λ r. IsRow (blocks r) (keys r)) rows i r each here

  block_in : (i a : ℕ) (r : R) (b : List (K × V)) → slice_get rows i ≡ Some r → slice_get (blocks r) a ≡ Some b → slice_get (flat_map blocks rows) (before_row blocks rows i + a) ≡ Some b
  block_in i a r b here there = got_in_row blocks rows i a r here (slice_get_within (blocks r) a b there) ∙ there

  module _ (i : ℕ) (r : R) (here : slice_get rows i ≡ Some r) (b : List (K × V)) (k : K) where
    -- a row's greatest key is that of its last block
    row_great : slice_get (blocks r) (length (blocks r) - 1) ≡ Some b → greatest_key (pairs_in (blocks r)) ≡ greatest_key b
    row_great there = greatest_last (blocks r) b there (all_at (λ b. 1 ≤ length b) (flat_map blocks rows) (before_row blocks rows i + (length (blocks r) - 1)) b some (block_in i (length (blocks r) - 1) r b here there))

    row_key : i + 1 < length rows → slice_get (blocks r) (length (blocks r) - 1) ≡ Some b → greatest_key b ≡ Some k → slice_get separators i ≡ Some k
    row_key more there great =
        let size = length-map rows (λ r. pairs_in (blocks r)) in
        key_told (map (λ r. pairs_in (blocks r)) rows) separators separated i (pairs_in (blocks r)) (slice_map (λ r. pairs_in (blocks r)) rows i r here) k (omega (arith, more, size)) (row_great there ∙ great)

    -- a key of the row, or of the directory where the block is the row's last one, is the block's greatest
    pub in_row : (a : ℕ) → slice_get (blocks r) a ≡ Some b → slice_get (keys r) a ≡ Some k → greatest_key b ≡ Some k
    in_row a there = key_great (blocks r) (keys r) (is_row i r here).separated a b there k

    pub of_row : (a : ℕ) → slice_get (blocks r) a ≡ Some b → length (keys r) ≤ a → slice_get separators i ≡ Some k → greatest_key b ≡ Some k
    of_row a there past e =
        let inside = slice_get_within (blocks r) a b there in
        let count = keys_count (blocks r) (keys r) (is_row i r here).separated in
        let last : a ≡ length (blocks r) - 1 = omega (arith, inside, count, past) in
        sym (row_great (sym (ap (slice_get (blocks r)) last) ∙ there))
        ∙ key_great (map (λ r. pairs_in (blocks r)) rows) separators separated i (pairs_in (blocks r)) (slice_map (λ r. pairs_in (blocks r)) rows i r here) k e

  module _ (cmp : K → K → Ordering) (key : K) (i at : ℕ) (r : R) (here : slice_get rows i ≡ Some r) (row : IsPlaceOf cmp key separators i) (inner : IsPlaceOf cmp key (keys r) at) where
    pub at_within : at < length (blocks r)
    at_within = let is = is_row i r here in let fit = is.some in place_inside (blocks r) (keys r) at is.separated inner.within (omega (arith, fit))

    great_at : (j : ℕ) (b : List (K × V)) (k : K) → slice_get (flat_map blocks rows) j ≡ Some b → slice_get (separators_of (flat_map blocks rows)) j ≡ Some k → greatest_key b ≡ Some k
    great_at j b k there = key_great (flat_map blocks rows) (separators_of (flat_map blocks rows)) (are_separated (flat_map blocks rows) some) j b there k

    before_inner : (a j : ℕ) (k : K) → at ≡ suc a → j + 1 ≡ before_row blocks rows i + at → slice_get (separators_of (flat_map blocks rows)) j ≡ Some k → cmp k key ≡ Less
    before_inner a j k is e h =
        let within = at_within in
        let b = get_some (blocks r) a (omega (arith, within, is)) in
        let same : before_row blocks rows i + a ≡ j = omega (arith, is, e) in
        let there = subst (λ n. slice_get (flat_map blocks rows) n ≡ Some b.0) same (block_in i a r b.0 here b.1) in
        let great = great_at j b.0 k there h in
        inner.before a k (omega (arith, is)) (key_told (blocks r) (keys r) (is_row i r here).separated a b.0 b.1 k (omega (arith, within, is)) great)

    before_row_key : (i' j : ℕ) (k : K) → i ≡ suc i' → j + 1 ≡ before_row blocks rows i → slice_get (separators_of (flat_map blocks rows)) j ≡ Some k → cmp k key ≡ Less
    before_row_key i' j k is e h =
        let within = slice_get_within rows i r here in
        let q = get_some rows i' (omega (arith, within, is)) in
        let fit = (is_row i' q.0 q.1).some in
        let b = get_some (blocks q.0) (length (blocks q.0) - 1) (omega (arith, fit)) in
        let next = ap (before_row blocks rows) is ∙ next_row blocks rows i' q.0 q.1 in
        let same : before_row blocks rows i' + (length (blocks q.0) - 1) ≡ j = omega (arith, next, e, fit) in
        let there = subst (λ n. slice_get (flat_map blocks rows) n ≡ Some b.0) same (block_in i' (length (blocks q.0) - 1) q.0 b.0 q.1 b.1) in
        row.before i' k (omega (arith, is)) (row_key i' q.0 q.1 b.0 k (omega (arith, within, is)) b.1 (great_at j b.0 k there h))

    before_key : (i' a j : ℕ) (k : K) → i ≡ i' → at ≡ a → j + 1 ≡ before_row blocks rows i + at → slice_get (separators_of (flat_map blocks rows)) j ≡ Some k → cmp k key ≡ Less
    before_key i' (suc a) j k first is e h = before_inner a j k is e h
    before_key zero zero j k first is e h = let none = ap (before_row blocks rows) first in absurd (omega (arith, none, is, e))
    before_key (suc i') zero j k first is e h = before_row_key i' j k first (omega (arith, is, e)) h

    behind_key : (k : K) → slice_get (separators_of (flat_map blocks rows)) (before_row blocks rows i + at) ≡ Some k → cmp k key ≢ Less
    behind_key k h =
        let within = at_within in
        let b = get_some (blocks r) at within in
        let there = block_in i at r b.0 here b.1 in
        let great = great_at (before_row blocks rows i + at) b.0 k there h in
        let more = key_inside (flat_map blocks rows) (separators_of (flat_map blocks rows)) (are_separated (flat_map blocks rows) some) (before_row blocks rows i + at) b.0 there k h in
        elim (le_or at (length (blocks r))) [
          | inr inside ↦ inner.behind k (key_told (blocks r) (keys r) (is_row i r here).separated at b.0 b.1 k inside great)
          | inl last ↦
              let is : at ≡ length (blocks r) - 1 = omega (arith, within, last) in
              elim (le_or i (length rows)) [
                | inr rest ↦ row.behind k (row_key i r here b.0 k rest (sym (ap (slice_get (blocks r)) is) ∙ b.1) great)
                | inl all ↦ let whole = last_row blocks rows i r here all in absurd (omega (arith, whole, more, last))
              ]
        ]

    -- a place in a row that rows and then its keys name is the one that all keys name
    pub flat_place : IsPlaceOf cmp key (separators_of (flat_map blocks rows)) (before_row blocks rows i + at)
    flat_place =
        let count = keys_count (flat_map blocks rows) (separators_of (flat_map blocks rows)) (are_separated (flat_map blocks rows) some) in
        let long = row_within blocks rows i r here in
        let within = at_within in
        record {
          within = omega (arith, count, long, within);
          before = λ j k e h. before_key i at j k refl refl e h;
          behind = λ k h. behind_key k h;
        }

-- the place that all greatest keys name is one that the key is around
pub around_rising : {K V : Type 0} (cmp : K → K → Ordering) (o : IsTotalOrder cmp) (key : K) (blocks : List (List (K × V))) (place : ℕ) → AreRising cmp blocks → IsPlaceOf cmp key (separators_of blocks) place → 0 < length blocks → IsBlockAround cmp key blocks place
around_rising cmp o key blocks place up at some = around_place cmp o key blocks (separators_of blocks) place (record { some = up.some; rising = up.rising; separated = are_separated blocks up.some }) at some

-- the ends of a directory in rows cut its blocks
pub rows_cut : {K V R : Type 0} (blocks : R → List (List (K × V))) (d : Directory K R) → IsRowed blocks d → CutsInRows (flat_map (row_owners blocks) d.rows.items) d
rows_cut {K = K} {V = V} {R = R} blocks d v =
    let f = row_owners blocks in
    let rows = d.rows.items in
    let ends = d.ends.items in
    record {
      count = v.ends.count;
      upto = count_is f rows ends v.ends;
      rising = λ i h.
          let r = get_some rows i (omega (arith, h, v.ends.count)) in
          let within = slice_get_within rows i r.0 r.1 in
          let start = start_is f rows ends v.ends i (omega (arith, within)) in
          let upto = v.ends.each i within ∙ next_row f rows i r.0 r.1 in
          let is = all_at (λ r. IsRow (blocks r.segments) (row_keys r)) rows i r.0 v.rows r.1 in
          let some = is.some in
          omega (arith, start, upto, some);
      within = λ i h.
          let r = get_some rows i (omega (arith, h, v.ends.count)) in
          let within = slice_get_within rows i r.0 r.1 in
          let upto = v.ends.each i within ∙ next_row f rows i r.0 r.1 in
          let all = row_within f rows i r.0 r.1 in
          omega (arith, upto, all);
      rows = λ i r here. subst (λ bs. IsRow bs (row_keys r)) (sym (row_lies f rows ends v.ends i r here)) (all_at (λ r. IsRow (blocks r.segments) (row_keys r)) rows i r v.rows here);
      greatest = λ i k told.
          let list : Row K R → List (K × V) = λ r. pairs_in (blocks r.segments) in
          let lists = map list rows in
          let count = keys_count lists d.separators.items v.separated in
          let at = slice_get_within d.separators.items i k told in
          let size = length-map rows list in
          let r = get_some rows i (omega (arith, count, at, size)) in
          let great = key_great lists d.separators.items v.separated i (list r.0) (slice_map list rows i r.0 r.1) k told in
          subst (λ bs. greatest_key (pairs_in bs) ≡ Some k) (sym (row_lies f rows ends v.ends i r.0 r.1)) great;
    }
