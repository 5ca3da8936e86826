-- A version in rows: what a place in a row has, and where a key is sought.
use Rattle.std.proofs.Common.{◌≡◌, ℕ, zero, suc, ◌+◌, ◌*◌, ◌^◌, ◌<◌, ◌≤◌, Some, List, [], ◌∷◌, length, map, take, get_or, slice_get, refl, sym, ap, ◌∙◌, arith, subst}
use Rattle.std.specs.declared.cmp.Ordering.{Ordering}
use Rattle.std.specs.List.{All, flat_map}
use Rattle.std.proofs.lemmas.List.{length-map}
use Rattle.version_views.specs.Cuts.{greatest_key, pairs_in, separators_of}
use Rattle.version_views.specs.Items.{row_keys, row_owners, segment_owners}
use Rattle.version_views.specs.Rows.{AreEnds, IsInside, IsRow, count_in, place_at}
use Rattle.version_views.specs.SeparatorSearch.{IsPlaceOf}
use Rattle.version_views.specs.Views.{IsView, blocks_at}
use Rattle.version_views.specs.declared.directory.Directory.{Directory}
use Rattle.version_views.specs.declared.directory.Spot.{Spot}
use Rattle.version_views.specs.declared.row.Row.{Row}
use Rattle.version_views.proofs.BlockLemmas.{place_inside}
use Rattle.version_views.proofs.HalvingLemmas.{digits_hold, separators_fewer}
use Rattle.version_views.proofs.RowLemmas.{all_at, before_row, count_is, got_at, map-flat_map, place_is, rows_fewer, spot_inside, spot_within}
use Rattle.version_views.proofs.RowSearchLemmas.{at_within, flat_place, in_row, of_row}
use Rattle.version_views.proofs.SeparatorSearchLemmas.{get_some}
use Rattle.version_views.proofs.SlotLemmas.{slice_map}

module _ {K V R O : Type 0} {cmp : K → K → Ordering} {has_row : R → Type 0} {owners : R → List O} {has : O → Type 0} {pairs : O → List (K × V)} {d : Directory K R} (v : IsView cmp has_row owners has pairs d) where
  -- the blocks of a row
  abbrev row_blocks : Row K R → List (List (K × V))
  row_blocks r = map pairs (owners r.segments)

  -- the ends count the owners of rows as their blocks
  view_ends : AreEnds (row_owners owners) d.rows.items d.ends.items
  view_ends = record {
    count = v.rowed.ends.count;
    each = λ i h. v.rowed.ends.each i h ∙ ap length (sym (map-flat_map pairs (row_owners owners) (take (suc i) d.rows.items))) ∙ length-map (flat_map (row_owners owners) (take (suc i) d.rows.items)) pairs;
  }

  flat_blocks : flat_map row_blocks d.rows.items ≡ blocks_at owners pairs d
  flat_blocks = sym (map-flat_map pairs (row_owners owners) d.rows.items)

  flat_some : All (λ b. 1 ≤ length b) (flat_map row_blocks d.rows.items)
  flat_some = subst (λ bs. All (λ b. 1 ≤ length b) bs) (sym flat_blocks) v.rising.some

  -- as many segments as the ends say
  pub blocks_counted : count_in d.ends.items ≡ length (blocks_at owners pairs d)
  blocks_counted = count_is (row_owners owners) d.rows.items d.ends.items view_ends ∙ sym (length-map (segment_owners owners d) pairs)

  pub no_rows : length d.rows.items ≡ 0 → length (blocks_at owners pairs d) ≡ 0
  no_rows none = none_in d.rows.items none
    where
      none_in : (rows : List (Row K R)) → length rows ≡ 0 → length (map pairs (flat_map (row_owners owners) rows)) ≡ 0
      none_in [] h = omega arith
      none_in (r ∷ rs) h = absurd (omega (arith, h))

  rows_some : All (λ r. 1 ≤ length (owners r.segments)) d.rows.items
  rows_some = λ k e h. let fit = (v.rowed.rows k e h).some in let size = length-map (owners (get_or d.rows.items k e).segments) pairs in omega (arith, fit, size)

  pub rows_below : length d.rows.items ≤ length (blocks_at owners pairs d)
  rows_below =
      let fewer = rows_fewer (row_owners owners) d.rows.items rows_some in
      let size = length-map (segment_owners owners d) pairs in
      omega (arith, fewer, size)

  -- a place that a row has
  module _ (spot : Spot) (inside : IsInside d.ends.items spot) where
    pub row_there : spot.row < length d.rows.items
    row_there = let row = inside.row in let count = v.rowed.ends.count in omega (arith, row, count)

    module _ (r : Row K R) (here : slice_get d.rows.items spot.row ≡ Some r) where
      pub has_there : has_row r.segments
      has_there = all_at (λ r. has_row r.segments) d.rows.items spot.row r v.there here

      pub at_there : spot.at < length (owners r.segments)
      at_there = spot_within (row_owners owners) d.rows.items d.ends.items view_ends spot r here inside

      module _ (o : O) (there : slice_get (owners r.segments) spot.at ≡ Some o) where
        owner_there : slice_get (segment_owners owners d) (place_at d.ends.items spot) ≡ Some o
        owner_there = got_at (row_owners owners) d.rows.items d.ends.items view_ends spot r here at_there ∙ there

        pub segment_there : has o
        segment_there = all_at has (segment_owners owners d) (place_at d.ends.items spot) o v.segments owner_there

        pub block_there : slice_get (blocks_at owners pairs d) (place_at d.ends.items spot) ≡ Some (pairs o)
        block_there = slice_map pairs (segment_owners owners d) (place_at d.ends.items spot) o owner_there

      -- its greatest key, in its row or among those of the rows
      block_row : (b : List (K × V)) → slice_get (blocks_at owners pairs d) (place_at d.ends.items spot) ≡ Some b → slice_get (row_blocks r) spot.at ≡ Some b
      block_row b is =
          let o = get_some (owners r.segments) spot.at at_there in
          slice_map pairs (owners r.segments) spot.at o.0 o.1 ∙ sym (block_there o.0 o.1) ∙ is

      pub greatest_in_row : (b : List (K × V)) (k : K) → slice_get (blocks_at owners pairs d) (place_at d.ends.items spot) ≡ Some b → slice_get (row_keys r) spot.at ≡ Some k → greatest_key b ≡ Some k
      greatest_in_row b k is e = in_row row_blocks row_keys d.rows.items d.separators.items v.rowed.rows v.rowed.separated flat_some spot.row r here b k spot.at (block_row b is) e

      pub greatest_of_row : (b : List (K × V)) (k : K) → slice_get (blocks_at owners pairs d) (place_at d.ends.items spot) ≡ Some b → length (row_keys r) ≤ spot.at → slice_get d.separators.items spot.row ≡ Some k → greatest_key b ≡ Some k
      greatest_of_row b k is past e = of_row row_blocks row_keys d.rows.items d.separators.items v.rowed.rows v.rowed.separated flat_some spot.row r here b k spot.at (block_row b is) past e

  -- where a key is sought
  module _ (key : K) (row : ℕ) (found : IsPlaceOf cmp key d.separators.items row) (some : 0 < length (blocks_at owners pairs d)) where
    some_rows : 0 < length d.rows.items
    some_rows = positive (length d.rows.items) no_rows
      where
        positive : (n : ℕ) → (n ≡ 0 → length (blocks_at owners pairs d) ≡ 0) → 0 < n
        positive zero h = let none = h refl in absurd (omega (arith, none, some))
        positive (suc n) h = omega arith

    pub row_found : row < length d.rows.items
    row_found =
        let size = length-map d.rows.items (λ r. pairs_in (row_blocks r)) in
        let rows = some_rows in
        let within = place_inside (map (λ r. pairs_in (row_blocks r)) d.rows.items) d.separators.items row v.rowed.separated found.within (omega (arith, size, rows)) in
        omega (arith, size, within)

    module _ (r : Row K R) (here : slice_get d.rows.items row ≡ Some r) (at : ℕ) (inner : IsPlaceOf cmp key (row_keys r) at) where
      abbrev spot_found : Spot
      spot_found = record { row = row; at = at }

      at_found : at < length (owners r.segments)
      at_found =
          let size = length-map (owners r.segments) pairs in
          let within = at_within row_blocks row_keys d.rows.items d.separators.items v.rowed.rows v.rowed.separated flat_some cmp key row at r here found inner in
          omega (arith, size, within)

      pub found_inside : IsInside d.ends.items spot_found
      found_inside = spot_inside (row_owners owners) d.rows.items d.ends.items view_ends spot_found r here at_found

      pub found_place : IsPlaceOf cmp key (separators_of (blocks_at owners pairs d)) (place_at d.ends.items spot_found)
      found_place =
          let whole = flat_place row_blocks row_keys d.rows.items d.separators.items v.rowed.rows v.rowed.separated flat_some cmp key row at r here found inner in
          let size : before_row row_blocks d.rows.items row ≡ before_row (row_owners owners) d.rows.items row = ap length (sym (map-flat_map pairs (row_owners owners) (take row d.rows.items))) ∙ length-map (flat_map (row_owners owners) (take row d.rows.items)) pairs in
          let same : before_row row_blocks d.rows.items row + at ≡ place_at d.ends.items spot_found = ap (λ n. n + at) size ∙ sym (place_is (row_owners owners) d.rows.items d.ends.items view_ends spot_found r here) in
          subst (λ bs. IsPlaceOf cmp key (separators_of bs) (place_at d.ends.items spot_found)) flat_blocks (subst (IsPlaceOf cmp key (separators_of (flat_map row_blocks d.rows.items))) same whole)

      -- a comparison for each binary digit among the rows, and ten in one
      pub found_cost : (first second : ℕ) → 2 ^ first ≤ 2 * length d.separators.items + 1 → 2 ^ second ≤ 2 * length (row_keys r) + 1 → (digits : ℕ) → length (blocks_at owners pairs d) < 2 ^ digits → first + second ≤ 10 + digits
      found_cost first second one two digits fits =
          let size = length-map d.rows.items (λ r. pairs_in (row_blocks r)) in
          let rows = some_rows in
          let fewer = separators_fewer (map (λ r. pairs_in (row_blocks r)) d.rows.items) d.separators.items v.rowed.separated (omega (arith, size, rows)) in
          let below = rows_below in
          let outer = digits_hold first digits (length d.separators.items) (length d.rows.items) one (omega (arith, fewer, size)) (omega (arith, below, fits)) in
          let is = all_at (λ r. IsRow (row_blocks r) (row_keys r)) d.rows.items row r v.rowed.rows here in
          let few = is.few in
          let fit = is.some in
          let less = separators_fewer (row_blocks r) (row_keys r) is.separated (omega (arith, fit)) in
          let inner = digits_hold second 10 (length (row_keys r)) 1023 two (omega (arith, less, few)) (omega arith) in
          omega (arith, outer, inner)
