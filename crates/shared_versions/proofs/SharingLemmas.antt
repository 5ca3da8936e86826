-- Segments of an older version's row that another row shares.
use Rattle.std.proofs.Common.{◌≡◌, ◌≢◌, ℕ, zero, suc, ◌+◌, ◌-◌, ◌<◌, ◌≤◌, Some, List, length, map, take, drop, slice_get, get_or, refl, sym, ap, ◌∙◌, arith, subst, inl, inr}
use Rattle.std.proofs.lemmas.Bool.Decides.{eqb_tells}
use Rattle.std.proofs.lemmas.List.{drop-drop, drop-map, drop-take, length-drop, length-map, length-take, take-map, take-take}
use Rattle.std.specs.Global.{Global}
use Rattle.std.specs.declared.sync.Arc.{Arc}
use Rattle.tree_index.specs.Tree.{Tree}
use Rattle.version_views.specs.Items.{row_owners}
use Rattle.version_views.specs.Rows.{CutsInRows, IsInside, between, end_of, place_at, row_part, start_of}
use Rattle.version_views.specs.declared.directory.Directory.{Directory}
use Rattle.version_views.specs.declared.directory.Spot.{Spot}
use Rattle.version_views.specs.declared.row.Row.{Row}
use Rattle.version_views.proofs.RowLemmas.{row_lies}
use Rattle.version_views.proofs.RowSearchLemmas.{rows_cut}
use Rattle.version_views.proofs.SeparatorSearchLemmas.{get_some}
use Rattle.version_drafts.specs.Shelves.{IsWholeRow, LiesInRow}
use Rattle.version_drafts.proofs.ShelfLemmas.{row_read}
use Rattle.shared_versions.specs.Nodes.{IsReadable, blocks_of, row_blocks, row_segments, segment_pairs}
use Rattle.shared_versions.specs.declared.node.RowOwner.{RowOwner}
use Rattle.shared_versions.proofs.DirectoryLemmas.{blocks_are}

neither : (a b : ℕ) → (a < b → ⊥) → (b < a → ⊥) → a ≡ b
neither zero zero below above = refl
neither zero (suc b) below above = absurd (below (omega arith))
neither (suc a) zero below above = absurd (above (omega arith))
neither (suc a) (suc b) below above = ap suc (neither a b (λ lt. below (omega (arith, lt))) (λ lt. above (omega (arith, lt))))

-- what lies within a part of a list
part_of_part : {X : Type 0} (xs : List X) (s e from upto : ℕ) → s ≤ from → from ≤ upto → upto ≤ e → take (upto - from) (drop (from - s) (between s e xs)) ≡ between from upto xs
part_of_part xs s e from upto begins some stops =
    let long : (from - s) + (e - from) ≡ e - s = omega (arith, begins, some, stops) in
    let first : drop (from - s) (take (e - s) (drop s xs)) ≡ take (e - from) (drop (from - s) (drop s xs)) = ap (λ n. drop (from - s) (take n (drop s xs))) (sym long) ∙ drop-take (from - s) (e - from) (drop s xs) in
    let to : s + (from - s) ≡ from = omega (arith, begins) in
    let second : drop (from - s) (drop s xs) ≡ drop from xs = drop-drop (from - s) s xs ∙ ap (λ n. drop n xs) to in
    ap (take (upto - from)) (first ∙ ap (take (e - from)) second) ∙ take-take (upto - from) (e - from) (drop from xs) (omega (arith, some, stops))

module _ {K V : Type 0} (own : List (List (Arc (Tree K V) Global))) (d : Directory K (RowOwner K V)) (whole : IsReadable own d) where
  pub cut_in_rows : CutsInRows (blocks_of own d) d
  cut_in_rows = subst (λ bs. CutsInRows bs d) (sym (blocks_are own d)) (rows_cut (row_blocks own) d whole.rowed)

  abbrev ends : List ℕ
  ends = d.ends.items

  -- rows end one behind the other
  ends_rise : (a b : ℕ) → a ≤ b → b < length ends → end_of ends a ≤ end_of ends b
  ends_rise a zero le lt = let same : a ≡ 0 = omega (arith, le) in let is = ap (end_of ends) same in omega (arith, is)
  ends_rise a (suc b) le lt = elim (eqb_tells a (suc b)) [
    | inl same ↦ let is = ap (end_of ends) same.1 in omega (arith, is)
    | inr other ↦
        let ne = other.1 in
        let before = ends_rise a b (omega (arith, le, ne)) (omega (arith, lt)) in
        let up = cut_in_rows.rising (suc b) lt in
        omega (arith, before, up)
  ]

  row_below : (a b : ℕ) → a < b → b < length ends → end_of ends a ≤ start_of ends b
  row_below a zero lt inside = absurd (omega (arith, lt))
  row_below a (suc b) lt inside = ends_rise a b (omega (arith, lt)) (omega (arith, inside))

  -- a place lies in one row
  pub one_row : (place a b : ℕ) → a < length ends → start_of ends a ≤ place → place < end_of ends a → b < length ends → start_of ends b ≤ place → place < end_of ends b → a ≡ b
  one_row place a b a_in a_begins a_stops b_in b_begins b_stops =
      neither a b
      (λ lt. let x = row_below a b lt b_in in omega (arith, x, a_stops, b_begins))
      (λ lt. let x = row_below b a lt a_in in omega (arith, x, b_stops, a_begins))

  -- how many places lie up to the end of a row
  pub end_counted : (row : ℕ) → row < length ends → end_of ends row ≤ length (blocks_of own d)
  end_counted row inside = cut_in_rows.within row inside

  module _ (row : ℕ) (inside : row < length ends) (r : Row K (RowOwner K V)) (here : slice_get d.rows.items row ≡ Some r) where
    pub row_is : between (start_of ends row) (end_of ends row) (blocks_of own d) ≡ row_blocks own r.segments
    row_is = ap (λ bs. row_part ends row bs) (blocks_are own d) ∙ row_lies (row_owners (row_blocks own)) d.rows.items ends whole.rowed.ends row r here

    module _ (from upto : ℕ) (begins : start_of ends row ≤ from) (some : from ≤ upto) (stops : upto ≤ end_of ends row) where
      -- the row has as many segments
      pub part_within : (from - start_of ends row) + (upto - from) ≤ length (row_segments own r.segments)
      part_within =
          let long = ap length row_is in
          let all = length-map (row_segments own r.segments) segment_pairs in
          let within = end_counted row inside in
          let taken = length-take (end_of ends row - start_of ends row) (drop (start_of ends row) (blocks_of own d)) in
          let dropped = length-drop (start_of ends row) (blocks_of own d) in
          omega (arith, long, all, within, taken, dropped, begins, some, stops)

      pub part_pairs : map segment_pairs (take (upto - from) (drop (from - start_of ends row) (row_segments own r.segments))) ≡ between from upto (blocks_of own d)
      part_pairs =
          sym (take-map segment_pairs (upto - from) (drop (from - start_of ends row) (row_segments own r.segments)))
          ∙ ap (take (upto - from)) (sym (drop-map segment_pairs (from - start_of ends row) (row_segments own r.segments)))
          ∙ ap (λ bs. take (upto - from) (drop (from - start_of ends row) bs)) (sym row_is)
          ∙ part_of_part (blocks_of own d) (start_of ends row) (end_of ends row) from upto begins some stops

-- a row that is all of a stretch has its segments
pub whole_row : {K V : Type 0} (own : List (List (Arc (Tree K V) Global))) (d : Directory K (RowOwner K V)) → IsReadable own d → (row from upto : ℕ) → IsWholeRow d.ends.items row from upto → (r : Row K (RowOwner K V)) × (slice_get d.rows.items row ≡ Some r) × (row_blocks own r.segments ≡ between from upto (blocks_of own d))
whole_row own d whole row from upto lies =
    let count = (cut_in_rows own d whole).count in
    let inside = lies.inside in
    let one = get_some d.rows.items row (omega (arith, count, inside)) in
    (one.0, one.1, sym (row_is own d whole row inside one.0 one.1) ∙ sym (ap (λ n. between n (end_of d.ends.items row) (blocks_of own d)) lies.begins) ∙ sym (ap (λ n. between from n (blocks_of own d)) lies.stops))

-- a place was found in the row in which a stretch lies, and that row was read
module _ {K V : Type 0} (own : List (List (Arc (Tree K V) Global))) (d : Directory K (RowOwner K V)) (whole : IsReadable own d) (from upto : ℕ) (lies : LiesInRow d.ends.items from upto) (spot : Spot) (inside : IsInside d.ends.items spot) (place : place_at d.ends.items spot ≡ from) (rows : List (Row K (RowOwner K V))) (r : Row K (RowOwner K V)) (all : rows ≡ d.rows.items) (read : r ≡ get_or rows spot.row r) where
  same_row : lies.row ≡ spot.row
  same_row =
      let some = lies.some in
      let stops = lies.stops in
      let at = inside.at in
      one_row own d whole from lies.row spot.row lies.inside lies.begins (omega (arith, some, stops)) inside.row (omega (arith, place)) (omega (arith, place, at))

  row_here : slice_get d.rows.items spot.row ≡ Some r
  row_here = row_read (blocks_of own d) d (cut_in_rows own d whole) spot.row inside.row rows r all read

  starts : start_of d.ends.items spot.row ≤ from
  starts = omega (arith, place)

  ends_with : upto ≤ end_of d.ends.items spot.row
  ends_with = let stops = lies.stops in let is = ap (end_of d.ends.items) same_row in omega (arith, stops, is)

  at_is : spot.at ≡ from - start_of d.ends.items spot.row
  at_is = omega (arith, place)

  pub share_within : spot.at + (upto - from) ≤ length (row_segments own r.segments)
  share_within =
      let some = lies.some in
      let within = part_within own d whole spot.row inside.row r row_here from upto starts (omega (arith, some)) ends_with in
      omega (arith, within, at_is)

  pub share_pairs : map segment_pairs (take (upto - from) (drop spot.at (row_segments own r.segments))) ≡ between from upto (blocks_of own d)
  share_pairs =
      let some = lies.some in
      ap (λ n. map segment_pairs (take (upto - from) (drop n (row_segments own r.segments)))) at_is
      ∙ part_pairs own d whole spot.row inside.row r row_here from upto starts (omega (arith, some)) ends_with
