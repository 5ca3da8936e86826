-- What rows hold, one behind the other.
use Rattle.std.proofs.Common.{◌≡◌, ℕ, zero, suc, ◌+◌, ◌-◌, ◌<◌, ◌≤◌, Some, List, [], ◌∷◌, ◌++◌, length, map, take, drop, get_or, slice_get, refl, sym, ap, ◌∙◌, arith, subst, append_assoc, append-nil, length-append}
use Rattle.std.specs.List.{All, flat_map}
use Rattle.std.proofs.lemmas.List.{drop_at, map-append, take_at}
use Rattle.std.proofs.lemmas.List.Elements.{All-head, All-tail, All-take}
use Rattle.std.proofs.lemmas.Option.{get_or_from_slice_get, slice_get_within}
use Rattle.tree_index.proofs.WayLemmas.{some_same}
use Rattle.version_views.specs.Cuts.{IsSeparated, pairs_in}
use Rattle.version_views.specs.Items.{row_keys, row_owners}
use Rattle.version_views.specs.Rows.{AreEnds, CutsInRows, IsInside, IsRow, IsRowed, count_in, end_of, place_at, row_part, start_of}
use Rattle.version_views.specs.declared.directory.Directory.{Directory}
use Rattle.version_views.specs.declared.directory.Spot.{Spot}
use Rattle.version_views.proofs.BlockLemmas.{take_all}
use Rattle.version_views.proofs.PlaceLemmas.{get_fore, get_rear}
use Rattle.version_views.proofs.SeparatorSearchLemmas.{get_some}

pub all_at : {X : Type 0} (P : X → Type 0) (xs : List X) (i : ℕ) (x : X) → All P xs → slice_get xs i ≡ Some x → P x
all_at P xs i x all here = subst P (get_or_from_slice_get xs i x x here) (all i x (slice_get_within xs i x here))

pub map-flat_map : {R X Y : Type 0} (f : X → Y) (g : R → List X) (rows : List R) → map f (flat_map g rows) ≡ flat_map (λ r. map f (g r)) rows
map-flat_map f g [] = refl
map-flat_map f g (r ∷ rs) = map-append f (g r) (flat_map g rs) ∙ ap (λ ys. map f (g r) ++ ys) (map-flat_map f g rs)

module _ {R X : Type 0} (f : R → List X) where
  -- how many lie before a row
  abbrev pub before_row : List R → ℕ → ℕ
  before_row rows i = length (flat_map f (take i rows))

  around_row : (rows : List R) (i : ℕ) (r : R) → slice_get rows i ≡ Some r → flat_map f rows ≡ flat_map f (take i rows) ++ (f r ++ flat_map f (drop (suc i) rows))
  around_row [] i r e = absurd (cc)
  around_row (s ∷ rows) zero r e = ap (λ z. f z ++ flat_map f rows) (some_same e)
  around_row (s ∷ rows) (suc i) r e = ap (λ z. f s ++ z) (around_row rows i r e) ∙ sym (append_assoc (f s) (flat_map f (take i rows)) (f r ++ flat_map f (drop (suc i) rows)))

  up_to_row : (rows : List R) (i : ℕ) (r : R) → slice_get rows i ≡ Some r → flat_map f (take (suc i) rows) ≡ flat_map f (take i rows) ++ f r
  up_to_row [] i r e = absurd (cc)
  up_to_row (s ∷ rows) zero r e = append-nil (f s) ∙ ap f (some_same e)
  up_to_row (s ∷ rows) (suc i) r e = ap (λ z. f s ++ z) (up_to_row rows i r e) ∙ sym (append_assoc (f s) (flat_map f (take i rows)) (f r))

  -- a row ends where the one behind it begins
  pub next_row : (rows : List R) (i : ℕ) (r : R) → slice_get rows i ≡ Some r → before_row rows (suc i) ≡ before_row rows i + length (f r)
  next_row rows i r e = ap length (up_to_row rows i r e) ∙ length-append (flat_map f (take i rows)) (f r)

  -- what stands at a place of a row
  pub got_in_row : (rows : List R) (i a : ℕ) (r : R) → slice_get rows i ≡ Some r → a < length (f r) → slice_get (flat_map f rows) (before_row rows i + a) ≡ slice_get (f r) a
  got_in_row rows i a r e h =
      let rest = flat_map f (drop (suc i) rows) in
      ap (λ xs. slice_get xs (before_row rows i + a)) (around_row rows i r e)
      ∙ get_rear (flat_map f (take i rows)) (f r ++ rest) (before_row rows i + a) a refl
      ∙ get_fore (f r) rest a h

  pub row_within : (rows : List R) (i : ℕ) (r : R) → slice_get rows i ≡ Some r → before_row rows i + length (f r) ≤ length (flat_map f rows)
  row_within rows i r e =
      let rest = flat_map f (drop (suc i) rows) in
      let long : length (flat_map f rows) ≡ before_row rows i + (length (f r) + length rest) = ap length (around_row rows i r e) ∙ length-append (flat_map f (take i rows)) (f r ++ rest) ∙ ap (λ n. before_row rows i + n) (length-append (f r) rest) in
      omega (arith, long)

  -- nothing lies behind the last row
  pub last_row : (rows : List R) (i : ℕ) (r : R) → slice_get rows i ≡ Some r → length rows ≤ suc i → before_row rows i + length (f r) ≡ length (flat_map f rows)
  last_row rows i r e h = sym (next_row rows i r e) ∙ ap (λ rs. length (flat_map f rs)) (take_all rows (suc i) h)

  -- rows that each hold something are at most as many as what they hold
  pub rows_fewer : (rows : List R) → All (λ r. 1 ≤ length (f r)) rows → length rows ≤ length (flat_map f rows)
  rows_fewer [] all = omega arith
  rows_fewer (r ∷ rs) all =
      let rest = rows_fewer rs (λ k d h. all (suc k) d (omega (arith, h))) in
      let first = all 0 r (omega arith) in
      let long = length-append (f r) (flat_map f rs) in
      omega (arith, rest, first, long)

  -- the ends say how many lie before a row
  pub start_is : (rows : List R) (ends : List ℕ) → AreEnds f rows ends → (i : ℕ) → i ≤ length rows → start_of ends i ≡ before_row rows i
  start_is rows ends e zero h = refl
  start_is rows ends e (suc i) h = e.each i (omega (arith, h))

  pub count_is : (rows : List R) (ends : List ℕ) → AreEnds f rows ends → count_in ends ≡ length (flat_map f rows)
  count_is rows ends e =
      let same = e.count in
      start_is rows ends e (length ends) (omega (arith, same)) ∙ ap (λ rs. length (flat_map f rs)) (take_all rows (length ends) (omega (arith, same)))

  module _ (rows : List R) (ends : List ℕ) (e : AreEnds f rows ends) (spot : Spot) (r : R) (here : slice_get rows spot.row ≡ Some r) where
    pub place_is : place_at ends spot ≡ before_row rows spot.row + spot.at
    place_is =
        let inside = slice_get_within rows spot.row r here in
        ap (λ n. n + spot.at) (start_is rows ends e spot.row (omega (arith, inside)))

    end_is : get_or ends spot.row 0 ≡ before_row rows spot.row + length (f r)
    end_is = e.each spot.row (slice_get_within rows spot.row r here) ∙ next_row rows spot.row r here

    -- a place inside is one of its row
    pub spot_within : IsInside ends spot → spot.at < length (f r)
    spot_within i = let at = i.at in omega (arith, at, place_is, end_is)

    pub spot_inside : spot.at < length (f r) → IsInside ends spot
    spot_inside h =
        let inside = slice_get_within rows spot.row r here in
        record { row = omega (arith, inside, e.count); at = omega (arith, h, place_is, end_is) }

    pub got_at : spot.at < length (f r) → slice_get (flat_map f rows) (place_at ends spot) ≡ slice_get (f r) spot.at
    got_at h = ap (slice_get (flat_map f rows)) place_is ∙ got_in_row rows spot.row spot.at r here h

map_alike : {X Y : Type 0} (f g : X → Y) (xs : List X) → All (λ x. f x ≡ g x) xs → map f xs ≡ map g xs
map_alike f g [] same = refl
map_alike f g (x ∷ xs) same = ap (λ y. y ∷ map f xs) (All-head (λ x. f x ≡ g x) x xs same) ∙ ap (λ ys. g x ∷ ys) (map_alike f g xs (All-tail (λ x. f x ≡ g x) x xs same))

pub flat_alike : {X Y : Type 0} (f g : X → List Y) (xs : List X) → All (λ x. f x ≡ g x) xs → flat_map f xs ≡ flat_map g xs
flat_alike f g [] same = refl
flat_alike f g (x ∷ xs) same = ap (λ y. y ++ flat_map f xs) (All-head (λ x. f x ≡ g x) x xs same) ∙ ap (λ ys. g x ++ ys) (flat_alike f g xs (All-tail (λ x. f x ≡ g x) x xs same))

-- rows that have the same blocks are rows alike
pub rowed_alike : {K V R : Type 0} (f g : R → List (List (K × V))) (d : Directory K R) → All (λ r. f r.segments ≡ g r.segments) d.rows.items → IsRowed f d → IsRowed g d
rowed_alike f g d same r = record {
  rows = λ k e h. subst (λ bs. IsRow bs (row_keys (get_or d.rows.items k e))) (same k e h) (r.rows k e h);
  separated = subst (λ bs. IsSeparated bs d.separators.items) (map_alike (λ r. pairs_in (f r.segments)) (λ r. pairs_in (g r.segments)) d.rows.items (λ k e h. ap pairs_in (same k e h))) r.separated;
  ends = record {
    count = r.ends.count;
    each = λ i h. r.ends.each i h ∙ ap length (flat_alike (row_owners f) (row_owners g) (take (suc i) d.rows.items) (All-take (λ r. f r.segments ≡ g r.segments) (suc i) d.rows.items same));
  };
}

-- a row of rows lies where their ends say
pub row_lies : {R X : Type 0} (f : R → List X) (rows : List R) (ends : List ℕ) → AreEnds f rows ends → (i : ℕ) (r : R) → slice_get rows i ≡ Some r → row_part ends i (flat_map f rows) ≡ f r
row_lies f rows ends e i r here =
    let within = slice_get_within rows i r here in
    let start = start_is f rows ends e i (omega (arith, within)) in
    let upto = e.each i within ∙ next_row f rows i r here in
    let size : end_of ends i - start_of ends i ≡ length (f r) = omega (arith, start, upto) in
    let rest = flat_map f (drop (suc i) rows) in
    ap (λ n. take n (drop (start_of ends i) (flat_map f rows))) size
    ∙ ap (λ n. take (length (f r)) (drop n (flat_map f rows))) start
    ∙ ap (λ xs. take (length (f r)) (drop (before_row f rows i) xs)) (around_row f rows i r here)
    ∙ ap (take (length (f r))) (drop_at (flat_map f (take i rows)) (f r ++ rest) (before_row f rows i) refl)
    ∙ take_at (f r) rest (length (f r)) refl
