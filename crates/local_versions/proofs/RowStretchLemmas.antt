-- a stretch of a version that lies in one row of it
use Rattle.std.proofs.Common.{◌≡◌, ℕ, zero, suc, ◌+◌, ◌-◌, ◌<◌, ◌≤◌, Option, None, Some, List, [], ◌∷◌, ◌++◌, drop, get_or, length, take, slice_get, true, refl, sym, ap, ◌∙◌, arith, subst, inl, inr, length-append}
use Rattle.std.proofs.lemmas.Bool.{false≢true}
use Rattle.std.proofs.lemmas.Bool.Decides.{eqb_tells, leb_tells}
use Rattle.std.proofs.lemmas.Option.{slice_get_within}
use Rattle.std.specs.List.{flat_map}
use Rattle.sdd_world.specs.Groups.{name_of}
use Rattle.sdd_world.specs.Frame.{IsLive, has_owner}
use Rattle.sdd_world.specs.Place.{IsReadable}
use Rattle.sdd_world.specs.State.{State, status_at, value_at}
use Rattle.sdd_world.specs.declared.groups.Group.{Group}
use Rattle.sdd_world.specs.declared.status.Status.{Status}
use Rattle.sdd_world.specs.declared.status.Status.TheVariants as status
use Rattle.sdd_world.proofs.FrameLemmas.{live_used}
use Rattle.version_views.specs.Items.{row_owners, slots_in}
use Rattle.version_views.specs.Rows.{AreEnds, IsInside, count_in, end_of, place_at, start_of}
use Rattle.version_views.specs.declared.directory.Directory.{Directory}
use Rattle.version_views.specs.declared.directory.Spot.{Spot}
use Rattle.version_views.specs.declared.item.Item.{Item}
use Rattle.version_views.specs.declared.item.Item.TheVariants as items
use Rattle.version_views.specs.declared.row.Row.{Row}
use Rattle.version_views.proofs.RowLemmas.{count_is, next_row, place_is, start_is}
use Rattle.version_drafts.specs.Shelves.{LiesInRow}
use Rattle.local_versions.specs.Placing.{HasRows, IsStretch, IsThere, ends_at, ends_in_item, names_at, slots_at, slots_in_item}

front : {X : Type 0} (xs ys : List X) (at n : ℕ) → at + n ≤ length xs → take n (drop at (xs ++ ys)) ≡ take n (drop at xs)
front xs ys at zero h = refl
front [] ys at (suc n) h = absurd (omega (arith, h))
front (x ∷ xs) ys zero (suc n) h = ap (λ zs. x ∷ zs) (front xs ys zero n (omega (arith, h)))
front (x ∷ xs) ys (suc at) (suc n) h = front xs ys at (suc n) (omega (arith, h))

behind : {X : Type 0} (xs ys : List X) (m k : ℕ) → k ≡ length xs + m → drop k (xs ++ ys) ≡ drop m ys
behind [] ys m k e = let same : k ≡ m = omega (arith, e) in ap (λ j. drop j ys) same
behind (x ∷ xs) ys m zero e = absurd (omega (arith, e))
behind (x ∷ xs) ys m (suc k) e = behind xs ys m k (omega (arith, e))

-- what lies in one of the rows is what lies there in that row
pub in_one_row : {R X : Type 0} (f : R → List X) (rows : List R) (k at n from : ℕ) (r : R) → slice_get rows k ≡ Some r → from ≡ length (flat_map f (take k rows)) + at → at + n ≤ length (f r) → take n (drop from (flat_map f rows)) ≡ take n (drop at (f r))
in_one_row f [] k at n from r is e h = absurd (cc)
in_one_row f (q ∷ rows) zero at n from r is e h =
    let here : q ≡ r = same_of q r is in
    let long = ap (λ x. length (f x)) here in
    let same : from ≡ at = omega (arith, e) in
    ap (λ j. take n (drop j (f q ++ flat_map f rows))) same ∙ front (f q) (flat_map f rows) at n (omega (arith, h, long)) ∙ ap (λ x. take n (drop at (f x))) here
  where
    same_of : {Y : Type 0} (x y : Y) → Some x ≡ Some y → x ≡ y
    same_of x y e = cc
in_one_row f (q ∷ rows) (suc k) at n from r is e h =
    let before = flat_map f (take k rows) in
    let long = length-append (f q) before in
    ap (take n) (behind (f q) (flat_map f rows) (length before + at) from (omega (arith, e, long)))
    ∙ in_one_row f rows k at n (length before + at) r is refl h

module _ {R X : Type 0} (f : R → List X) where
  before_rises : (rows : List R) (i j : ℕ) → i ≤ j → length (flat_map f (take i rows)) ≤ length (flat_map f (take j rows))
  before_rises rows zero j h = omega arith
  before_rises [] (suc i) j h = omega arith
  before_rises (r ∷ rows) (suc i) zero h = absurd (omega (arith, h))
  before_rises (r ∷ rows) (suc i) (suc j) h =
      let rest = before_rises rows i j (omega (arith, h)) in
      let one = length-append (f r) (flat_map f (take i rows)) in
      let more = length-append (f r) (flat_map f (take j rows)) in
      omega (arith, rest, one, more)

  -- a place lies in one row alone
  same_row : (rows : List R) (ends : List ℕ) → AreEnds f rows ends → (a b place : ℕ) → a < length rows → b < length rows → start_of ends a ≤ place → place < end_of ends a → start_of ends b ≤ place → place < end_of ends b → a ≡ b
  same_row rows ends e a b place ina inb sa ea sb eb =
      let starta = start_is f rows ends e a (omega (arith, ina)) in
      let startb = start_is f rows ends e b (omega (arith, inb)) in
      let enda = e.each a ina in
      let endb = e.each b inb in
      elim (eqb_tells a b) [
        | inl t ↦ t.1
        | inr t ↦
            let apart = t.1 in
            absurd (elim (leb_tells a b) [
              | inl t ↦ (let le = t.1 in let up = before_rises rows (suc a) b (omega (arith, le, apart)) in omega (arith, up, enda, startb, sb, ea))
              | inr t ↦ (let lt = t.1 in let up = before_rises rows (suc b) a (omega (arith, lt)) in omega (arith, up, endb, starta, sa, eb))
            ])
      ]

-- what an index reads
pub read_at : {X : Type 0} (xs : List X) (k : ℕ) (x : X) → k < length xs → x ≡ get_or xs k x → slice_get xs k ≡ Some x
read_at [] k x h e = absurd (omega (arith, h))
read_at (y ∷ xs) zero x h e = ap (λ z. Some z) (sym e)
read_at (y ∷ xs) (suc k) x h e = read_at xs k x (omega (arith, h)) e

live_inside : (ss : List Status) (i : ℕ) → has_owner (get_or ss i status.Free) ≡ true → i < length ss
live_inside [] i e = absurd (false≢true e)
live_inside (x ∷ ss) zero e = omega arith
live_inside (x ∷ ss) (suc i) e = let r = live_inside ss i e in omega (arith, r)

-- what has an owner can be read
pub live_readable : {T : Type 0} (w : State T) (o : Option ℕ) (i : ℕ) → o ≡ Some i → IsLive w i → IsReadable w o
live_readable w o i is live =
    subst (λ x. IsReadable w x) (sym is) (live_inside w.states i live, live_used (status_at w i) live)

module _ {K V : Type 0} {s : ℕ} (w : State (Item K V s)) where
  -- a version that has a row, or a segment, is there
  pub there_by_row : (o : Option ℕ) (k : ℕ) → HasRows w o → k < length (names_at w o) → (i : ℕ) × (o ≡ Some i) × IsThere w i
  there_by_row None k there h = absurd (omega (arith, h))
  there_by_row (Some i) k there h = (i, refl, there)

  pub there_by_place : (o : Option ℕ) (k : ℕ) → HasRows w o → k < length (slots_at w o) → (i : ℕ) × (o ≡ Some i) × IsThere w i
  there_by_place None k there h = absurd (omega (arith, h))
  there_by_place (Some i) k there h = (i, refl, there)

  same_directory : (o : Option (Item K V s)) (d e : Directory K Group) → o ≡ Some (items.Directory d) → o ≡ Some (items.Directory e) → d ≡ e
  same_directory o d e h k = cc

  -- the ends of a directory that is there are those of its rows
  pub ends_there : (i : ℕ) (d : Directory K Group) → IsThere w i → value_at w i ≡ Some (items.Directory d) → AreEnds (row_owners (slots_in w.groups)) d.rows.items d.ends.items
  ends_there i d h is = subst (λ (e : Directory K Group). AreEnds (row_owners (slots_in w.groups)) e.rows.items e.ends.items) (same_directory (value_at w i) h.directory d h.is is) h.ends

  -- and count its slots
  pub place_counted : (o : Option ℕ) (i : ℕ) (d : Directory K Group) (place : ℕ) → o ≡ Some i → IsThere w i → value_at w i ≡ Some (items.Directory d) → place < length (slots_at w o) → place < count_in d.ends.items
  place_counted o i d place e h is inside =
      let count = count_is (row_owners (slots_in w.groups)) d.rows.items d.ends.items (ends_there i d h is) in
      let slots = ap (λ x. length (slots_at w x)) e in
      let long = ap (λ x. length (slots_in_item w.groups x)) is in
      omega (arith, inside, count, slots, long)

  -- a stretch from a place on lies in the row that has the place
  module _ (i : ℕ) (d : Directory K Group) (is : value_at w i ≡ Some (items.Directory d)) (e : AreEnds (row_owners (slots_in w.groups)) d.rows.items d.ends.items) (spot : Spot) (inside : IsInside d.ends.items spot) (place : ℕ) (at : place_at d.ends.items spot ≡ place) (r : Row K Group) (here : slice_get d.rows.items spot.row ≡ Some r) (upto : ℕ) (lies : LiesInRow d.ends.items place upto) where
    abbrev owners : Row K Group → List ℕ
    owners = row_owners (slots_in w.groups)

    abbrev rows : List (Row K Group)
    rows = d.rows.items

    abbrev ends : List ℕ
    ends = d.ends.items

    within : spot.row < length rows
    within = slice_get_within rows spot.row r here

    row_is : spot.row ≡ lies.row
    row_is =
        let long = e.count in
        let row = lies.inside in
        let some = lies.some in
        let stops = lies.stops in
        let less = inside.at in
        same_row owners rows ends e spot.row lies.row place within (omega (arith, row, long)) (omega (arith, at)) (omega (arith, at, less)) lies.begins (omega (arith, some, stops))

    begins : place ≡ length (flat_map owners (take spot.row rows)) + spot.at
    begins = sym at ∙ place_is owners rows ends e spot r here

    fits : spot.at + (upto - place) ≤ length (owners r)
    fits =
        let stops : upto ≤ end_of ends spot.row = subst (λ k. upto ≤ end_of ends k) (sym row_is) lies.stops in
        let stop = e.each spot.row within ∙ next_row owners rows spot.row r here in
        let some = lies.some in
        let start = begins in
        omega (arith, stops, stop, some, start)

    pub stretch_in_row : IsStretch w (Some i) (name_of r.segments) spot.at place upto
    stretch_in_row =
        let size : (spot.at + (upto - place)) - spot.at ≡ upto - place = omega arith in
        record {
          within = fits;
          slots =
              ap (λ n. take n (drop spot.at (owners r))) size
              ∙ sym (in_one_row owners rows spot.row spot.at (upto - place) place r here begins fits)
              ∙ sym (ap (λ o. take (upto - place) (drop place (slots_in_item w.groups o))) is);
        }

  -- so of a version that is there
  pub stretch_there_is : (o : Option ℕ) (i : ℕ) (d : Directory K Group) → o ≡ Some i → IsThere w i → (is : value_at w i ≡ Some (items.Directory d)) (spot : Spot) → IsInside d.ends.items spot → (place : ℕ) → place_at d.ends.items spot ≡ place → (r : Row K Group) → slice_get d.rows.items spot.row ≡ Some r → (upto : ℕ) → LiesInRow (ends_at w o) place upto → IsStretch w o (name_of r.segments) spot.at place upto
  stretch_there_is o i d e h is spot inside place at r here upto lies =
      let ends : ends_at w o ≡ d.ends.items = ap (ends_at w) e ∙ ap ends_in_item is in
      let lies' = subst (λ es. LiesInRow es place upto) ends lies in
      subst (λ x. IsStretch w x (name_of r.segments) spot.at place upto) (sym e) (stretch_in_row i d is (ends_there i d h is) spot inside place at r here upto lies')
