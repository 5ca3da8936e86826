-- A row of the older version is taken over by one count.
use Rattle.std.proofs.Common.{◌≡◌, ℕ, zero, suc, ◌<◌, ◌-◌, Option, None, Some, List, [], ◌∷◌, drop, get_or, length, map, slice_get, sym, ap, ◌∙◌, arith, subst}
use Rattle.std.proofs.lemmas.List.{length-map}
use Rattle.std.proofs.lemmas.List.Elements.{All-drop, All-take}
use Rattle.std.specs.List.{All, flat_map}
use Rattle.std.specs.declared.cmp.Ordering.{Ordering}
use Rattle.sdd_world.specs.Frame.{Frame, has_owner}
use Rattle.sdd_world.specs.Groups.{IsOut, more_owned, name_of, row_at}
use Rattle.sdd_world.specs.State.{State, value_at, with_groups}
use Rattle.sdd_world.specs.declared.groups.Group.{Group}
use Rattle.tree_index.proofs.WayLemmas.{some_same}
use Rattle.version_views.specs.Items.{names_of, row_owners, slots_in}
use Rattle.version_views.specs.Rows.{AreEnds, between, start_of}
use Rattle.version_views.specs.Versions.{segment_pairs}
use Rattle.version_views.specs.declared.directory.Directory.{Directory}
use Rattle.version_views.specs.declared.item.Item.{Item}
use Rattle.version_views.specs.declared.item.Item.TheVariants as items
use Rattle.version_views.specs.declared.row.Row.{Row}
use Rattle.version_views.proofs.RowLemmas.{row_lies}
use Rattle.version_views.proofs.SeparatorSearchLemmas.{get_some}
use Rattle.version_drafts.specs.Shelves.{IsWholeRow}
use Rattle.version_drafts.proofs.StretchLemmas.{between_map}
use Rattle.local_versions.specs.Placing.{CanRaise, IsOlder, IsTakeable, StandsOn, blocks_at, ends_in_item, names_at, names_in_item, slots_at, slots_in_item}
use Rattle.local_versions.proofs.PlaceableRowLemmas.{are_ends}
use Rattle.local_versions.proofs.RowPlacingLemmas.{raised_stands}
use Rattle.local_versions.proofs.RowStretchLemmas.{read_at}

-- the name of a row
pub name_at : {K : Type 0} (rows : List (Row K Group)) (k : ℕ) (r : Row K Group) → slice_get rows k ≡ Some r → get_or (names_of rows) k 0 ≡ name_of r.segments
name_at [] k r e = absurd (cc)
name_at (q ∷ rows) zero r e = ap (λ (x : Row _ Group). name_of x.segments) (some_same e)
name_at (q ∷ rows) (suc k) r e = name_at rows k r e

-- a row of a version that is there, by its place and by its name
module _ {K V : Type 0} {s : ℕ} (w : State (Item K V s)) (o : Option ℕ) (i : ℕ) (d : Directory K Group) (row : ℕ) where
  pub row_counted : o ≡ Some i → value_at w i ≡ Some (items.Directory d) → row < length (names_at w o) → row < length d.rows.items
  row_counted e is inside =
      let at = ap (λ x. length (names_at w x)) e in
      let names = ap (λ x. length (names_in_item x)) is in
      let many = length-map d.rows.items (λ (r : Row K Group). name_of r.segments) in
      omega (arith, inside, at, names, many)

module _ {K V : Type 0} {s : ℕ} (w : State (Item K V s)) (o : Option ℕ) (i : ℕ) (d : Directory K Group) (row : ℕ) (r : Row K Group) where
  pub row_named : o ≡ Some i → value_at w i ≡ Some (items.Directory d) → row < length (names_at w o) → r ≡ get_or d.rows.items row r → get_or (names_at w o) row 0 ≡ name_of r.segments
  row_named e is inside read =
      ap (λ x. get_or (names_at w x) row 0) e
      ∙ ap (λ x. get_or (names_in_item x) row 0) is
      ∙ name_at d.rows.items row r (read_at d.rows.items row r (row_counted w o i d row e is inside) read)

module _ {K V : Type 0} {s : ℕ} (cmp : K → K → Ordering) (u : State (Item K V s)) where
  -- a row that can be taken over is one of a version that is there
  pub row_inside : (older : Option ℕ) (row from upto : ℕ) → CanRaise cmp u older row from upto → row < length (names_at u older)
  row_inside None row from upto can = let inside = can.whole.inside in absurd (omega (arith, inside))
  row_inside (Some i) row from upto can =
      let o : IsOlder cmp u i = can.there in
      let inside = can.whole.inside in
      let ends = ap (λ x. length (ends_in_item x)) o.is in
      let count = o.whole.rowed.ends.count in
      let names = ap (λ x. length (names_in_item x)) o.is in
      let many = length-map o.directory.rows.items (λ r. name_of r.segments) in
      omega (arith, inside, ends, count, names, many)

  module _ (i row from upto : ℕ) (can : CanRaise cmp u (Some i) row from upto) where
    abbrev o : IsOlder cmp u i
    o = can.there

    abbrev rows : List (Row K Group)
    rows = o.directory.rows.items

    abbrev ends : List ℕ
    ends = o.directory.ends.items

    abbrev owners : Row K Group → List ℕ
    owners = row_owners (slots_in u.groups)

    slots_is : slots_at u (Some i) ≡ flat_map owners rows
    slots_is = ap (slots_in_item u.groups) o.is

    whole : IsWholeRow ends row from upto
    whole = subst (λ es. IsWholeRow es row from upto) (ap ends_in_item o.is) can.whole

    upto_ends : AreEnds owners rows ends
    upto_ends = are_ends cmp u i o

    one : (r : Row K Group) × (slice_get rows row ≡ Some r)
    one = let inside = whole.inside in let count = upto_ends.count in get_some rows row (omega (arith, inside, count))

    abbrev g : ℕ
    g = name_of one.0.segments

    stretch : between from upto (slots_at u (Some i)) ≡ row_at u.groups g
    stretch =
        ap (between from upto) slots_is
        ∙ ap (λ n. between n upto (flat_map owners rows)) whole.begins
        ∙ ap (λ n. between (start_of ends row) n (flat_map owners rows)) whole.stops
        ∙ row_lies owners rows ends upto_ends row one.0 one.1

    takeable : All (IsTakeable u) (row_at u.groups g)
    takeable = subst (All (IsTakeable u)) stretch (All-take (IsTakeable u) (upto - from) (drop from (slots_at u (Some i))) (All-drop (IsTakeable u) from (slots_at u (Some i)) can.segments))

    named : get_or (names_at u (Some i)) row 0 ≡ g
    named = ap (λ x. get_or (names_in_item x) row 0) o.is ∙ name_at rows row one.0 one.1

    out : IsOut u.groups g
    out = subst (λ k. IsOut u.groups k) named (can.raised row 0 (row_inside (Some i) row from upto can)).0

    hold : map (λ j. segment_pairs (value_at u j)) (row_at u.groups g) ≡ between from upto (blocks_at u (Some i))
    hold = ap (map (λ j. segment_pairs (value_at u j))) (sym stretch) ∙ between_map (λ j. segment_pairs (value_at u j)) from upto (slots_at u (Some i))

    stands : (w : State (Item K V s)) → w ≡ with_groups (more_owned g u.groups) u → Frame u w → StandsOn 0 g (between from upto (blocks_at u (Some i))) u w
    stands w is keeps = raised_stands u w g (between from upto (blocks_at u (Some i))) out (λ k d h. (takeable k d h).segment) (λ k d h. ap has_owner (takeable k d h).shared.is) hold is keeps

  -- the row stands, with one owner more
  pub row_raised : (w : State (Item K V s)) (older : Option ℕ) (row from upto : ℕ) → CanRaise cmp u older row from upto → (k : ℕ) → k ≡ get_or (names_at u older) row 0 → w ≡ with_groups (more_owned k u.groups) u → Frame u w → StandsOn 0 k (between from upto (blocks_at u older)) u w
  row_raised w None row from upto can k name is keeps = let inside = can.whole.inside in absurd (omega (arith, inside))
  row_raised w (Some i) row from upto can k name is keeps =
      let same : k ≡ g i row from upto can = name ∙ named i row from upto can in
      subst (λ n. StandsOn 0 n (between from upto (blocks_at u (Some i))) u w) (sym same) (stands i row from upto can w (is ∙ ap (λ n. with_groups (more_owned n u.groups) u) same) keeps)
