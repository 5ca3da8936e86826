-- What stays of the older version while parts are placed.
use Rattle.std.proofs.Common.{◌≡◌, ◌≤◌, ◌<◌, arith, ℕ, Option, None, Some, List, [], ◌∷◌, length, append-nil, refl, sym, ap, ◌∙◌, subst}
use Rattle.std.proofs.lemmas.List.Elements.{All-cons, All-head, All-nil, All-tail}
use Rattle.std.specs.List.{All}
use Rattle.sdd_world.specs.Groups.{GroupState}
use Rattle.sdd_world.specs.Place.{TakeOwners}
use Rattle.sdd_world.specs.State.{State, status_at, value_at}
use Rattle.sdd_world.specs.Steps.{times}
use Rattle.version_views.specs.Items.{row_owners, slots_in}
use Rattle.version_views.specs.Rows.{AreEnds}
use Rattle.version_views.specs.declared.item.Item.{Item}
use Rattle.version_views.proofs.RowLemmas.{next_row, row_within}
use Rattle.version_views.proofs.SeparatorSearchLemmas.{get_some}
use Rattle.version_drafts.specs.Parts.{between}
use Rattle.version_drafts.specs.Shelves.{LiesInRow, LiesInside}
use Rattle.version_drafts.specs.declared.segments.Part.{Part}
use Rattle.version_drafts.specs.declared.segments.Part.TheVariants as parts
use Rattle.local_versions.specs.Placing.{CanTakeOver, HasRows, IsTakeable, IsThere, StandsIn, ends_at, ends_in_item, part_slots, slots_at, slots_in_item, taken_slots}
use Rattle.local_versions.proofs.RowSlotLemmas.{all_front, all_rear}
use Rattle.local_versions.proofs.TakingLemmas.{takeable_still}

-- where groups are as they were, and the directory is, so are its rows
module _ {K V : Type 0} {s : ℕ} (u v : State (Item K V s)) (n : ℕ) (xs : List ℕ) (bs : List (List (K × V))) (st : StandsIn n xs bs u v) where
  pub rows_still : (older : Option ℕ) → HasRows u older → HasRows v older
  rows_still None h = tt
  rows_still (Some i) h = record {
    live = st.adds.lives i h.live;
    directory = h.directory;
    is = st.adds.keeps.lives i h.live ∙ h.is;
    ends = subst (λ (gs : List GroupState). AreEnds (row_owners (slots_in gs)) h.directory.rows.items h.directory.ends.items) (sym st.same) h.ends;
  }

  pub slots_still : (older : Option ℕ) → HasRows u older → slots_at v older ≡ slots_at u older
  slots_still None h = refl
  slots_still (Some i) h = ap (slots_in_item v.groups) (st.adds.keeps.lives i h.live) ∙ ap (λ (gs : List GroupState). slots_in_item gs (value_at u i)) st.same

  pub ends_still : (older : Option ℕ) → HasRows u older → ends_at v older ≡ ends_at u older
  ends_still None h = refl
  ends_still (Some i) h = ap ends_in_item (st.adds.keeps.lives i h.live)

-- what a part takes over can be
pub taken_fore : {K V : Type 0} {s : ℕ} (u : State (Item K V s)) (older : Option ℕ) (p : Part K V) (ps : List (Part K V)) → CanTakeOver u older (p ∷ ps) → All (IsTakeable u) (part_slots (slots_at u older) p)
taken_fore u older p ps there = all_front (IsTakeable u) (part_slots (slots_at u older) p) (taken_slots (slots_at u older) ps) there.segments

-- the next part can be taken over still
module _ {K V : Type 0} {s : ℕ} (u v : State (Item K V s)) (older : Option ℕ) (n : ℕ) (xs : List ℕ) (bs : List (List (K × V))) (st : StandsIn n xs bs u v) (p : Part K V) (ps : List (Part K V)) (there : CanTakeOver u older (p ∷ ps)) where
  pub next_there : ((i : ℕ) → 1 ≤ times i (taken_slots (slots_at u older) (p ∷ ps)) → status_at v i ≡ status_at u i) → CanTakeOver v older (p ∷ [])
  next_there still =
      let slots = slots_at u older in
      let same = slots_still u v n xs bs st older there.there in
      let ends = ends_at u older in
      let front = taken_fore u older p ps there in
      let here = takeable_still u slots n v xs bs st p ps still front in
      record {
        there = rows_still u v n xs bs st older there.there;
        inside = subst (λ es. All (LiesInside es) (p ∷ [])) (sym (ends_still u v n xs bs st older there.there)) (All-cons (LiesInside ends) p [] (All-head (LiesInside ends) p ps there.inside) (All-nil (LiesInside ends)));
        segments = subst (λ is. All (IsTakeable v) (taken_slots is (p ∷ []))) (sym same) (subst (All (IsTakeable v)) (sym (append-nil (part_slots slots p))) here);
      }

  -- and those behind it
  pub rest_there : CanTakeOver u older ps
  rest_there =
      let slots = slots_at u older in
      record {
        there = there.there;
        inside = All-tail (LiesInside (ends_at u older)) p ps there.inside;
        segments = all_rear (IsTakeable u) (part_slots slots p) (taken_slots slots ps) there.segments;
      }

-- a stretch that can be taken over is one of a version that is there
module _ {K V : Type 0} {s : ℕ} (w : State (Item K V s)) (from upto : ℕ) where
  pub stretch_there : (o : Option ℕ) → CanTakeOver w o (parts.Taken from upto ∷ []) → (i : ℕ) × (o ≡ Some i) × IsThere w i
  stretch_there None there = let lies = All-head (LiesInside []) (parts.Taken from upto) [] there.inside in absurd (let none = lies.inside in omega (arith, none))
  stretch_there (Some i) there = (i, refl, there.there)

  pub stretch_inside : (o : Option ℕ) → CanTakeOver w o (parts.Taken from upto ∷ []) → LiesInRow (ends_at w o) from upto
  stretch_inside o there = All-head (LiesInside (ends_at w o)) (parts.Taken from upto) [] there.inside

  pub stretch_within : (o : Option ℕ) → CanTakeOver w o (parts.Taken from upto ∷ []) → from < length (slots_at w o)
  stretch_within None there = let lies = All-head (LiesInside []) (parts.Taken from upto) [] there.inside in absurd (let none = lies.inside in omega (arith, none))
  stretch_within (Some i) there =
      let h : IsThere w i = there.there in
      let rows = h.directory.rows.items in
      let owners = row_owners (slots_in w.groups) in
      let lies = subst (λ es. LiesInRow es from upto) (ap ends_in_item h.is) (All-head (LiesInside (ends_at w (Some i))) (parts.Taken from upto) [] there.inside) in
      let inside = lies.inside in
      let count = h.ends.count in
      let r = get_some rows lies.row (omega (arith, inside, count)) in
      let stop = h.ends.each lies.row (omega (arith, inside, count)) ∙ next_row owners rows lies.row r.0 r.1 in
      let within = row_within owners rows lies.row r.0 r.1 in
      let long = ap (λ x. length (slots_in_item w.groups x)) h.is in
      let some = lies.some in
      let stops = lies.stops in
      omega (arith, stop, within, long, some, stops)

  pub stretch_takes : (o : Option ℕ) → CanTakeOver w o (parts.Taken from upto ∷ []) → ((j : ℕ) → times j (between from upto (slots_at w o)) ≤ 1) → TakeOwners (between from upto (slots_at w o)) w
  stretch_takes o there once =
      let all = subst (All (IsTakeable w)) (append-nil (between from upto (slots_at w o))) there.segments in
      record {
        each = λ k d h. let can = (all k d h).shared in (can.owners, can.is, can.room);
        once = once;
      }
