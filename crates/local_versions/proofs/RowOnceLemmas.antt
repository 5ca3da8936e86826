-- No slot stands twice in the rows of a version that are placed one after the other.
use Rattle.std.proofs.Common.{◌≡◌, ℕ, ◌+◌, ◌≤◌, Option, List, [], ◌∷◌, ◌++◌, map, sym, ◌∙◌, subst}
use Rattle.std.proofs.lemmas.Grind.{flat_map-append}
use Rattle.std.proofs.lemmas.List.{map-append}
use Rattle.std.proofs.lemmas.List.Elements.{All-head}
use Rattle.std.specs.Cmp.{IsTotalOrder}
use Rattle.std.specs.declared.cmp.Ordering.{Ordering}
use Rattle.std.specs.List.{All, flat_map}
use Rattle.leaf_array.specs.Pairs.{IsAscending}
use Rattle.sdd_world.specs.Groups.{row_at}
use Rattle.sdd_world.specs.Place.{IsPlace}
use Rattle.sdd_world.specs.State.{State, value_at}
use Rattle.sdd_world.specs.Steps.{times}
use Rattle.version_views.specs.Cuts.{pairs_in}
use Rattle.version_views.specs.Items.{row_owners}
use Rattle.version_views.specs.Versions.{segment_pairs}
use Rattle.version_views.specs.declared.item.Item.{Item}
use Rattle.version_views.specs.declared.row.Row.{Row}
use Rattle.version_views.proofs.BlockListLemmas.{pairs_in-append}
use Rattle.version_views.proofs.FilterLemmas.{rising_front, rising_rear}
use Rattle.version_views.proofs.RowLemmas.{map-flat_map}
use Rattle.version_drafts.specs.Cutting.{IsSegmentSized}
use Rattle.version_drafts.specs.Shelves.{LiesOn, shelf_blocks, shelved_blocks}
use Rattle.version_drafts.specs.declared.shelves.Shelf.{Shelf}
use Rattle.version_drafts.specs.declared.shelves.Shelf.TheVariants as shelves
use Rattle.local_versions.specs.Placing.{AreRowsOf, CanPlace, HasOlder, IsSettled, StandOn, StandsOn, blocks_at, ends_at, slots_at}
use Rattle.local_versions.proofs.DirectoryPlacingLemmas.{flat_alike}
use Rattle.local_versions.proofs.OnceLemmas.{slots_once}
use Rattle.local_versions.proofs.PlaceableRowLemmas.{TakesOnce, blocks_stay_at, can_place}
use Rattle.local_versions.proofs.RowPlacingLemmas.{stand_row}
use Rattle.local_versions.proofs.RowSlotLemmas.{all_front, all_rear}
use Rattle.local_versions.proofs.TakingLemmas.{taken_once}

module _ {K V : Type 0} (s : ℕ) (cmp : K → K → Ordering) where
  -- blocks of 1 to s pairs by rising keys
  record AreSegments (bs : List (List (K × V))) : Type 0 where
    sizes : All (IsSegmentSized s) bs
    rising : IsAscending cmp (pairs_in bs)

  segments_front : (bs cs : List (List (K × V))) → AreSegments (bs ++ cs) → AreSegments bs
  segments_front bs cs a = record {
    sizes = all_front (IsSegmentSized s) bs cs a.sizes;
    rising = rising_front cmp (pairs_in bs) (pairs_in cs) (subst (λ ps. IsAscending cmp ps) (pairs_in-append bs cs) a.rising);
  }

  segments_rear : (bs cs : List (List (K × V))) → AreSegments (bs ++ cs) → AreSegments cs
  segments_rear bs cs a = record {
    sizes = all_rear (IsSegmentSized s) bs cs a.sizes;
    rising = rising_rear cmp (pairs_in bs) (pairs_in cs) (subst (λ ps. IsAscending cmp ps) (pairs_in-append bs cs) a.rising);
  }

  module _ (o : IsTotalOrder cmp) (blocks : List (List (K × V))) where
    -- a row takes no slot over twice, where the slots have these blocks
    shelf_once : (at : ℕ → List (K × V)) (slots : List ℕ) → map at slots ≡ blocks → (r : Shelf K V) → AreSegments (shelf_blocks blocks r) → TakesOnce slots r
    shelf_once at slots is (shelves.Older row from upto) a = tt
    shelf_once at slots is (shelves.New ps) a =
        let here : AreSegments (shelf_blocks (map at slots) (shelves.New ps)) = subst (λ bs. AreSegments (shelf_blocks bs (shelves.New ps))) (sym is) a in
        taken_once s cmp o at slots ps.items here.sizes here.rising

    module _ (done rest : List (Row K (Shelf K V))) (sizes : All (IsSegmentSized s) (shelved_blocks blocks (done ++ rest))) (rising : IsAscending cmp (pairs_in (shelved_blocks blocks (done ++ rest)))) where
      both : AreSegments (shelved_blocks blocks done ++ shelved_blocks blocks rest)
      both = subst AreSegments (flat_map-append (row_owners (shelf_blocks blocks)) done rest) (record { sizes = sizes; rising = rising })

      -- no slot stands twice in the rows that are placed
      pub done_once : (v : State (Item K V s)) (gs : List ℕ) → map (λ g. map (λ i. segment_pairs (value_at v i)) (row_at v.groups g)) gs ≡ map (λ (r : Row K (Shelf K V)). shelf_blocks blocks r.segments) done → (j : ℕ) → times j (flat_map (λ g. row_at v.groups g) gs) ≤ 1
      done_once v gs hold j =
          let at : ℕ → List (K × V) = λ i. segment_pairs (value_at v i) in
          let rows : ℕ → List ℕ = λ g. row_at v.groups g in
          let same : map at (flat_map rows gs) ≡ shelved_blocks blocks done = map-flat_map at rows gs ∙ flat_alike (λ g. map at (rows g)) (row_owners (shelf_blocks blocks)) gs done hold in
          let here = subst AreSegments (sym same) (segments_front (shelved_blocks blocks done) (shelved_blocks blocks rest) both) in
          slots_once s cmp o at (flat_map rows gs) here.sizes here.rising j

    -- nor in the next one
    pub next_once : (done : List (Row K (Shelf K V))) (r : Row K (Shelf K V)) (rest : List (Row K (Shelf K V))) → All (IsSegmentSized s) (shelved_blocks blocks (done ++ r ∷ rest)) → IsAscending cmp (pairs_in (shelved_blocks blocks (done ++ r ∷ rest))) → (at : ℕ → List (K × V)) (slots : List ℕ) → map at slots ≡ blocks → TakesOnce slots r.segments
    next_once done r rest sizes rising at slots is =
        let behind = segments_rear (shelved_blocks blocks done) (shelved_blocks blocks (r ∷ rest)) (both done (r ∷ rest) sizes rising) in
        shelf_once at slots is r.segments (segments_front (shelf_blocks blocks r.segments) (shelved_blocks blocks rest) behind)

-- the next row of a version that is planned of the older one
module _ {K V : Type 0} {s : ℕ} (cmp : K → K → Ordering) (u v : State (Item K V s)) (older : Option ℕ) (done : List (Row K (Shelf K V))) (r : Row K (Shelf K V)) (n : ℕ) (gs : List ℕ) (st : StandOn n gs (map (λ (x : Row K (Shelf K V)). shelf_blocks (blocks_at u older) x.segments) done) u v) (settled : IsSettled u) where
  module _ (o : IsTotalOrder cmp) (rest all : List (Row K (Shelf K V))) (whole : done ++ r ∷ rest ≡ all) (are : AreRowsOf cmp u older all) (place : IsPlace v) where
    sizes : All (IsSegmentSized s) (shelved_blocks (blocks_at u older) (done ++ r ∷ rest))
    sizes = subst (λ rs. All (IsSegmentSized s) (shelved_blocks (blocks_at u older) rs)) (sym whole) are.sizes

    rising : IsAscending cmp (pairs_in (shelved_blocks (blocks_at u older) (done ++ r ∷ rest)))
    rising = subst (λ rs. IsAscending cmp (pairs_in (shelved_blocks (blocks_at u older) rs))) (sym whole) are.rising

    lies : LiesOn (ends_at u older) r.segments
    lies =
        let each = subst (All (λ (x : Row K (Shelf K V)). LiesOn (ends_at u older) x.segments)) (sym whole) are.inside in
        All-head (λ (x : Row K (Shelf K V)). LiesOn (ends_at u older) x.segments) r rest (all_rear (λ (x : Row K (Shelf K V)). LiesOn (ends_at u older) x.segments) done (r ∷ rest) each)

    -- it can be placed
    pub next_placeable : CanPlace cmp v older r.segments
    next_placeable =
        let at : ℕ → List (K × V) = λ i. segment_pairs (value_at v i) in
        let blocks = map (λ (x : Row K (Shelf K V)). shelf_blocks (blocks_at u older) x.segments) done in
        let once = done_once s cmp o (blocks_at u older) done (r ∷ rest) sizes rising v gs st.hold in
        let takes = next_once s cmp o (blocks_at u older) done r rest sizes rising at (slots_at v older) (blocks_stay_at cmp u v n gs blocks st settled older are.there) in
        can_place cmp u v n gs blocks st settled place once older r.segments are.there lies takes

  -- and once it stands, so do all up to it
  pub next_stands : HasOlder cmp u older → (m g : ℕ) (w : State (Item K V s)) → StandsOn m g (shelf_blocks (blocks_at v older) r.segments) v w → StandOn (n + m) (gs ++ g ∷ []) (map (λ (x : Row K (Shelf K V)). shelf_blocks (blocks_at u older) x.segments) (done ++ r ∷ [])) u w
  next_stands there m g w on =
      let blocks = map (λ (x : Row K (Shelf K V)). shelf_blocks (blocks_at u older) x.segments) done in
      let same = blocks_stay_at cmp u v n gs blocks st settled older there in
      let here = subst (λ bs. StandsOn m g (shelf_blocks bs r.segments) v w) same on in
      let more = stand_row n m gs g blocks (shelf_blocks (blocks_at u older) r.segments) u v w st here in
      subst (λ bs. StandOn (n + m) (gs ++ g ∷ []) bs u w) (sym (map-append (λ (x : Row K (Shelf K V)). shelf_blocks (blocks_at u older) x.segments) done (r ∷ []))) more
