-- the directory of rows that stand is placed
use Rattle.std.proofs.Common.{◌≡◌, ℕ, ◌+◌, ◌≤◌, List, ◌++◌, length, get_or, map, reverse, refl, sym, ap, ◌∙◌, arith, subst}
use Rattle.std.proofs.lemmas.List.{length-map}
use Rattle.std.proofs.lemmas.List.Folds.{flat_map-map}
use Rattle.std.proofs.lemmas.Simd.{map-map}
use Rattle.std.specs.Cmp.{IsTotalOrder}
use Rattle.std.specs.Global.{Vec}
use Rattle.std.specs.List.{All, flat_map}
use Rattle.std.specs.declared.cmp.Ordering.{Ordering}
use Rattle.sdd_world.specs.Counting.{Counted}
use Rattle.sdd_world.specs.Frame.{Frame, IsLive}
use Rattle.sdd_world.specs.Groups.{name_of, row_at}
use Rattle.sdd_world.specs.Holding.{Hold, OwnerGroup}
use Rattle.sdd_world.specs.Place.{IsPlace}
use Rattle.sdd_world.specs.State.{IsFree, State, placed, value_at}
use Rattle.sdd_world.specs.Steps.{times}
use Rattle.sdd_world.specs.declared.groups.Group.{Group}
use Rattle.sdd_world.specs.declared.status.Status.TheVariants as status
use Rattle.sdd_world.proofs.CountLemmas.{counted_placed_shared}
use Rattle.leaf_array.specs.Pairs.{IsAscending}
use Rattle.version_views.specs.Cuts.{IsCut, pairs_in, separators_of}
use Rattle.version_views.specs.Items.{held_by, names_of, row_keys, slots_of}
use Rattle.version_views.specs.Rows.{IsRowed}
use Rattle.version_views.specs.Versions.{IsSegment, IsVersion, blocks_in, blocks_of, segment_pairs}
use Rattle.version_views.specs.declared.directory.Directory.{Directory}
use Rattle.version_views.specs.declared.item.Item.{Item}
use Rattle.version_views.specs.declared.item.Item.TheVariants as items
use Rattle.version_views.specs.declared.row.Row.{Row}
use Rattle.version_views.proofs.RowLemmas.{map-flat_map}
use Rattle.version_drafts.specs.Cutting.{IsSegmentSized}
use Rattle.version_drafts.specs.Shelves.{shelf_blocks, shelved_blocks}
use Rattle.version_drafts.specs.declared.shelves.Shelf.{Shelf}
use Rattle.local_versions.specs.Placing.{IsLevelled, Places, StandOn}
use Rattle.local_versions.proofs.OnceLemmas.{slots_once}
use Rattle.local_versions.proofs.PlacingLemmas.{adds_one, adds_then, levelled_directory, live_apart, shared_here, value_here, value_there}
use Rattle.local_versions.proofs.RowSlotLemmas.{all_slots, rows_once}
use Rattle.local_versions.proofs.StayingLemmas.{blocks_stay, rowed_across, whole_stays}

-- rows with the same blocks have them one behind the other
pub flat_alike : {X Y A : Type 0} (f : X → List A) (g : Y → List A) (xs : List X) (ys : List Y) → map f xs ≡ map g ys → flat_map f xs ≡ flat_map g ys
flat_alike f g xs ys e = sym (flat_map-map (λ b. b) f xs) ∙ ap (flat_map (λ b. b)) e ∙ flat_map-map (λ b. b) g ys

module _ {K V : Type 0} {s : ℕ} (cmp : K → K → Ordering) (u v w : State (Item K V s)) (i n : ℕ) (rows : Vec (Row K Group)) (e : Directory K (Shelf K V)) (bs : List (List (K × V))) (st : StandOn n (names_of rows.items) (map (λ r. shelf_blocks bs r.segments) e.rows.items) u v) (keys : map row_keys rows.items ≡ map row_keys e.rows.items) (cut : IsCut cmp s (shelved_blocks bs e.rows.items) (separators_of (shelved_blocks bs e.rows.items))) (rowed : IsRowed (shelf_blocks bs) e) (counts : e.length ≡ length (pairs_in (shelved_blocks bs e.rows.items))) where
  abbrev directory : Directory K Group
  directory = record { number = e.number; length = e.length; rows = rows; separators = e.separators; ends = e.ends }

  abbrev planned : List (List (K × V))
  planned = shelved_blocks bs e.rows.items

  -- its rows have the blocks that were planned
  row_blocks : map (λ r. blocks_in v.groups (value_at v) r.segments) rows.items ≡ map (λ r. shelf_blocks bs r.segments) e.rows.items
  row_blocks = sym (map-map (λ g. map (λ k. segment_pairs (value_at v k)) (row_at v.groups g)) (λ (r : Row K Group). name_of r.segments) rows.items) ∙ st.hold

  pub all_blocks : blocks_of v.groups (value_at v) directory ≡ planned
  all_blocks = map-flat_map (λ k. segment_pairs (value_at v k)) (λ (r : Row K Group). row_at v.groups (name_of r.segments)) rows.items ∙ flat_alike (λ r. blocks_in v.groups (value_at v) r.segments) (λ r. shelf_blocks bs r.segments) rows.items e.rows.items row_blocks

  segments : All (λ k. IsSegment (value_at v k)) (slots_of v.groups directory)
  segments = all_slots (λ k. IsSegment (value_at v k)) v.groups rows.items st.segments

  lives : All (λ k. IsLive v k) (slots_of v.groups directory)
  lives = all_slots (λ k. IsLive v k) v.groups rows.items st.lives

  whole_rows : IsRowed (blocks_in v.groups (value_at v)) directory
  whole_rows = rowed_across (shelf_blocks bs) (blocks_in v.groups (value_at v)) e directory (sym row_blocks) (sym keys) refl refl rowed

  whole : IsVersion cmp v.groups (value_at v) directory
  whole = record {
    segments = segments;
    cut = subst (λ (xs : List (List (K × V))). IsCut cmp s xs (separators_of xs)) (sym all_blocks) cut;
    rowed = whole_rows;
    counted = counts ∙ ap (λ (xs : List (List (K × V))). length (pairs_in xs)) (sym all_blocks);
  }

  some_slots : All (λ r. 1 ≤ length (row_at v.groups (name_of r.segments))) rows.items
  some_slots = λ k d h. let some = (whole_rows.rows k d h).some in let long = length-map (row_at v.groups (name_of (get_or rows.items k d).segments)) (λ j. segment_pairs (value_at v j)) in omega (arith, some, long)

  module _ (once : (j : ℕ) → times j (slots_of v.groups directory) ≤ 1) (place : IsPlace v) (free : IsFree v i) (is : w ≡ placed i (items.Directory directory) (status.Shared 1) v) (keeps' : Frame v w) where
    abbrev x : Item K V s
    x = items.Directory directory

    abbrev y : State (Item K V s)
    y = placed i x (status.Shared 1) v

    keeps : Frame v y
    keeps = subst (λ (z : State (Item K V s)). Frame v z) is keeps'

    level : (hand : List Hold) → Counted held_by hand v → IsLevelled v → IsLevelled y
    level hand c l = levelled_directory v i directory hand place free c lives segments (rows_once v.groups rows.items some_slots once) once l

    still : All (λ k. value_at y k ≡ value_at v k) (slots_of v.groups directory)
    still k d h = let j = get_or (slots_of v.groups directory) k d in value_there v i x place free j (live_apart v i x place free j (lives k d h))

    same_rows : All (λ g. row_at v.groups g ≡ row_at v.groups g) (names_of rows.items)
    same_rows k d h = refl

    pub places_directory : Places cmp (n + 1) e.number (pairs_in planned) i u w
    places_directory = subst (λ (z : State (Item K V s)). Places cmp (n + 1) e.number (pairs_in planned) i u z) (sym is) (record {
      adds = adds_then n 1 u v y st.adds (adds_one v i x place free keeps level) (λ hand c l. level (reverse (map OwnerGroup (names_of rows.items)) ++ hand) (st.counted hand c) (st.adds.levelled hand c l));
      version = record {
        directory = directory;
        is = value_here v i x place free;
        whole = whole_stays cmp v.groups v.groups (value_at v) (value_at y) directory same_rows still whole;
        numbered = refl;
        list = ap pairs_in (blocks_stay cmp v.groups v.groups (value_at v) (value_at y) directory same_rows still ∙ all_blocks);
      };
      shared = shared_here v i x place free;
      counted = λ hand c. counted_placed_shared held_by i x hand v place free (st.counted hand c);
    })

  -- no segment stands twice in it, since their keys rise
  pub placed_whole : IsTotalOrder cmp → IsPlace v → IsFree v i → w ≡ placed i (items.Directory directory) (status.Shared 1) v → Frame v w → Places cmp (n + 1) e.number (pairs_in planned) i u w
  placed_whole o place free is keeps =
      let at : ℕ → List (K × V) = λ k. segment_pairs (value_at v k) in
      let sizes = subst (All (IsSegmentSized s)) (sym all_blocks) cut.sizes in
      let rising = subst (λ (xs : List (List (K × V))). IsAscending cmp (pairs_in xs)) (sym all_blocks) cut.rising in
      places_directory (slots_once s cmp o at (slots_of v.groups directory) sizes rising) place free is keeps
