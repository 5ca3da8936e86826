-- what can be placed of a version while its rows are
use Rattle.std.proofs.Common.{◌≡◌, ℕ, ◌-◌, ◌≤◌, Option, None, Some, suc, List, [], ◌∷◌, ◌++◌, drop, take, length, get_or, map, reverse, refl, sym, ap, ◌∙◌, arith, subst}
use Rattle.std.proofs.lemmas.List.{length-map}
use Rattle.std.proofs.lemmas.List.Elements.{All-append, All-drop, All-nil, All-take}
use Rattle.std.proofs.lemmas.List.Sums.{sum_by-append}
use Rattle.std.specs.List.{All, flat_map}
use Rattle.std.specs.declared.cmp.Ordering.{Ordering}
use Rattle.sdd_world.specs.Counting.{Counted, same_hold, shared_owners}
use Rattle.sdd_world.specs.Groups.{IsOut, name_of, row_at}
use Rattle.sdd_world.specs.Holding.{Hold, OwnerGroup}
use Rattle.sdd_world.specs.Place.{IsPlace, IsShared}
use Rattle.sdd_world.specs.State.{State, value_at}
use Rattle.sdd_world.specs.Steps.{times}
use Rattle.sdd_world.specs.declared.groups.Group.{Group}
use Rattle.sdd_world.proofs.ListLemmas.{named_times}
use Rattle.sdd_world.proofs.OwnerBoundLemmas.{few_of_group, few_of_item, names}
use Rattle.version_views.specs.Items.{held_by, names_of, row_owners, slots_in, slots_of}
use Rattle.version_views.specs.Rows.{AreEnds}
use Rattle.version_views.specs.Versions.{blocks_in, segment_pairs}
use Rattle.version_views.specs.declared.item.Item.{Item}
use Rattle.version_views.specs.declared.row.Row.{Row}
use Rattle.version_views.proofs.RowLemmas.{map-flat_map}
use Rattle.version_drafts.specs.Parts.{between}
use Rattle.version_drafts.specs.Shelves.{IsWholeRow, LiesInside, LiesOn}
use Rattle.version_drafts.specs.declared.segments.Part.{Part}
use Rattle.version_drafts.specs.declared.segments.Part.TheVariants as parts
use Rattle.version_drafts.specs.declared.shelves.Shelf.{Shelf}
use Rattle.version_drafts.specs.declared.shelves.Shelf.TheVariants as shelves
use Rattle.local_versions.specs.Placing.{CanBeRaised, CanBeShared, CanPlace, HasOlder, HasRows, IsLevelled, IsOlder, IsSettled, IsTakeable, StandOn, blocks_at, ends_at, ends_in_item, names_at, names_in_item, slots_at, slots_in_item, taken_slots}
use Rattle.local_versions.proofs.RowSlotLemmas.{all_by_name, groups_out, names_few, names_joined, often_named, owns_slots, rows_grown, same_slots, some_named, sum_reverse, tally_groups}
use Rattle.local_versions.proofs.SharingLemmas.{group_once, names_once}
use Rattle.local_versions.proofs.StayingLemmas.{live_shared, map_same, whole_stays}

-- what holds of all slots holds of those that parts take over
pub all_taken : {K V : Type 0} (P : ℕ → Type 0) (slots : List ℕ) (ps : List (Part K V)) → All P slots → All P (taken_slots slots ps)
all_taken P slots [] all = All-nil P
all_taken P slots (parts.Taken from upto ∷ ps) all = All-append P (between from upto slots) (taken_slots slots ps) (All-take P (upto - from) (drop from slots) (All-drop P from slots all)) (all_taken P slots ps all)
all_taken P slots (parts.Made t ∷ ps) all = all_taken P slots ps all

-- no slot is taken over twice by a row of parts
abbrev pub TakesOnce : {K V : Type 0} → List ℕ → Shelf K V → Type 0
TakesOnce slots (shelves.Older row from upto) = Unit {0}
TakesOnce slots (shelves.New ps) = (j : ℕ) → times j (taken_slots slots ps.items) ≤ 1

-- the ends of a version are those of its rows of slots
slots_long : {K V : Type 0} {s : ℕ} (w : State (Item K V s)) (n : ℕ) (rows : List (Row K Group)) → length (flat_map (row_owners (blocks_in w.groups (value_at w))) (take n rows)) ≡ length (flat_map (row_owners (slots_in w.groups)) (take n rows))
slots_long w n rows = sym (ap length (map-flat_map (λ i. segment_pairs (value_at w i)) (row_owners (slots_in w.groups)) (take n rows))) ∙ length-map (flat_map (row_owners (slots_in w.groups)) (take n rows)) (λ i. segment_pairs (value_at w i))

pub are_ends : {K V : Type 0} {s : ℕ} (cmp : K → K → Ordering) (w : State (Item K V s)) (i : ℕ) (o : IsOlder cmp w i) → AreEnds (row_owners (slots_in w.groups)) o.directory.rows.items o.directory.ends.items
are_ends cmp w i o = record { count = o.whole.rowed.ends.count; each = λ k h. o.whole.rowed.ends.each k h ∙ slots_long w (suc k) o.directory.rows.items }

pub has_rows : {K V : Type 0} {s : ℕ} (cmp : K → K → Ordering) (w : State (Item K V s)) (older : Option ℕ) → HasOlder cmp w older → HasRows w older
has_rows cmp w None o = tt
has_rows cmp w (Some i) o = record { live = o.live; directory = o.directory; is = o.is; ends = are_ends cmp w i o }

module _ {K V : Type 0} {s : ℕ} (cmp : K → K → Ordering) (u v : State (Item K V s)) (n : ℕ) (gs : List ℕ) (bs : List (List (List (K × V)))) (st : StandOn n gs bs u v) (settled : IsSettled u) where
  -- the older version stays
  module _ (i : ℕ) (o : IsOlder cmp u i) where
    rows : All (λ g. row_at v.groups g ≡ row_at u.groups g) (names_of o.directory.rows.items)
    rows = rows_grown settled.hand u settled.counted i o.directory o.is v st.adds.groups

    slots : slots_of v.groups o.directory ≡ slots_of u.groups o.directory
    slots = same_slots u.groups v.groups o.directory.rows.items rows

    values : All (λ j. value_at v j ≡ value_at u j) (slots_of u.groups o.directory)
    values k d h = let j = get_or (slots_of u.groups o.directory) k d in st.adds.keeps.lives j (live_shared cmp u j (owns_slots settled.hand u settled.counted i o.directory o.is k d h))

    here : value_at v i ≡ value_at u i
    here = st.adds.keeps.lives i o.live

    is_older : IsOlder cmp v i
    is_older = record { live = st.adds.lives i o.live; directory = o.directory; is = here ∙ o.is; whole = whole_stays cmp u.groups v.groups (value_at u) (value_at v) o.directory rows values o.whole }

    slots_here : slots_in_item v.groups (value_at v i) ≡ slots_in_item u.groups (value_at u i)
    slots_here = ap (slots_in_item v.groups) (here ∙ o.is) ∙ slots ∙ sym (ap (slots_in_item u.groups) o.is)

    blocks_here : map (λ j. segment_pairs (value_at v j)) (slots_in_item v.groups (value_at v i)) ≡ map (λ j. segment_pairs (value_at u j)) (slots_in_item u.groups (value_at u i))
    blocks_here =
        ap (map (λ j. segment_pairs (value_at v j))) (ap (slots_in_item v.groups) (here ∙ o.is) ∙ slots)
        ∙ map_same (λ j. segment_pairs (value_at v j)) (λ j. segment_pairs (value_at u j)) (slots_of u.groups o.directory) (λ k d h. ap segment_pairs (values k d h))
        ∙ sym (ap (λ x. map (λ j. segment_pairs (value_at u j)) (slots_in_item u.groups x)) o.is)

  pub older_stays : (older : Option ℕ) → HasOlder cmp u older → HasOlder cmp v older
  older_stays None o = tt
  older_stays (Some i) o = is_older i o

  pub slots_stay : (older : Option ℕ) → HasOlder cmp u older → slots_at v older ≡ slots_at u older
  slots_stay None o = refl
  slots_stay (Some i) o = slots_here i o

  pub ends_stay : (older : Option ℕ) → HasOlder cmp u older → ends_at v older ≡ ends_at u older
  ends_stay None o = refl
  ends_stay (Some i) o = ap ends_in_item (here i o)

  pub blocks_stay_at : (older : Option ℕ) → HasOlder cmp u older → blocks_at v older ≡ blocks_at u older
  blocks_stay_at None o = refl
  blocks_stay_at (Some i) o = blocks_here i o

  -- owners can't run out while no slot stands twice in the rows that were placed
  module _ (place : IsPlace v) (once : (j : ℕ) → times j (flat_map (λ g. row_at v.groups g) gs) ≤ 1) where
    abbrev hand : List Hold
    hand = reverse (map OwnerGroup gs) ++ settled.hand

    counted : Counted held_by hand v
    counted = st.counted settled.hand settled.counted

    levelled : IsLevelled v
    levelled = st.adds.levelled settled.hand settled.counted settled.levelled

    can_share : (j : ℕ) → IsShared v j → CanBeShared v j
    can_share j sh =
        let bound = few_of_item held_by hand v counted j (λ i. names_once v levelled j i (value_at v i) refl) in
        let both = sum_by-append (λ h. names v.groups j h) (reverse (map OwnerGroup gs)) settled.hand in
        let turned = sum_reverse (λ h. names v.groups j h) (map OwnerGroup gs) in
        let joined = names_joined v.groups j gs in
        let outside = names_few v.groups j settled.hand settled.ungrouped in
        let one = once j in
        let sizes = place.sound.sizes in
        let states = st.adds.keeps.states in
        let cells = st.adds.keeps.cells in
        let few = settled.few in
        let owners = ap shared_owners sh.is in
        record { inside = sh.inside; owners = sh.owners; is = sh.is; room = omega (arith, bound, both, turned, joined, outside, one, sizes, states, cells, few, owners) }

    can_raise : (g : ℕ) → IsOut v.groups g → 1 ≤ length (row_at v.groups g) → CanBeRaised v g
    can_raise g out some =
        let bound = few_of_group held_by hand v counted g (λ i. group_once v levelled g i (value_at v i) refl) in
        let both = sum_by-append (λ k. same_hold (OwnerGroup g) k) (reverse (map OwnerGroup gs)) settled.hand in
        let turned = sum_reverse (λ k. same_hold (OwnerGroup g) k) (map OwnerGroup gs) in
        let groups = tally_groups g gs in
        let outside = settled.ungrouped g in
        let j = get_or (row_at v.groups g) 0 0 in
        let often = often_named v.groups g j gs (named_times (row_at v.groups g) 0 0 (omega (arith, some))) in
        let one = once j in
        let sizes = place.sound.sizes in
        let states = st.adds.keeps.states in
        let few = settled.few in
        (out, omega (arith, bound, both, turned, groups, outside, often, one, sizes, states, few))

    module _ (i : ℕ) (o : IsOlder cmp v i) where
      some_slots : All (λ r. 1 ≤ length (row_at v.groups (name_of r.segments))) o.directory.rows.items
      some_slots k d h = let some = (o.whole.rowed.rows k d h).some in let long = length-map (row_at v.groups (name_of (get_or o.directory.rows.items k d).segments)) (λ j. segment_pairs (value_at v j)) in omega (arith, some, long)

      all_raised : All (CanBeRaised v) (names_of o.directory.rows.items)
      all_raised = all_by_name (CanBeRaised v) (names_of o.directory.rows.items) (λ g named. can_raise g (groups_out hand v counted i o.directory o.is g named) (some_named (λ k. 1 ≤ length (row_at v.groups k)) g o.directory.rows.items some_slots named))

      all_takeable : All (IsTakeable v) (slots_of v.groups o.directory)
      all_takeable k d h = record { shared = can_share (get_or (slots_of v.groups o.directory) k d) (owns_slots hand v counted i o.directory o.is k d h); segment = o.whole.segments k d h }

    raised_at : (older : Option ℕ) → HasOlder cmp v older → All (CanBeRaised v) (names_at v older)
    raised_at None o = All-nil (CanBeRaised v)
    raised_at (Some i) o = subst (λ x. All (CanBeRaised v) (names_in_item x)) (sym o.is) (all_raised i o)

    takeable_at : (older : Option ℕ) → HasOlder cmp v older → All (IsTakeable v) (slots_at v older)
    takeable_at None o = All-nil (IsTakeable v)
    takeable_at (Some i) o = subst (λ x. All (IsTakeable v) (slots_in_item v.groups x)) (sym o.is) (all_takeable i o)

    -- the next row can be placed
    pub can_place : (older : Option ℕ) (row : Shelf K V) → HasOlder cmp u older → LiesOn (ends_at u older) row → TakesOnce (slots_at v older) row → CanPlace cmp v older row
    can_place older (shelves.Older row from upto) there lies takes = record {
      there = older_stays older there;
      whole = subst (λ es. IsWholeRow es row from upto) (sym (ends_stay older there)) lies;
      segments = takeable_at older (older_stays older there);
      raised = raised_at older (older_stays older there);
    }
    can_place older (shelves.New ps) there lies takes = (
      record {
        there = has_rows cmp v older (older_stays older there);
        inside = subst (λ es. All (LiesInside es) ps.items) (sym (ends_stay older there)) lies;
        segments = all_taken (IsTakeable v) (slots_at v older) ps.items (takeable_at older (older_stays older there));
      },
      takes,
    )
