-- placing rows, and then the directory that owns them
use Rattle.std.proofs.Common.{◌≡◌, ℕ, ◌+◌, ◌<◌, ◌≤◌, Option, Some, List, [], ◌∷◌, ◌++◌, length, get_or, map, reverse, refl, sym, ap, ◌∙◌, arith, length-append, subst, get_or-set_same}
use Rattle.std.proofs.lemmas.List.{map-append, reverse-append}
use Rattle.std.proofs.lemmas.List.Elements.{All-nil, All-push}
use Rattle.std.proofs.lemmas.List.Sums.{sum_by-append}
use Rattle.std.specs.List.{All}
use Rattle.sdd_world.specs.Counting.{Counted, same_hold}
use Rattle.sdd_world.specs.Frame.{Frame, IsLive}
use Rattle.sdd_world.specs.Groups.{GroupState, GroupsGrow, IsFreeName, IsOut, free_names, more_owned, no_group, row_at, with_row}
use Rattle.sdd_world.specs.Holding.{Hold, OwnerGroup, SharedItem}
use Rattle.sdd_world.specs.State.{State, value_at, with_groups}
use Rattle.sdd_world.specs.Steps.{times}
use Rattle.sdd_world.specs.declared.groups.Group.{Group}
use Rattle.sdd_world.proofs.CountLemmas.{owners_are_counted}
use Rattle.sdd_world.proofs.GroupLemmas.{made_grows, names_made, names_raised, raised_grows}
use Rattle.version_views.specs.Items.{held_by, slots_of}
use Rattle.version_views.specs.Versions.{IsSegment, segment_pairs}
use Rattle.version_views.specs.declared.directory.Directory.{Directory}
use Rattle.version_views.specs.declared.item.Item.{Item}
use Rattle.version_views.specs.declared.item.Item.TheVariants as items
use Rattle.local_versions.specs.Placing.{AddsItems, IsLevelled, IsNoDirectory, StandOn, StandsIn, StandsOn}
use Rattle.local_versions.proofs.PlacingLemmas.{adds_none, adds_then, keeps_refl, tally_reverse}
use Rattle.local_versions.proofs.RowSlotLemmas.{rows_grown, same_slots}
use Rattle.local_versions.proofs.StayingLemmas.{map_same}

-- ---- groups that come

module _ {K V : Type 0} {s : ℕ} where
  -- owners in hand are counted in any order
  counted_turned : (ks hand : List Hold) (w : State (Item K V s)) → Counted held_by (reverse ks ++ hand) w → Counted held_by (ks ++ hand) w
  counted_turned ks hand w c = record { each = λ h. let each = c.each h in omega (arith, each, sum_by-append (λ k. same_hold h k) (reverse ks) hand, sum_by-append (λ k. same_hold h k) ks hand, tally_reverse h ks) }

  -- where groups only come, levels stay
  levelled_grown : (w : State (Item K V s)) (gs : List GroupState) (hand : List Hold) → GroupsGrow w.groups gs → Counted held_by hand w → IsLevelled w → IsLevelled (with_groups gs w)
  levelled_grown w gs hand grow counted levelled = record {
    flat = λ i d is. subst (λ js. All (λ j. IsNoDirectory (value_at w j)) js) (sym (slots i d is)) (levelled.flat i d is);
    rows = levelled.rows;
    once = λ i d is j. subst (λ js. times j js ≤ 1) (sym (slots i d is)) (levelled.once i d is j);
  }
    where
      slots : (i : ℕ) (d : Directory K Group) → value_at w i ≡ Some (items.Directory d) → slots_of gs d ≡ slots_of w.groups d
      slots i d is = same_slots w.groups gs d.rows.items (rows_grown hand w counted i d is (with_groups gs w) grow)

  pub adds_groups : (w : State (Item K V s)) (gs : List GroupState) → GroupsGrow w.groups gs → Frame w (with_groups gs w) → AddsItems 0 w (with_groups gs w)
  adds_groups w gs grow keeps = record {
    count = refl;
    participants = refl;
    cells = refl;
    keeps = keeps;
    groups = grow;
    lives = λ i l. l;
    owned = λ i sh. record { inside = sh.inside; owners = sh.owners; is = sh.is };
    uses = omega arith;
    frees = omega arith;
    plain = λ p. p;
    levelled = λ hand c l. levelled_grown w gs hand grow c l;
  }

  -- a row whose segments were placed becomes a group
  pub made_stands : (m : ℕ) (slots : List ℕ) (bs : List (List (K × V))) (u v w : State (Item K V s)) (g : ℕ) → StandsIn m slots bs u v → IsFreeName v.groups g → w ≡ with_groups (with_row g slots v.groups) v → Frame v w → StandsOn m g bs u w
  made_stands m slots bs u v w g st free is keeps' =
      let gs = with_row g slots v.groups in
      let y : State (Item K V s) = with_groups gs v in
      let keeps : Frame v y = subst (λ (x : State (Item K V s)). Frame v x) is keeps' in
      let grow = made_grows v.groups g slots free in
      let here = get_or-set_same v.groups g (record { count = 1; row = slots }) no_group free.0 in
      let row : row_at gs g ≡ slots = ap (λ (x : GroupState). x.row) here in
      let none : m + 0 ≡ m = omega arith in
      let whole : StandsOn m g bs u y = record {
        adds = subst (λ k. AddsItems k u y) none (adds_then m 0 u v y st.adds (adds_groups v gs grow keeps) (λ hand c l. levelled_grown v gs (reverse (map SharedItem slots) ++ hand) grow (st.counted hand c) (st.adds.levelled hand c l)));
        out = (let one = ap (λ (x : GroupState). x.count) here in omega (arith, one));
        segments = subst (λ js. All (λ i. IsSegment (value_at v i)) js) (sym row) st.segments;
        lives = subst (λ js. All (λ i. IsLive v i) js) (sym row) st.lives;
        hold = ap (map (λ i. segment_pairs (value_at v i))) row ∙ st.hold;
        counted = λ hand c. (owners_are_counted held_by).group_made g slots hand v free (counted_turned (map SharedItem slots) hand v (st.counted hand c));
        names = (let made = names_made v.groups g slots free in let same = ap free_names st.same in omega (arith, made, same));
      } in
      subst (λ (x : State (Item K V s)). StandsOn m g bs u x) (sym is) whole

  -- a row that is there has one owner more
  pub raised_stands : (u w : State (Item K V s)) (g : ℕ) (bs : List (List (K × V))) → IsOut u.groups g → All (λ i. IsSegment (value_at u i)) (row_at u.groups g) → All (λ i. IsLive u i) (row_at u.groups g) → map (λ i. segment_pairs (value_at u i)) (row_at u.groups g) ≡ bs → w ≡ with_groups (more_owned g u.groups) u → Frame u w → StandsOn 0 g bs u w
  raised_stands u w g bs out segments lives hold is keeps' =
      let gs = more_owned g u.groups in
      let y : State (Item K V s) = with_groups gs u in
      let keeps : Frame u y = subst (λ (x : State (Item K V s)). Frame u x) is keeps' in
      let grow = raised_grows u.groups g in
      let still = grow g out in
      let whole : StandsOn 0 g bs u y = record {
        adds = adds_groups u gs grow keeps;
        out = still.0;
        segments = subst (λ js. All (λ i. IsSegment (value_at u i)) js) (sym still.1) segments;
        lives = subst (λ js. All (λ i. IsLive u i) js) (sym still.1) lives;
        hold = ap (map (λ i. segment_pairs (value_at u i))) still.1 ∙ hold;
        counted = λ hand c. (owners_are_counted held_by).group_raised g hand u out c;
        names = (let same = names_raised u.groups g out in omega (arith, same));
      } in
      subst (λ (x : State (Item K V s)). StandsOn 0 g bs u x) (sym is) whole

  -- ---- rows, one after the other

  pub stand_none : (u : State (Item K V s)) → StandOn 0 [] [] u u
  stand_none u = record {
    adds = adds_none u (keeps_refl u);
    out = All-nil (λ g. IsOut u.groups g);
    segments = All-nil (λ g. All (λ i. IsSegment (value_at u i)) (row_at u.groups g));
    lives = All-nil (λ g. All (λ i. IsLive u i) (row_at u.groups g));
    hold = refl;
    counted = λ hand c. c;
    names = omega arith;
  }

  pub stand_row : (n m : ℕ) (gs : List ℕ) (g : ℕ) (bs : List (List (List (K × V)))) (b : List (List (K × V))) (u v w : State (Item K V s)) → StandOn n gs bs u v → StandsOn m g b v w → StandOn (n + m) (gs ++ g ∷ []) (bs ++ b ∷ []) u w
  stand_row n m gs g bs b u v w st on =
      let row : (k e : ℕ) → k < length gs → row_at w.groups (get_or gs k e) ≡ row_at v.groups (get_or gs k e) = λ k e h. (on.adds.groups (get_or gs k e) (st.out k e h)).1 in
      let old : (k e : ℕ) → k < length gs → All (λ i. value_at w i ≡ value_at v i) (row_at v.groups (get_or gs k e)) = λ k e h i x y. on.adds.keeps.lives (get_or (row_at v.groups (get_or gs k e)) i x) (st.lives k e h i x y) in
      record {
        adds = adds_then n m u v w st.adds on.adds (λ hand c l. on.adds.levelled (reverse (map OwnerGroup gs) ++ hand) (st.counted hand c) (st.adds.levelled hand c l));
        out = All-push (λ k. IsOut w.groups k) gs g (λ k e h. (on.adds.groups (get_or gs k e) (st.out k e h)).0) on.out;
        segments = All-push (λ k. All (λ i. IsSegment (value_at w i)) (row_at w.groups k)) gs g (λ k e h. subst (λ js. All (λ i. IsSegment (value_at w i)) js) (sym (row k e h)) (λ i x y. subst (λ (o : Option (Item K V s)). IsSegment o) (sym (old k e h i x y)) (st.segments k e h i x y))) on.segments;
        lives = All-push (λ k. All (λ i. IsLive w i) (row_at w.groups k)) gs g (λ k e h. subst (λ js. All (λ i. IsLive w i) js) (sym (row k e h)) (λ i x y. on.adds.lives (get_or (row_at v.groups (get_or gs k e)) i x) (st.lives k e h i x y))) on.lives;
        hold =
            let before = map_same (λ k. map (λ i. segment_pairs (value_at w i)) (row_at w.groups k)) (λ k. map (λ i. segment_pairs (value_at v i)) (row_at v.groups k)) gs (λ k e h. ap (map (λ i. segment_pairs (value_at w i))) (row k e h) ∙ map_same (λ i. segment_pairs (value_at w i)) (λ i. segment_pairs (value_at v i)) (row_at v.groups (get_or gs k e)) (λ i x y. ap segment_pairs (old k e h i x y))) in
            map-append (λ k. map (λ i. segment_pairs (value_at w i)) (row_at w.groups k)) gs (g ∷ [])
            ∙ ap (λ xs. xs ++ map (λ i. segment_pairs (value_at w i)) (row_at w.groups g) ∷ []) (before ∙ st.hold)
            ∙ ap (λ x. bs ++ x ∷ []) on.hold;
        counted = λ hand c.
            let next = on.counted (reverse (map OwnerGroup gs) ++ hand) (st.counted hand c) in
            let turned : reverse (map OwnerGroup (gs ++ g ∷ [])) ≡ OwnerGroup g ∷ reverse (map OwnerGroup gs) = ap reverse (map-append OwnerGroup gs (g ∷ [])) ∙ reverse-append (map OwnerGroup gs) (OwnerGroup g ∷ []) in
            subst (λ (hs : List Hold). Counted held_by (hs ++ hand) w) (sym turned) next;
        names = (let a = st.names in let b = on.names in let long = length-append gs (g ∷ []) in omega (arith, a, b, long));
      }
