-- placing segments, and then the directory that owns them
use Rattle.std.proofs.Common.{◌≡◌, ◌≢◌, ℕ, suc, ◌+◌, ◌<◌, ◌≤◌, Option, None, Some, List, [], ◌∷◌, ◌++◌, length, get_or, map, reverse, refl, sym, ap, ◌∙◌, arith, length-set, subst, get_or-set_other, get_or-set_same, inl, inr, sum_by}
use Rattle.std.proofs.lemmas.Bool.{false≢true, lt-ltb}
use Rattle.std.proofs.lemmas.Bool.Decides.{eqb_tells}
use Rattle.std.proofs.lemmas.List.{map-append, reverse-append}
use Rattle.std.proofs.lemmas.List.Elements.{All-push}
use Rattle.std.proofs.lemmas.List.Sums.{sum_by-set, sum_by-cons, sum_by-append}
use Rattle.std.specs.List.{All}
use Rattle.sdd_world.specs.Counting.{Counted, tally, same_hold}
use Rattle.sdd_world.specs.Frame.{Frame, IsLive, has_owner}
use Rattle.sdd_world.specs.Holding.{Hold, SharedItem}
use Rattle.sdd_world.specs.Place.{IsPlace, IsShared}
use Rattle.sdd_world.specs.State.{State, value_at, status_at, vacancy, usage, placed, with_status, IsFree}
use Rattle.sdd_world.specs.Steps.{times}
use Rattle.sdd_world.specs.declared.groups.Group.{Group}
use Rattle.sdd_world.specs.declared.status.Status.{Status}
use Rattle.sdd_world.specs.declared.status.Status.TheVariants as status
use Rattle.sdd_world.proofs.CountLemmas.{counted_placed_shared, owners_are_counted}
use Rattle.sdd_world.proofs.GroupLemmas.{groups_same, groups_then}
use Rattle.sdd_world.proofs.PassLemmas.{plain_after}
use Rattle.tree_index.specs.Tree.{Tree}
use Rattle.version_views.specs.Items.{held_by, names_of, slots_of}
use Rattle.version_views.specs.Versions.{IsSegment, segment_pairs}
use Rattle.version_views.specs.declared.directory.Directory.{Directory}
use Rattle.version_views.specs.declared.item.Item.{Item}
use Rattle.version_views.specs.declared.item.Item.TheVariants as items
use Rattle.version_views.specs.declared.row.Row.{Row}
use Rattle.local_versions.specs.Placing.{IsNoDirectory, IsLevelled, AddsItems, StandsIn}
use Rattle.local_versions.proofs.RowSlotLemmas.{named_slots, owns_slots}
use Rattle.local_versions.proofs.StayingLemmas.{keeps_then, map_same}

-- a list of places without a free one has no vacancy
pub no_vacancy : (ss : List Status) → ((i : ℕ) → i < length ss → get_or ss i status.Free ≢ status.Free) → sum_by vacancy ss ≡ 0
no_vacancy [] none = refl
no_vacancy (x ∷ ss) none =
    let rest = no_vacancy ss (λ i h. none (suc i) (omega (arith, h))) in
    let here : x ≢ status.Free = none 0 (omega arith) in
    let weighs : vacancy x ≡ 0 = full x here in
    let sum = sum_by-cons vacancy x ss in
    omega (arith, rest, weighs, sum)
  where
    full : (x : Status) → x ≢ status.Free → vacancy x ≡ 0
    full status.Free ne = absurd (ne refl)
    full status.Owned ne = refl
    full (status.Shared n) ne = refl
    full status.Raw ne = refl
    full (status.Collected n b) ne = refl
    full status.Retired ne = refl
    full status.Idle ne = refl
    full status.Deferred ne = refl

pub tally_reverse : (h : Hold) (ks : List Hold) → tally h (reverse ks) ≡ tally h ks
tally_reverse h [] = refl
tally_reverse h (k ∷ ks) =
    let turned = ap (tally h) (reverse-append (k ∷ []) ks) in
    let split = sum_by-append (λ x. same_hold h x) (reverse ks) (k ∷ []) in
    let one = sum_by-cons (λ x. same_hold h x) k [] in
    let more = sum_by-cons (λ x. same_hold h x) k ks in
    omega (arith, tally_reverse h ks, turned, split, one, more)

module _ {K V : Type 0} {s : ℕ} where
  -- an item is placed where none was
  module _ (w : State (Item K V s)) (i : ℕ) (v : Item K V s) (place : IsPlace w) (free : IsFree w i) where
    abbrev w' : State (Item K V s)
    w' = placed i v (status.Shared 1) w

    inside_values : i < length w.values
    inside_values = let size = place.sound.sizes in let inside = free.0 in omega (arith, size, inside)

    pub value_here : value_at w' i ≡ Some v
    value_here = get_or-set_same w.values i (Some v) None inside_values

    pub value_there : (j : ℕ) → j ≢ i → value_at w' j ≡ value_at w j
    value_there j ne = get_or-set_other w.values i j (Some v) None ne

    status_here : status_at w' i ≡ status.Shared 1
    status_here = get_or-set_same w.states i (status.Shared 1) status.Free free.0

    status_there : (j : ℕ) → j ≢ i → status_at w' j ≡ status_at w j
    status_there j ne = get_or-set_other w.states i j (status.Shared 1) status.Free ne

    pub live_apart : (j : ℕ) → IsLive w j → j ≢ i
    live_apart j live e = false≢true (ap has_owner (sym free.1) ∙ ap (λ (k : ℕ). has_owner (status_at w k)) (sym e) ∙ live)

    live_still : (j : ℕ) → IsLive w j → IsLive w' j
    live_still j live = ap has_owner (status_there j (live_apart j live)) ∙ live

    live_here : IsLive w' i
    live_here = ap has_owner status_here

    pub shared_here : IsShared w' i
    shared_here = record { inside = (let size = length-set w.states i (status.Shared 1) in let inside = free.0 in omega (arith, size, inside)); owners = 1; is = status_here }

    owned_still : (j : ℕ) → IsShared w j → IsShared w' j
    owned_still j sh = record { inside = (let size = length-set w.states i (status.Shared 1) in let inside = sh.inside in omega (arith, size, inside)); owners = sh.owners; is = status_there j (live_apart j (ap has_owner sh.is)) ∙ sh.is }

    pub adds_one : Frame w w' → ((hand : List Hold) → Counted held_by hand w → IsLevelled w → IsLevelled w') → AddsItems 1 w w'
    adds_one keeps levelled = record {
      count = refl;
      participants = refl;
      cells = refl;
      keeps = keeps;
      groups = groups_same w.groups;
      lives = live_still;
      owned = owned_still;
      uses = (let sum = sum_by-set usage w.states i (status.Shared 1) status.Free free.0 in let none = ap usage free.1 in omega (arith, sum, none));
      frees = (let sum = sum_by-set vacancy w.states i (status.Shared 1) status.Free free.0 in let one = ap vacancy free.1 in omega (arith, sum, one));
      plain = λ plain j. plain_after w.states i j (status.Shared 1) (λ e. refl) (plain j);
      levelled = levelled;
    }

  segment_no_directory : (o : Option (Item K V s)) (t : Tree K V) (d : Directory K Group) → o ≡ Some (items.Segment t) → o ≡ Some (items.Directory d) → ⊥
  segment_no_directory o t d e f = cc

  no_directory_of : (o : Option (Item K V s)) → IsSegment o → IsNoDirectory o
  no_directory_of None h = tt
  no_directory_of (Some (items.Directory d)) h = h
  no_directory_of (Some (items.Segment t)) h = tt

  -- a segment is placed: what was no directory is none
  module _ (w : State (Item K V s)) (i : ℕ) (t : Tree K V) (place : IsPlace w) (free : IsFree w i) (levelled : IsLevelled w) where
    abbrev with_segment : State (Item K V s)
    with_segment = placed i (items.Segment t) (status.Shared 1) w

    directory_was : (j : ℕ) (d : Directory K Group) → value_at with_segment j ≡ Some (items.Directory d) → value_at w j ≡ Some (items.Directory d)
    directory_was j d is =
        let v : Item K V s = items.Segment t in
        let other : j ≢ i = λ e. segment_no_directory (value_at with_segment j) t d (ap (λ (k : ℕ). value_at with_segment k) e ∙ value_here w i v place free) is in
        sym (value_there w i v place free j other) ∙ is

    none_still : (k : ℕ) → IsNoDirectory (value_at w k) → IsNoDirectory (value_at with_segment k)
    none_still k none =
        let v : Item K V s = items.Segment t in
        elim (eqb_tells k i) [
          | inl e ↦ let at : value_at with_segment k ≡ Some v = ap (λ (n : ℕ). value_at with_segment n) e.1 ∙ value_here w i v place free in subst (λ (o : Option (Item K V s)). IsNoDirectory o) (sym at) tt
          | inr e ↦ subst (λ (o : Option (Item K V s)). IsNoDirectory o) (sym (value_there w i v place free k e.1)) none
        ]

    levelled_segment : IsLevelled with_segment
    levelled_segment = record {
      flat = λ j d is n e h. none_still (get_or (slots_of w.groups d) n e) (levelled.flat j d (directory_was j d is) n e h);
      rows = λ j d is. levelled.rows j d (directory_was j d is);
      once = λ j d is. levelled.once j d (directory_was j d is);
    }

  shared_not_free : (w : State (Item K V s)) (i k : ℕ) → IsFree w i → IsShared w k → k ≢ i
  shared_not_free w i k free sh e = free_is_none sh.owners (sym free.1 ∙ ap (λ (n : ℕ). status_at w n) (sym e) ∙ sh.is)
    where
      free_is_none : (n : ℕ) → status.Free ≡ status.Shared n → ⊥
      free_is_none n e = cc

  -- a directory is placed above its segments: no item holds it
  module _ (w : State (Item K V s)) (i : ℕ) (d : Directory K Group) (hand : List Hold) (place : IsPlace w) (free : IsFree w i) (counted : Counted held_by hand w) (lives : All (λ k. IsLive w k) (slots_of w.groups d)) (segments : All (λ k. IsSegment (value_at w k)) (slots_of w.groups d)) (rows : (g : ℕ) → times g (names_of d.rows.items) ≤ 1) (once : (j : ℕ) → times j (slots_of w.groups d) ≤ 1) (levelled : IsLevelled w) where
    abbrev with_directory : State (Item K V s)
    with_directory = placed i (items.Directory d) (status.Shared 1) w

    rows_alike : (o : Option (Item K V s)) (e f : Directory K Group) → o ≡ Some (items.Directory e) → o ≡ Some (items.Directory f) → e.rows.items ≡ f.rows.items
    rows_alike o e f h k = cc

    rows_here : (j : ℕ) (e : Directory K Group) → j ≡ i → value_at with_directory j ≡ Some (items.Directory e) → e.rows.items ≡ d.rows.items
    rows_here j e t is = rows_alike (value_at with_directory j) e d is (ap (λ (n : ℕ). value_at with_directory n) t ∙ value_here w i (items.Directory d) place free)

    below_here : All (λ k. IsNoDirectory (value_at with_directory k)) (slots_of w.groups d)
    below_here n x h =
        let k = get_or (slots_of w.groups d) n x in
        subst (λ (o : Option (Item K V s)). IsNoDirectory o) (sym (value_there w i (items.Directory d) place free k (live_apart w i (items.Directory d) place free k (lives n x h)))) (no_directory_of (value_at w k) (segments n x h))

    below_there : (j : ℕ) (e : Directory K Group) → value_at w j ≡ Some (items.Directory e) → All (λ k. IsNoDirectory (value_at with_directory k)) (slots_of w.groups e)
    below_there j e was n x h =
        let k = get_or (slots_of w.groups e) n x in
        let sh : IsShared w k = owns_slots hand w counted j e was n x h in
        subst (λ (o : Option (Item K V s)). IsNoDirectory o) (sym (value_there w i (items.Directory d) place free k (shared_not_free w i k free sh))) (levelled.flat j e was n x h)

    pub levelled_directory : IsLevelled with_directory
    levelled_directory = record {
      flat = λ j e is. elim (eqb_tells j i) [
        | inl t ↦ subst (λ (rs : List (Row K Group)). All (λ k. IsNoDirectory (value_at with_directory k)) (named_slots w.groups rs)) (sym (rows_here j e t.1 is)) below_here
        | inr t ↦ below_there j e (sym (value_there w i (items.Directory d) place free j t.1) ∙ is)
      ];
      rows = λ j e is g. elim (eqb_tells j i) [
        | inl t ↦ subst (λ (rs : List (Row K Group)). times g (names_of rs) ≤ 1) (sym (rows_here j e t.1 is)) (rows g)
        | inr t ↦ levelled.rows j e (sym (value_there w i (items.Directory d) place free j t.1) ∙ is) g
      ];
      once = λ j e is k. elim (eqb_tells j i) [
        | inl t ↦ subst (λ (rs : List (Row K Group)). times k (named_slots w.groups rs) ≤ 1) (sym (rows_here j e t.1 is)) (once k)
        | inr t ↦ levelled.once j e (sym (value_there w i (items.Directory d) place free j t.1) ∙ is) k
      ];
    }

  pub adds_then : (m n : ℕ) (u v w : State (Item K V s)) → AddsItems m u v → AddsItems n v w → ((hand : List Hold) → Counted held_by hand u → IsLevelled u → IsLevelled w) → AddsItems (m + n) u w
  adds_then m n u v w a b levelled = record {
    count = b.count ∙ a.count;
    participants = b.participants ∙ a.participants;
    cells = b.cells ∙ a.cells;
    keeps = keeps_then u v w a.participants a.lives a.keeps b.keeps;
    groups = groups_then u.groups v.groups w.groups a.groups b.groups;
    lives = λ i l. b.lives i (a.lives i l);
    owned = λ i sh. b.owned i (a.owned i sh);
    uses = (let x = a.uses in let y = b.uses in omega (arith, x, y));
    frees = (let x = a.frees in let y = b.frees in omega (arith, x, y));
    plain = λ p. b.plain (a.plain p);
    levelled = levelled;
  }

  pub adds_none : (w : State (Item K V s)) → Frame w w → AddsItems 0 w w
  adds_none w keeps = record { count = refl; participants = refl; cells = refl; keeps = keeps; groups = groups_same w.groups; lives = λ i l. l; owned = λ i sh. sh; uses = omega arith; frees = omega arith; plain = λ p. p; levelled = λ hand c l. l }

  pub keeps_refl : (w : State (Item K V s)) → Frame w w
  keeps_refl w = record { states = refl; cells = refl; participants = refl; lives = λ i l. refl; protects = λ q i o o' k. (refl, k) }

  -- no segment is placed yet
  pub stands_none : (w : State (Item K V s)) → StandsIn 0 [] [] w w
  stands_none w = record {
    adds = adds_none w (keeps_refl w);
    same = refl;
    segments = λ k d h. absurd (omega (arith, h));
    lives = λ k d h. absurd (omega (arith, h));
    hold = refl;
    counted = λ hand c. c;
  }

  -- one more segment is placed
  pub stands_more : (n : ℕ) (u v w : State (Item K V s)) (xs : List ℕ) (bs : List (List (K × V))) (i : ℕ) (t : Tree K V) → StandsIn n xs bs u v → IsPlace v → IsFree v i → w ≡ placed i (items.Segment t) (status.Shared 1) v → Frame v w → StandsIn (n + 1) (xs ++ i ∷ []) (bs ++ t.pairs ∷ []) u w
  stands_more n u v w xs bs i t st place free is keeps' =
      let x : Item K V s = items.Segment t in
      let v' : State (Item K V s) = placed i x (status.Shared 1) v in
      let keeps : Frame v v' = subst (λ (y : State (Item K V s)). Frame v y) is keeps' in
      let one : AddsItems 1 v v' = adds_one v i x place free keeps (λ hand c l. levelled_segment v i t place free l) in
      let old : (k : ℕ) → IsLive v k → value_at v' k ≡ value_at v k = λ k l. value_there v i x place free k (live_apart v i x place free k l) in
      let whole : StandsIn (n + 1) (xs ++ i ∷ []) (bs ++ t.pairs ∷ []) u v' = record {
        adds = (adds_then n 1 u v v' st.adds one (λ hand c l. levelled_segment v i t place free (st.adds.levelled hand c l)));
        same = st.same;
        segments = All-push (λ k. IsSegment (value_at v' k)) xs i (λ k d h. subst (λ (o : Option (Item K V s)). IsSegment o) (sym (old (get_or xs k d) (st.lives k d h))) (st.segments k d h)) (subst (λ (o : Option (Item K V s)). IsSegment o) (sym (value_here v i x place free)) tt);
        lives = All-push (λ k. IsLive v' k) xs i (λ k d h. one.lives (get_or xs k d) (st.lives k d h)) (live_here v i x place free);
        hold =
            let before = map_same (λ k. segment_pairs (value_at v' k)) (λ k. segment_pairs (value_at v k)) xs (λ k d h. ap (λ (o : Option (Item K V s)). segment_pairs o) (old (get_or xs k d) (st.lives k d h))) in
            let here : segment_pairs (value_at v' i) ≡ t.pairs = ap (λ (o : Option (Item K V s)). segment_pairs o) (value_here v i x place free) in
            map-append (λ k. segment_pairs (value_at v' k)) xs (i ∷ []) ∙ ap (λ ys. ys ++ segment_pairs (value_at v' i) ∷ []) (before ∙ st.hold) ∙ ap (λ y. bs ++ y ∷ []) here;
        counted = λ hand c.
            let next = counted_placed_shared held_by i x (reverse (map SharedItem xs) ++ hand) v place free (st.counted hand c) in
            let names : reverse (map SharedItem (xs ++ i ∷ [])) ≡ SharedItem i ∷ reverse (map SharedItem xs) = ap reverse (map-append SharedItem xs (i ∷ [])) ∙ reverse-append (map SharedItem xs) (SharedItem i ∷ []) in
            subst (λ (hs : List Hold). Counted held_by (hs ++ hand) v') (sym names) next;
      } in
      subst (λ (y : State (Item K V s)). StandsIn (n + 1) (xs ++ i ∷ []) (bs ++ t.pairs ∷ []) u y) (sym is) whole

  -- a segment that is there has one more owner
  module _ (v : State (Item K V s)) (i k : ℕ) (inside : i < length v.states) (is : status_at v i ≡ status.Shared k) where
    abbrev more_owners : State (Item K V s)
    more_owners = with_status i (status.Shared (k + 1)) v

    owners_here : status_at more_owners i ≡ status.Shared (k + 1)
    owners_here = get_or-set_same v.states i (status.Shared (k + 1)) status.Free inside

    owners_there : (j : ℕ) → j ≢ i → status_at more_owners j ≡ status_at v j
    owners_there j ne = get_or-set_other v.states i j (status.Shared (k + 1)) status.Free ne

    live_with : (j : ℕ) → IsLive v j → IsLive more_owners j
    live_with j live = elim (eqb_tells j i) [
      | inl e ↦ ap (λ (n : ℕ). has_owner (status_at more_owners n)) e.1 ∙ ap has_owner owners_here
      | inr e ↦ ap has_owner (owners_there j e.1) ∙ live
    ]

    owned_with : (j : ℕ) → IsShared v j → IsShared more_owners j
    owned_with j sh =
        let size = length-set v.states i (status.Shared (k + 1)) in
        let within = sh.inside in
        elim (eqb_tells j i) [
          | inl e ↦ record { inside = omega (arith, size, within); owners = k + 1; is = ap (λ (n : ℕ). status_at more_owners n) e.1 ∙ owners_here }
          | inr e ↦ record { inside = omega (arith, size, within); owners = sh.owners; is = owners_there j e.1 ∙ sh.is }
        ]

    adds_owner : Frame v more_owners → AddsItems 0 v more_owners
    adds_owner keeps = record {
      count = refl;
      participants = refl;
      cells = refl;
      keeps = keeps;
      groups = groups_same v.groups;
      lives = live_with;
      owned = owned_with;
      uses = (let sum = sum_by-set usage v.states i (status.Shared (k + 1)) status.Free inside in let one = ap usage is in omega (arith, sum, one));
      frees = (let sum = sum_by-set vacancy v.states i (status.Shared (k + 1)) status.Free inside in let none = ap vacancy is in omega (arith, sum, none));
      plain = λ plain j. plain_after v.states i j (status.Shared (k + 1)) (λ e. lt-ltb 0 (k + 1) (omega arith)) (plain j);
      levelled = λ hand c l. record { flat = l.flat; rows = l.rows; once = l.once };
    }

  pub stands_taken : (n : ℕ) (u v w : State (Item K V s)) (xs : List ℕ) (bs : List (List (K × V))) (i k : ℕ) → StandsIn n xs bs u v → i < length v.states → status_at v i ≡ status.Shared k → IsSegment (value_at v i) → w ≡ with_status i (status.Shared (k + 1)) v → Frame v w → StandsIn n (xs ++ i ∷ []) (bs ++ segment_pairs (value_at v i) ∷ []) u w
  stands_taken n u v w xs bs i k st inside was segment is keeps' =
      let v' : State (Item K V s) = with_status i (status.Shared (k + 1)) v in
      let keeps : Frame v v' = subst (λ (y : State (Item K V s)). Frame v y) is keeps' in
      let none : AddsItems 0 v v' = adds_owner v i k inside was keeps in
      let same : n + 0 ≡ n = omega arith in
      let live : IsLive v i = ap has_owner was in
      let whole : StandsIn n (xs ++ i ∷ []) (bs ++ segment_pairs (value_at v i) ∷ []) u v' = record {
        adds = subst (λ (m : ℕ). AddsItems m u v') same (adds_then n 0 u v v' st.adds none (λ hand c l. let m = st.adds.levelled hand c l in record { flat = m.flat; rows = m.rows; once = m.once }));
        same = st.same;
        segments = All-push (λ j. IsSegment (value_at v j)) xs i st.segments segment;
        lives = All-push (λ j. IsLive v' j) xs i (λ j d h. none.lives (get_or xs j d) (st.lives j d h)) (none.lives i live);
        hold = map-append (λ j. segment_pairs (value_at v j)) xs (i ∷ []) ∙ ap (λ ys. ys ++ segment_pairs (value_at v i) ∷ []) st.hold;
        counted = λ hand c.
            let next = (owners_are_counted held_by).cloned i k (reverse (map SharedItem xs) ++ hand) v was inside (st.counted hand c) in
            let names : reverse (map SharedItem (xs ++ i ∷ [])) ≡ SharedItem i ∷ reverse (map SharedItem xs) = ap reverse (map-append SharedItem xs (i ∷ [])) ∙ reverse-append (map SharedItem xs) (SharedItem i ∷ []) in
            subst (λ (hs : List Hold). Counted held_by (hs ++ hand) v') (sym names) next;
      } in
      subst (λ (y : State (Item K V s)). StandsIn n (xs ++ i ∷ []) (bs ++ segment_pairs (value_at v i) ∷ []) u y) (sym is) whole
