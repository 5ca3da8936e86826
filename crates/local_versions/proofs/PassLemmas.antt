-- a store over accelerated guards of its writer
use Rattle.std.proofs.Common.{◌≡◌, ℕ, zero, suc, ◌+◌, ◌-◌, ◌<◌, ◌≤◌, true, Option, None, List, [], ◌∷◌, length, get_or, refl, sym, ap, ◌∙◌, subst, arith, add-one, inl, inr, sum_by}
use Rattle.std.proofs.lemmas.Bool.Decides.{eqb_tells}
use Rattle.std.proofs.lemmas.List.{length-map}
use Rattle.std.specs.List.{All}
use Rattle.std.specs.declared.cmp.Ordering.{Ordering}
use Rattle.sdd_world.specs.Frame.{Frame, OnlyParticipant}
use Rattle.sdd_world.specs.Counting.{Counted}
use Rattle.sdd_world.specs.Groups.{GroupsShrink}
use Rattle.sdd_world.specs.Holding.{SharedIn}
use Rattle.sdd_world.specs.Passing.{CanPass, accelerated, is_plain, passed, passed_times, slot_kept}
use Rattle.sdd_world.specs.Place.{IsOpen, IsPlace}
use Rattle.sdd_world.specs.State.{ParticipantState, State, cell_at, in_use, local_at, usage, value_at}
use Rattle.sdd_world.specs.Steps.{guard_opened}
use Rattle.sdd_world.specs.declared.status.Cell.{Cell}
use Rattle.sdd_world.specs.declared.status.Cell.TheVariants as cell
use Rattle.sdd_world.specs.declared.status.LocalState.{LocalState}
use Rattle.sdd_world.specs.declared.status.Status.{Status}
use Rattle.sdd_world.specs.declared.status.Status.TheVariants as status
use Rattle.sdd_world.specs.declared.tag.Tag.TheVariants as tag
use Rattle.sdd_world.proofs.PassLemmas.{passes_reclaim}
use Rattle.sdd_world.proofs.GroupLemmas.{groups_same}
use Rattle.sdd_world.proofs.FrameLemmas.{keeps_closed, keeps_local, nests_local, only_local}
use Rattle.sdd_world.proofs.PlaceLemmas.{place_closed, place_local}
use Rattle.sdd_world.proofs.IdleParticipantLemmas.{gives_only}
use Rattle.version_views.specs.Items.{held_by, slots_of}
use Rattle.local_versions.specs.Reclaiming.{IsRooted}
use Rattle.version_views.specs.Versions.{blocks_of, segment_pairs}
use Rattle.version_views.proofs.BlockListLemmas.{blocks_fit}
use Rattle.version_views.specs.declared.item.Item.{Item}
use Rattle.version_views.specs.Sizes.{room_for}
use Rattle.local_versions.specs.Store.{IsReader, IsStore, Store, Version, store_of, version_in}
use Rattle.local_versions.specs.declared.store.readers.Opened.{Opened}
use Rattle.local_versions.proofs.ReclaimLemmas.{counted_passed, levelled_after, passes_leave_one}
use Rattle.local_versions.proofs.StoreLemmas.{Moves, moves_leave, opened_cell, opened_moves, opened_nesting, present_shows, root_stays, store_moved, version_is, writer_closed, writer_known, writer_reads, writer_shows}

module _ {K V : Type 0} {s : ℕ} (cmp : K → K → Ordering) where
  -- one guard of the writer
  module _ (w : State (Item K V s)) (root : ℕ) (places : List (Option (Opened K V s))) (store : IsStore cmp w root places) where
    abbrev p : ℕ
    p = length places

    abbrev o : State (Item K V s)
    o = guard_opened held_by p w

    abbrev fast : LocalState
    fast = record (local_at o p) { accelerated = true }

    abbrev a : State (Item K V s)
    a = accelerated p o

    abbrev c : State (Item K V s)
    c = passed held_by p w

    known : p < length w.participants
    known = writer_known cmp w root places store

    first : Moves cmp p root w o
    first = opened_moves cmp w root places store p known

    known_opened : p < length o.participants
    known_opened = let same = first.keeps.participants in let inside = known in omega (arith, same, inside)

    open_once : (local_at o p).nesting ≡ 1
    open_once = let more = opened_nesting cmp w root places store p known in let none = writer_closed cmp w root places store in omega (arith, more, none)

    keeps_fast : Frame o a
    keeps_fast = keeps_local o p fast known_opened (λ h. refl) (omega arith)

    place_fast : IsPlace a
    place_fast = place_local o p fast first.place known_opened (record { past = first.place.past p; began = first.place.began p; near = first.place.near p })

    known_fast : p < length a.participants
    known_fast = let same = keeps_fast.participants in let inside = known_opened in omega (arith, same, inside)

    fast_once : (local_at a p).nesting ≡ 1
    fast_once = nests_local o p fast known_opened refl p ∙ open_once

    fast_open : IsOpen a p
    fast_open = let once = fast_once in omega (arith, once)

    last_keeps : Frame a c × OnlyParticipant p a c
    last_keeps = keeps_closed a p known_fast

    same_items : (c.values ≡ o.values) × (c.states ≡ o.states) × (c.cells ≡ o.cells) × (c.groups ≡ o.groups) × ((local_at c p).nesting ≡ (local_at a p).nesting - 1)
    same_items = (gives_only held_by).closing p a known_fast

    only_pass : OnlyParticipant p w c
    only_pass k ne = last_keeps.1 k ne ∙ only_local o p fast k ne ∙ first.only k ne

    keeps_pass : Frame w c
    keeps_pass = record {
      states = last_keeps.0.states ∙ keeps_fast.states ∙ first.keeps.states;
      cells = last_keeps.0.cells ∙ keeps_fast.cells ∙ first.keeps.cells;
      participants = last_keeps.0.participants ∙ keeps_fast.participants ∙ first.keeps.participants;
      lives = λ i l. ap (λ (vs : List (Option (Item K V s))). get_or vs i None) same_items.0 ∙ first.keeps.lives i l;
      protects = λ q i before after held. elim (eqb_tells q p) [
        | inl e ↦ let own : 0 < (local_at w p).nesting = subst (λ (n : ℕ). 0 < (local_at w n).nesting) e.1 before in let none = writer_closed cmp w root places store in absurd (omega (arith, own, none))
        | inr ne ↦
            let one : IsOpen o q = subst (λ (m : ParticipantState). 0 < m.local.nesting) (sym (first.only q ne.1)) before in
            let two : IsOpen a q = subst (λ (m : ParticipantState). 0 < m.local.nesting) (sym (only_local o p fast q ne.1)) one in
            let x = first.keeps.protects q i before one held in
            let y = keeps_fast.protects q i one two x.1 in
            let z = last_keeps.0.protects q i two after y.1 in
            (z.0 ∙ y.0 ∙ x.0, z.1)
      ];
    }

    counted : Counted held_by (SharedIn root ∷ []) c
    counted = counted_passed p (SharedIn root ∷ []) w store.place known store.counted

    groups : GroupsShrink o.groups c.groups
    groups = subst (λ gs. GroupsShrink o.groups gs) (sym same_items.3) (groups_same o.groups)

    pass_moves : Moves cmp p root w c
    pass_moves = record {
      place = place_closed a p place_fast known_fast fast_open;
      keeps = keeps_pass;
      only = only_pass;
      counted = counted;
      plain = λ j. ap (λ (ss : List Status). is_plain (get_or ss j status.Free)) same_items.1 ∙ first.plain j;
      levelled = levelled_after o c (λ j v e. sym (ap (λ (vs : List (Option (Item K V s))). get_or vs j None) same_items.0) ∙ e) groups (SharedIn root ∷ []) counted first.levelled;
      rows = λ g was is. let r = groups g is in sym r.1 ∙ first.rows g was r.0;
    }

    pass_closed : (local_at c p).nesting ≡ 0
    pass_closed = let less = same_items.4 in let once = fast_once in omega (arith, less, once)

    pass_named : cell_at c root ≡ cell_at w root
    pass_named = ap (λ (cs : List Cell). get_or cs root cell.Free) same_items.2 ∙ opened_cell cmp w root places store p known

    pass_fewer : in_use c ≤ in_use w
    pass_fewer = let same = ap (λ (ss : List Status). sum_by usage ss) same_items.1 in let less = ((gives_only held_by).opening p w store.place known).1 in omega (arith, same, less)

    store_passed : IsStore cmp c root places
    store_passed = store_moved cmp w c root places store p places store.slot store.number store.pairs pass_moves (pass_named ∙ store.named) (root_stays cmp w c root places store (moves_leave cmp p root w c store.counted pass_moves)) refl (λ q ne. refl) (writer_reads cmp w c root places store pass_moves pass_closed) (λ ne. absurd (ne refl))

    passed_shows : store_of c root places ≡ record (store_of w root places) { used = in_use c; raises = c.count }
    passed_shows =
        let now : version_in c (slot_kept (cell_at c root)) ≡ record { number = store.number; pairs = store.pairs } = ap (λ (k : Cell). version_in c (slot_kept k)) (pass_named ∙ store.named) ∙ version_is cmp c store.slot store.number store.pairs (root_stays cmp w c root places store (moves_leave cmp p root w c store.counted pass_moves)) in
        writer_shows cmp w c root places store pass_moves
        ∙ ap (λ (v : Version K V). record (store_of w root places) { present = v; used = in_use c; raises = c.count }) (now ∙ sym (present_shows cmp w root places store))

  -- what guards of the writer leave of a store
  pub record Reclaimed (root : ℕ) (places : List (Option (Opened K V s))) (w w' : State (Item K V s)) : Type 0 where
    pub store : IsStore cmp w' root places
    pub shows : store_of w' root places ≡ record (store_of w root places) { used = in_use w'; raises = w'.count }
    pub fewer : in_use w' ≤ in_use w

  pub reclaimed : (n : ℕ) (w : State (Item K V s)) (root : ℕ) (places : List (Option (Opened K V s))) → IsStore cmp w root places → Reclaimed root places w (passed_times held_by (length places) n w)
  reclaimed zero w root places store = record { store = store; shows = refl; fewer = omega arith }
  reclaimed (suc n) w root places store =
      let mid : State (Item K V s) = passed held_by (length places) w in
      let end : State (Item K V s) = passed_times held_by (length places) n mid in
      let rest = reclaimed n mid root places (store_passed w root places store) in
      let less = pass_fewer w root places store in
      let more = rest.fewer in
      record {
        store = rest.store;
        shows = rest.shows ∙ ap (λ (x : Store K V). record x { used = in_use end; raises = end.count }) (passed_shows w root places store);
        fewer = omega (arith, less, more);
      }

  -- one guard more
  pub passed_more : (n p : ℕ) (w : State (Item K V s)) → passed_times held_by p (suc n) w ≡ passed held_by p (passed_times held_by p n w)
  passed_more zero p w = refl
  passed_more (suc n) p w = passed_more n p (passed held_by p w)

  none_at : (places : List (Option (Opened K V s))) → All (λ o. o ≡ None) places → (q : ℕ) → get_or places q None ≡ None
  none_at [] all q = refl
  none_at (o ∷ places) all zero = all 0 None (omega arith)
  none_at (o ∷ places) all (suc q) = none_at places (λ k d h. all (suc k) d (omega (arith, h))) q

  -- without readers no guard is open
  pub none_reads : (w : State (Item K V s)) (root : ℕ) (places : List (Option (Opened K V s))) → IsStore cmp w root places → All (λ o. o ≡ None) places → (q : ℕ) → (local_at w q).nesting ≡ 0
  none_reads w root places store all q = subst (λ (x : Option (Opened K V s)). IsReader cmp w q x) (none_at places all q) (store.readers q)

  -- so one guard raises the epoch once
  pub raises_once : (w : State (Item K V s)) (root : ℕ) (places : List (Option (Opened K V s))) → IsStore cmp w root places → All (λ o. o ≡ None) places → w.count < 18446744073709551615 → (passed_times held_by (length places) 1 w).count ≡ w.count + 1
  raises_once w root places store all count =
      let can : CanPass (1 + 0) (length places) w = record { place = store.place; known = writer_known cmp w root places store; none_open = none_reads w root places store all; room = omega (arith, count) } in
      ((passes_reclaim held_by).raised 1 0 (length places) w can).0

  -- and eight guards leave no more than the present version takes
  pub left_fits : (w : State (Item K V s)) (root : ℕ) (places : List (Option (Opened K V s))) → (store : IsStore cmp w root places) → All (λ o. o ≡ None) places → w.count ≤ 18446744073709551607 → in_use (passed_times held_by (length places) 8 w) ≤ room_for s (length store.pairs)
  left_fits w root places store all count =
      let d = store.version.directory in
      let can : CanPass 8 (length places) w = record { place = store.place; known = writer_known cmp w root places store; none_open = none_reads w root places store all; room = omega (arith, count) } in
      let rooted : IsRooted (length places) root store.slot d w = record {
        counted = store.counted;
        plain = store.plain;
        flat = (let levelled = store.levelled in levelled.flat);
        tag = tag.None;
        root = store.named;
        is = store.version.is;
        others = λ q ne. (store.quiet q ne).empty;
      } in
      let left = (passes_leave_one {K = K} {V = V} {s = s}).left (length places) root store.slot d w can rooted in
      let few = blocks_fit s (blocks_of w.groups (value_at w) d) store.version.whole.cut.tight in
      let long = length-map (slots_of w.groups d) (λ i. segment_pairs (value_at w i)) in
      subst (λ (ps : List (K × V)). in_use (passed_times held_by (length places) 8 w) ≤ room_for s (length ps)) store.version.list (omega (arith, left, few, long))

  -- the writer's guards, one by one, as the code makes them
  module _ (n : ℕ) (start w : State (Item K V s)) (root p : ℕ) (places : List (Option (Opened K V s))) (store : IsStore cmp start root places) (is : p ≡ length places) (now : w ≡ passed_times held_by p n start) where
    passing_store : IsStore cmp w root places
    passing_store = subst (λ (x : State (Item K V s)). IsStore cmp x root places) (sym (now ∙ ap (λ (q : ℕ). passed_times held_by q n start) is)) (reclaimed n start root places store).store

    pub passing_known : p < length w.participants
    passing_known = let inside = writer_known cmp w root places passing_store in omega (arith, inside, is)

    pub passing_closed : (local_at w p).nesting ≡ 0
    passing_closed = ap (λ (q : ℕ). (local_at w q).nesting) is ∙ writer_closed cmp w root places passing_store

    pub passing_next : (w3 : State (Item K V s)) → w3 ≡ passed held_by p w → w3 ≡ passed_times held_by p (n + 1) start
    passing_next w3 e = e ∙ ap (λ (x : State (Item K V s)). passed held_by p x) now ∙ sym (passed_more n p start) ∙ sym (ap (λ (k : ℕ). passed_times held_by p k start) (add-one n))
