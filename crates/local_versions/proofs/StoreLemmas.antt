-- what a store keeps while guards open and close, and versions are published and reclaimed
use Rattle.std.proofs.Common.{◌≡◌, ◌≢◌, ℕ, zero, suc, ◌+◌, ◌^◌, ◌<◌, ◌≤◌, true, false, cond, Option, None, Some, List, [], ◌∷◌, length, get_or, set, map, refl, sym, ap, ◌∙◌, subst, arith, inl, inr, get_or-set_same, get_or-set_other, length-set}
use Rattle.std.proofs.lemmas.Bool.{false≢true}
use Rattle.std.proofs.lemmas.Bool.Decides.{eqb_tells}
use Rattle.std.proofs.lemmas.List.{get_or_past, get_or_read, map-set}
use Rattle.std.specs.List.{slice_get, sum_by}
use Rattle.std.proofs.lemmas.List.Sums.{get_or-le-sum_by, sum_by-cons}
use Rattle.std.specs.Option.{is_some, option_map}
use Rattle.std.specs.declared.cmp.Ordering.{Ordering}
use Rattle.sdd_world.specs.Counting.{Counted, same_hold, tally}
use Rattle.sdd_world.specs.Frame.{IsLive, Frame, OnlyParticipant, has_owner}
use Rattle.sdd_world.specs.Groups.{GroupState, GroupsShrink, SameRows}
use Rattle.sdd_world.specs.Holding.{SharedIn}
use Rattle.sdd_world.specs.Passing.{IsPlain, IsQuiet, Shrinks, OnlyParticipantsChange, is_plain, slot_kept}
use Rattle.sdd_world.specs.Place.{IsOpen, IsPlace, IsReadable, IsShared, IsSharedCell}
use Rattle.sdd_world.specs.State.{State, ParticipantState, cell_at, in_use, is_used, local_at, usage, value_at}
use Rattle.sdd_world.specs.Steps.{bags_empty, guard_closed, guard_opened}
use Rattle.sdd_world.specs.Tokens.{loaded_slot, guard_participant}
use Rattle.sdd_world.specs.declared.status.Cell.{Cell}
use Rattle.sdd_world.specs.declared.status.Status.{Status}
use Rattle.sdd_world.specs.declared.status.Status.TheVariants as status
use Rattle.sdd_world.specs.declared.status.Cell.TheVariants as cell
use Rattle.sdd_world.specs.declared.tag.Tag.TheVariants as tag
use Rattle.sdd_world.proofs.CellLemmas.{held_cells_stay}
use Rattle.sdd_world.proofs.CountLemmas.{owners_are_counted}
use Rattle.sdd_world.proofs.FrameLemmas.{keeps_closed, keeps_opened}
use Rattle.sdd_world.proofs.PlaceLemmas.{place_closed, place_opened}
use Rattle.sdd_world.proofs.IdleParticipantLemmas.{gives_only}
use Rattle.sdd_world.proofs.GroupLemmas.{groups_same, shrunk_rows}
use Rattle.sdd_world.proofs.ListLemmas.{hit-same}
use Rattle.version_views.specs.Items.{held_by}
use Rattle.local_versions.specs.Placing.{HasVersion, IsLevelled}
use Rattle.version_views.specs.Versions.{list_of}
use Rattle.version_views.specs.declared.item.Item.{Item}
use Rattle.local_versions.proofs.ReclaimLemmas.{levelled_after}
use Rattle.local_versions.specs.Staying.{Leaves}
use Rattle.local_versions.proofs.StayingLemmas.{versions_stay}
use Rattle.local_versions.specs.Store.{IsReader, IsStore, HasVersionOpen, Version, read_by, store_of, version_in, version_of}
use Rattle.local_versions.specs.declared.store.readers.Opened.{Opened}
use Rattle.version_views.proofs.OptionLemmas.{mapped_none, mapped_some, read_there}

-- a used slot is one of the place's
used_inside : (ss : List Status) (i : ℕ) → is_used (get_or ss i status.Free) ≡ true → i < length ss
used_inside [] i e = absurd (false≢true e)
used_inside (x ∷ ss) zero e = omega arith
used_inside (x ∷ ss) (suc i) e = let r = used_inside ss i e in omega (arith, r)

-- a cell in hand is named once
named_once : (root : ℕ) → 1 ≤ tally (SharedIn root) (SharedIn root ∷ [])
named_once root = let sum = sum_by-cons (λ k. same_hold (SharedIn root) k) (SharedIn root) [] in let one = hit-same root in omega (arith, sum, one)

usage_small : (x : Status) → usage x ≤ 1
usage_small x = elim (is_used x) as (λ b. cond b 1 0 ≤ 1) [ true ↦ omega arith | false ↦ omega arith ]

usage_within : (ss : List Status) → sum_by usage ss ≤ length ss
usage_within [] = omega arith
usage_within (x ∷ ss) = let more = sum_by-cons usage x ss in let small = usage_small x in let rest = usage_within ss in omega (arith, more, small, rest)

module _ {K V : Type 0} {s : ℕ} (cmp : K → K → Ordering) where
  -- a version is read as what it is
  pub version_is : (w : State (Item K V s)) (i number : ℕ) (pairs : List (K × V)) → HasVersion cmp w i number pairs → version_in w (Some i) ≡ record { number = number; pairs = pairs }
  version_is w i number pairs v =
      ap (λ (o : Option (Item K V s)). version_of w o) v.is
      ∙ ap (λ (n : ℕ). record { number = n; pairs = list_of w.groups (value_at w) v.directory }) v.numbered
      ∙ ap (λ (ps : List (K × V)). record { number = number; pairs = ps }) v.list

  -- what a step of participant p leaves
  pub record Moves (p root : ℕ) (w w' : State (Item K V s)) : Type 0 where
    pub place : IsPlace w'
    pub keeps : Frame w w'
    pub only : OnlyParticipant p w w'
    pub counted : Counted held_by (SharedIn root ∷ []) w'
    pub plain : IsPlain w'
    pub levelled : IsLevelled w'
    pub rows : SameRows w.groups w'.groups

  -- which is what versions stay over
  pub moves_leave : (p root : ℕ) (w w' : State (Item K V s)) → Counted held_by (SharedIn root ∷ []) w → Moves p root w w' → Leaves w w'
  moves_leave p root w w' counted moves = record { before = SharedIn root ∷ []; counted = counted; after = SharedIn root ∷ []; still = moves.counted; keeps = moves.keeps; rows = moves.rows }

  module _ (w w' : State (Item K V s)) (root : ℕ) (places : List (Option (Opened K V s))) (store : IsStore cmp w root places) where
    root_shared : IsShared w store.slot
    root_shared = (owners_are_counted held_by).kept root store.slot tag.None (SharedIn root ∷ []) w store.named store.counted

    root_live : IsLive w store.slot
    root_live = ap has_owner root_shared.is

    -- the present version stays
    pub root_stays : Leaves w w' → HasVersion cmp w' store.slot store.number store.pairs
    root_stays leaves = (versions_stay cmp).owned w w' store.slot store.number store.pairs root_live store.version leaves

    -- and so do those of readers that don't take the step
    pub reader_stays : (p q : ℕ) (o : Option (Opened K V s)) → q ≢ p → Leaves w w' → OnlyParticipant p w w' → IsReader cmp w q o → IsReader cmp w' q o
    reader_stays p q None ne leaves only r = ap (λ (m : ParticipantState). m.local.nesting) (only q ne) ∙ r
    reader_stays p q (Some o) ne leaves only r =
        let once : (local_at w' q).nesting ≡ 1 = ap (λ (m : ParticipantState). m.local.nesting) (only q ne) ∙ r.once in
        let was = r.once in
        let t = (versions_stay cmp).stays w w' q r.slot r.number r.pairs (omega (arith, was)) (omega (arith, once)) r.version r.seen leaves in
        record { once = once; guard = r.guard; slot = r.slot; named = r.named; number = r.number; pairs = r.pairs; version = t.0; seen = t.1 }

    -- which read what they read before
    pub reads_same : (p q : ℕ) (o : Opened K V s) → q ≢ p → Leaves w w' → OnlyParticipant p w w' → HasVersionOpen cmp w q o → read_by w' o ≡ read_by w o
    reads_same p q o ne leaves only r =
        let once : (local_at w' q).nesting ≡ 1 = ap (λ (m : ParticipantState). m.local.nesting) (only q ne) ∙ r.once in
        let was = r.once in
        let t = (versions_stay cmp).stays w w' q r.slot r.number r.pairs (omega (arith, was)) (omega (arith, once)) r.version r.seen leaves in
        ap (version_in w') r.named ∙ version_is w' r.slot r.number r.pairs t.0 ∙ sym (version_is w r.slot r.number r.pairs r.version) ∙ sym (ap (version_in w) r.named)

    quiet_stays : (p q : ℕ) → q ≢ p → OnlyParticipant p w w' → IsQuiet w q → IsQuiet w' q
    quiet_stays p q ne only h = record {
      empty = ap bags_empty (only q ne) ∙ h.empty;
      clean = ap (λ (m : ParticipantState). m.local.garbage) (only q ne) ∙ h.clean;
      slow = ap (λ (m : ParticipantState). m.local.accelerated) (only q ne) ∙ h.slow;
    }

    -- a step of p, which may change the version that the root names, and what p itself has
    pub store_moved : (p : ℕ) (places' : List (Option (Opened K V s))) (slot number : ℕ) (pairs : List (K × V)) → Moves p root w w' → cell_at w' root ≡ cell.OfShared (Some slot) tag.None → HasVersion cmp w' slot number pairs → length places' ≡ length places → ((q : ℕ) → q ≢ p → get_or places' q None ≡ get_or places q None) → IsReader cmp w' p (get_or places' p None) → (p ≢ length places → IsQuiet w' p) → IsStore cmp w' root places'
    store_moved p places' slot number pairs moves named version long others own quiet = record {
      place = moves.place;
      participants = (let kept = moves.keeps.participants in let was = store.participants in omega (arith, kept, was, long));
      slots = subst (λ (n : ℕ). n ≤ 2 ^ 30) (sym moves.keeps.states) store.slots;
      cells = moves.keeps.cells ∙ store.cells;
      counted = moves.counted;
      plain = moves.plain;
      levelled = moves.levelled;
      slot = slot;
      named = named;
      number = number;
      pairs = pairs;
      version = version;
      readers = λ q. elim (eqb_tells q p) [
        | inl e ↦ subst (λ (n : ℕ). IsReader cmp w' n (get_or places' n None)) (sym e.1) own
        | inr e ↦ subst (λ (o : Option (Opened K V s)). IsReader cmp w' q o) (sym (others q e.1)) (reader_stays p q (get_or places q None) e.1 (moves_leave p root w w' store.counted moves) moves.only (store.readers q))
      ];
      quiet = λ q ne. elim (eqb_tells q p) [
        | inl e ↦ subst (λ (n : ℕ). IsQuiet w' n) (sym e.1) (quiet (λ f. ne (e.1 ∙ f ∙ sym long)))
        | inr e ↦ quiet_stays p q e.1 moves.only (store.quiet q (λ f. ne (f ∙ sym long)))
      ];
    }

  -- readers that read the same
  pub readers_same : (w w' : State (Item K V s)) (places : List (Option (Opened K V s))) → ((q : ℕ) (o : Opened K V s) → get_or places q None ≡ Some o → read_by w' o ≡ read_by w o) → map (option_map (read_by w')) places ≡ map (option_map (read_by w)) places
  readers_same w w' [] same = refl
  readers_same w w' (p ∷ places) same =
      let rest = readers_same w w' places (λ q o e. same (suc q) o e) in
      ap (λ r. r ∷ map (option_map (read_by w')) places) (here p refl) ∙ ap (λ rs. option_map (read_by w) p ∷ rs) rest
    where
      here : (x : Option (Opened K V s)) → x ≡ p → option_map (read_by w') x ≡ option_map (read_by w) x
      here None e = refl
      here (Some o) e = ap (λ (v : Version K V). Some v) (same 0 o (sym e))

  -- where only participants changed, the same is shown
  pub stands_shows : (w w' : State (Item K V s)) (root : ℕ) (places : List (Option (Opened K V s))) → OnlyParticipantsChange w w' → store_of w' root places ≡ store_of w root places
  stands_shows w w' root places stands =
      ap (λ (n : ℕ). store_of (record w' { count = n }) root places) stands.count
      ∙ ap (λ (vs : List (Option (Item K V s))). store_of (record w' { count = w.count; values = vs }) root places) stands.values
      ∙ ap (λ (ss : List Status). store_of (record w' { count = w.count; values = w.values; states = ss }) root places) stands.states
      ∙ ap (λ (cs : List Cell). store_of (record w' { count = w.count; values = w.values; states = w.states; cells = cs }) root places) stands.cells
      ∙ ap (λ (gs : List GroupState). store_of (record w' { count = w.count; values = w.values; states = w.states; cells = w.cells; groups = gs }) root places) stands.groups

  module _ (w : State (Item K V s)) (root : ℕ) (places : List (Option (Opened K V s))) (store : IsStore cmp w root places) (p : ℕ) (known : p < length w.participants) where
    -- a guard opens
    abbrev started : State (Item K V s)
    started = guard_opened held_by p w

    pub opened_moves : Moves p root w started
    opened_moves =
        let keeps = keeps_opened held_by w p store.place known in
        let shrinks : Shrinks w started = ((gives_only held_by).opening p w store.place known).0 in
        let counted = (owners_are_counted held_by).opened p (SharedIn root ∷ []) w store.place known store.counted in
        record {
          place = place_opened held_by w p store.place known;
          keeps = keeps.0;
          only = keeps.1;
          counted = counted;
          plain = λ j. shrinks.plain j (store.plain j);
          levelled = levelled_after w started shrinks.values shrinks.groups (SharedIn root ∷ []) counted store.levelled;
          rows = shrunk_rows w.groups started.groups shrinks.groups;
        }

    pub opened_nesting : (local_at started p).nesting ≡ (local_at w p).nesting + 1
    opened_nesting = ((gives_only held_by).opening p w store.place known).2

    pub opened_cell : cell_at started root ≡ cell_at w root
    opened_cell = (held_cells_stay held_by).hand root p (SharedIn root ∷ []) w store.place known (named_once root) store.counted

    -- the root's cell is there
    pub opened_used : IsSharedCell started root
    opened_used = (owners_are_counted held_by).cell_in_hand root [] started opened_moves.counted

    -- a reader opens
    pub store_opened : (o : Opened K V s) → p < length places → get_or places p None ≡ None → guard_participant o.guard ≡ p → loaded_slot o.root ≡ Some store.slot → IsStore cmp started root (set places p (Some o))
    store_opened o inside free guard named =
        let moves = opened_moves in
        let named' : cell_at started root ≡ cell.OfShared (Some store.slot) tag.None = opened_cell ∙ store.named in
        let version : HasVersion cmp started store.slot store.number store.pairs = root_stays w started root places store (moves_leave p root w started store.counted moves) in
        let shared : IsShared started store.slot = (owners_are_counted held_by).kept root store.slot tag.None (SharedIn root ∷ []) started named' moves.counted in
        let live : IsLive started store.slot = ap has_owner shared.is in
        let closed_before : (local_at w p).nesting ≡ 0 = subst (λ (x : Option (Opened K V s)). IsReader cmp w p x) free (store.readers p) in
        let more = opened_nesting in
        let reads : HasVersionOpen cmp started p o = record {
          once = omega (arith, more, closed_before);
          guard = guard;
          slot = store.slot;
          named = named;
          number = store.number;
          pairs = store.pairs;
          version = version;
          seen = (versions_stay cmp).seen (SharedIn root ∷ []) started p store.slot store.number store.pairs moves.counted moves.place live version;
        } in
        let not_writer : p ≢ length places = λ e. omega (arith, inside, e) in
        store_moved w started root places store p (set places p (Some o)) store.slot store.number store.pairs moves named' version (length-set places p (Some o))
        (λ q ne. get_or-set_other places p q (Some o) None ne)
        (subst (λ (x : Option (Opened K V s)). IsReader cmp started p x) (sym (get_or-set_same places p (Some o) None inside)) reads)
        (λ ne. ((gives_only held_by).quiet_opening p w store.place known (store.quiet p not_writer)).1)

    -- it reads the present version
    pub opened_shows : (o : Opened K V s) → p < length places → loaded_slot o.root ≡ Some store.slot → store_of started root (set places p (Some o)) ≡ record (store_of w root places) { readers = set (map (option_map (read_by w)) places) p (Some (version_in w (slot_kept (cell_at w root)))) }
    opened_shows o inside named =
        let not_writer : p ≢ length places = λ e. omega (arith, inside, e) in
        let stands = ((gives_only held_by).quiet_opening p w store.place known (store.quiet p not_writer)).0 in
        let same : read_by w o ≡ version_in w (slot_kept (cell_at w root)) = ap (version_in w) (named ∙ sym (ap slot_kept store.named)) in
        stands_shows w started root (set places p (Some o)) stands
        ∙ ap (λ (rs : List (Option (Version K V))). record (store_of w root places) { readers = rs }) (map-set (option_map (read_by w)) places p (Some o) ∙ ap (λ (v : Version K V). set (map (option_map (read_by w)) places) p (Some v)) same)

    -- a guard closes
    abbrev ended : State (Item K V s)
    ended = guard_closed p w

    closed_moves : IsOpen w p → Moves p root w ended
    closed_moves opens =
        let keeps = keeps_closed w p known in
        let same = (gives_only held_by).closing p w known in
        let counted = (owners_are_counted held_by).closed p (SharedIn root ∷ []) w store.counted in
        let groups : GroupsShrink w.groups ended.groups = subst (λ gs. GroupsShrink w.groups gs) (sym same.3) (groups_same w.groups) in
        record {
          place = place_closed w p store.place known opens;
          keeps = keeps.0;
          only = keeps.1;
          counted = counted;
          plain = λ j. ap (λ (ss : List Status). is_plain (get_or ss j status.Free)) same.1 ∙ store.plain j;
          levelled = levelled_after w ended (λ j v e. sym (ap (λ (vs : List (Option (Item K V s))). get_or vs j None) same.0) ∙ e) groups (SharedIn root ∷ []) counted store.levelled;
          rows = shrunk_rows w.groups ended.groups groups;
        }

    -- a reader closes
    pub store_closed : (o : Opened K V s) → p < length places → get_or places p None ≡ Some o → IsStore cmp ended root (set places p None)
    store_closed o inside there =
        let r : HasVersionOpen cmp w p o = subst (λ (x : Option (Opened K V s)). IsReader cmp w p x) there (store.readers p) in
        let was = r.once in
        let moves = closed_moves (omega (arith, was)) in
        let same = (gives_only held_by).closing p w known in
        let named' : cell_at ended root ≡ cell.OfShared (Some store.slot) tag.None = ap (λ (cs : List Cell). get_or cs root cell.Free) same.2 ∙ store.named in
        let less = same.4 in
        let now : (local_at ended p).nesting ≡ 0 = omega (arith, less, was) in
        let not_writer : p ≢ length places = λ e. omega (arith, inside, e) in
        store_moved w ended root places store p (set places p None) store.slot store.number store.pairs moves named' (root_stays w ended root places store (moves_leave p root w ended store.counted moves)) (length-set places p None)
        (λ q ne. get_or-set_other places p q None None ne)
        (subst (λ (x : Option (Opened K V s)). IsReader cmp ended p x) (sym (get_or-set_same places p None None inside)) now)
        (λ ne. ((gives_only held_by).quiet_closing p w known (store.quiet p not_writer)).1)

    pub closed_shows : p < length places → store_of ended root (set places p None) ≡ record (store_of w root places) { readers = set (map (option_map (read_by w)) places) p None }
    closed_shows inside =
        let not_writer : p ≢ length places = λ e. omega (arith, inside, e) in
        let stands = ((gives_only held_by).quiet_closing p w known (store.quiet p not_writer)).0 in
        stands_shows w ended root (set places p None) stands
        ∙ ap (λ (rs : List (Option (Version K V))). record (store_of w root places) { readers = rs }) (map-set (option_map (read_by w)) places p None)

  -- what the store shows after a step of the writer
  module _ (w w' : State (Item K V s)) (root : ℕ) (places : List (Option (Opened K V s))) (store : IsStore cmp w root places) (moves : Moves (length places) root w w') where
    writer_none : get_or places (length places) None ≡ None
    writer_none = get_or_past places (length places) None (omega arith)

    pub writer_shows : store_of w' root places ≡ record (store_of w root places) { present = version_in w' (slot_kept (cell_at w' root)); used = in_use w'; raises = w'.count }
    writer_shows =
        let readers = readers_same w w' places (λ q o e. reads_same w w' root places store (length places) q o (λ f. none_is_some (ap (λ (n : ℕ). get_or places n None) (sym f) ∙ e)) (moves_leave (length places) root w w' store.counted moves) moves.only (subst (λ (x : Option (Opened K V s)). IsReader cmp w q x) e (store.readers q))) in
        ap (λ (rs : List (Option (Version K V))). record (store_of w' root places) { readers = rs }) readers
        ∙ ap (λ (n : ℕ). record (store_of w' root places) { readers = map (option_map (read_by w)) places; slots = n }) moves.keeps.states
      where
        none_is_some : {o : Opened K V s} → get_or places (length places) None ≡ Some o → ⊥
        none_is_some {o} e = none_some o (sym writer_none ∙ e)
          where
            none_some : (o : Opened K V s) → None ≡ Some o → ⊥
            none_some o e = cc

    pub writer_reads : (local_at w' (length places)).nesting ≡ 0 → IsReader cmp w' (length places) (get_or places (length places) None)
    writer_reads none = subst (λ (x : Option (Opened K V s)). IsReader cmp w' (length places) x) (sym writer_none) none

  module _ (w : State (Item K V s)) (root : ℕ) (places : List (Option (Opened K V s))) (store : IsStore cmp w root places) where
    pub writer_known : length places < length w.participants
    writer_known = let participants = store.participants in omega (arith, participants)

    pub writer_closed : (local_at w (length places)).nesting ≡ 0
    writer_closed = subst (λ (x : Option (Opened K V s)). IsReader cmp w (length places) x) (get_or_past places (length places) None (omega arith)) (store.readers (length places))

    pub present_shows : version_in w (slot_kept (cell_at w root)) ≡ record { number = store.number; pairs = store.pairs }
    present_shows = ap (λ (k : Cell). version_in w (slot_kept k)) store.named ∙ version_is w store.slot store.number store.pairs store.version

  -- the reader of a place, as it is read there
  pub record ReaderAt (w : State (Item K V s)) (places : List (Option (Opened K V s))) (place : ℕ) (o : Opened K V s) (v : Version K V) : Type 0 where
    pub inside : place < length places
    pub at : get_or places place None ≡ Some o
    pub reads : HasVersionOpen cmp w place o
    pub shows : read_by w o ≡ v

  -- the reader that is found at a place
  pub reader_known : (w : State (Item K V s)) (root : ℕ) (places : List (Option (Opened K V s))) → IsStore cmp w root places → (place : ℕ) (v : Version K V) (o : Opened K V s) → slice_get (map (option_map (read_by w)) places) place ≡ Some (Some v) → get_or places place None ≡ Some o → ReaderAt w places place o v
  reader_known w root places store place v o shown at =
      let r = mapped_some (read_by w) places place v shown in
      let t = read_there places place (Some r.0) r.1 in
      let same : r.0 ≡ o = some_same r.0 o (sym t.1 ∙ at) in
      record { inside = t.0; at = at; reads = subst (λ (x : Option (Opened K V s)). IsReader cmp w place x) at (store.readers place); shows = ap (read_by w) (sym same) ∙ r.2 }
    where
      some_same : (x y : Opened K V s) → Some x ≡ Some y → x ≡ y
      some_same x y e = cc

  module _ (w : State (Item K V s)) (root : ℕ) (places : List (Option (Opened K V s))) (store : IsStore cmp w root places) (place : ℕ) (read : Option (Opened K V s)) (is : read ≡ get_or places place read) where
    pub reader_at : (v : Version K V) (o : Opened K V s) → slice_get (map (option_map (read_by w)) places) place ≡ Some (Some v) → read ≡ Some o → ReaderAt w places place o v
    reader_at v o shown found =
        let r = mapped_some (read_by w) places place v shown in
        let t = read_there places place (Some r.0) r.1 in
        reader_known w root places store place v o shown (sym (get_or_read places place read t.0 is None) ∙ found)

    -- where one reads, there is one
    pub reader_there : (v : Version K V) → slice_get (map (option_map (read_by w)) places) place ≡ Some (Some v) → read ≡ None → ⊥
    reader_there v shown none =
        let r = mapped_some (read_by w) places place v shown in
        let t = read_there places place (Some r.0) r.1 in
        none_some r.0 (sym none ∙ get_or_read places place read t.0 is None ∙ t.1)
      where
        none_some : (o : Opened K V s) → None ≡ Some o → ⊥
        none_some o e = cc

    -- where none reads, there is none
    pub reader_free : (o : Opened K V s) → slice_get (map (option_map (read_by w)) places) place ≡ Some None → read ≡ Some o → ⊥
    reader_free o shown found =
        let t = read_there places place None (mapped_none (read_by w) places place shown) in
        none_some (sym t.1 ∙ sym (get_or_read places place read t.0 is None) ∙ found)
      where
        none_some : None ≡ Some o → ⊥
        none_some e = cc

  -- what a reader has can be read
  pub reads_readable : (w : State (Item K V s)) (p : ℕ) (o : Opened K V s) → HasVersionOpen cmp w p o → IsReadable w (loaded_slot o.root)
  reads_readable w p o r = subst (λ (x : Option ℕ). IsReadable w x) (sym r.named) (used_inside w.states r.slot r.seen.item.used, r.seen.item.used)

  -- the present version is in use, and no more slots than there are
  pub slots_bounded : (w : State (Item K V s)) (root : ℕ) (places : List (Option (Opened K V s))) → IsStore cmp w root places → (1 ≤ in_use w) × (in_use w ≤ length w.states)
  slots_bounded w root places store =
      let used : is_used (get_or w.states store.slot status.Free) ≡ true = sym (store.place.sound.filled store.slot) ∙ ap is_some store.version.is in
      let one : usage (get_or w.states store.slot status.Free) ≡ 1 = ap (λ b. cond b 1 0) used in
      let within = get_or-le-sum_by usage w.states store.slot status.Free (used_inside w.states store.slot used) in
      (omega (arith, one, within), usage_within w.states)
