-- a store when a version is published, and a new store
use Rattle.std.proofs.Common.{◌≡◌, ℕ, suc, ◌+◌, ◌^◌, ◌<◌, ◌≤◌, true, Option, None, Some, List, [], ◌∷◌, ◌++◌, length, get_or, set, replicate, refl, sym, ap, ◌∙◌, subst, arith, inl, inr, sum_by, get_or-set_other, append-nil, get_or-set_same, length-set}
use Rattle.std.proofs.lemmas.List.{get_or_past, length-replicate}
use Rattle.std.proofs.lemmas.Bool.{false≢true}
use Rattle.std.proofs.lemmas.Bool.Decides.{eqb_tells}
use Rattle.std.proofs.lemmas.List.Sums.{sum_by-cons}
use Rattle.std.proofs.lemmas.List.Folds.{sum_by-replicate}
use Rattle.std.specs.declared.cmp.Ordering.{Ordering}
use Rattle.sdd_world.specs.Counting.{Counted}
use Rattle.sdd_world.specs.Frame.{Frame, OnlyParticipant, has_owner}
use Rattle.sdd_world.specs.Groups.{SameRows}
use Rattle.sdd_world.specs.Holding.{SharedIn, SharedItem}
use Rattle.sdd_world.specs.Passing.{IsPlain, Shrinks, is_plain, slot_kept}
use Rattle.sdd_world.specs.Place.{IsPlace, IsShared, IsSharedCell}
use Rattle.sdd_world.specs.State.{IsFreeCell, ParticipantState, State, cell_at, fresh, in_use, local_at, participant_at, nobody, status_at, usage, vacancy, value_at, with_cell}
use Rattle.sdd_world.specs.Steps.{NoneOpen, bags_empty, released, shared_ended, shared_ended_as}
use Rattle.sdd_world.specs.declared.sizes.Sizes.{Sizes}
use Rattle.sdd_world.specs.declared.status.Cell.{Cell}
use Rattle.sdd_world.specs.declared.status.Cell.TheVariants as cell
use Rattle.sdd_world.specs.declared.status.Status.{Status}
use Rattle.sdd_world.specs.declared.status.Status.TheVariants as status
use Rattle.sdd_world.specs.declared.tag.Tag.{Tag}
use Rattle.sdd_world.specs.declared.tag.Tag.TheVariants as tag
use Rattle.sdd_world.proofs.CellLemmas.{cells_released_as}
use Rattle.sdd_world.proofs.CountLemmas.{owners_are_counted}
use Rattle.sdd_world.proofs.GroupLemmas.{shrunk_rows}
use Rattle.sdd_world.proofs.PlaceLemmas.{get_or-replicate_default, place_by}
use Rattle.sdd_world.proofs.IdleParticipantLemmas.{gives_only}
use Rattle.sdd_world.proofs.BagInvariantLemmas.{Gives, gives_released_as}
use Rattle.version_views.specs.Items.{held_by}
use Rattle.local_versions.specs.Reclaiming.{IsRootless}
use Rattle.local_versions.specs.Placing.{HasVersion, IsFlat, IsLevelled, IsSettled, OnlyNamesCome, Places, StandOn}
use Rattle.version_views.specs.declared.item.Item.{Item}
use Rattle.local_versions.proofs.StayingLemmas.{keeps_then}
use Rattle.local_versions.proofs.ReclaimLemmas.{flat_after, levelled_after}
use Rattle.local_versions.proofs.StayingLemmas.{versions_stay}
use Rattle.local_versions.specs.Store.{IsReader, IsStore, Version, read_by, store_of, version_in}
use Rattle.local_versions.specs.declared.store.readers.Opened.{Opened}
use Rattle.version_views.proofs.OptionLemmas.{map-none}
use Rattle.local_versions.proofs.NamingLemmas.{named_stands}
use Rattle.local_versions.proofs.StoreLemmas.{Moves, store_moved, version_is, writer_closed, writer_known, writer_reads, writer_shows}

-- each slot of a plain place is free or in use
pub plain_sum : (ss : List Status) → ((j : ℕ) → is_plain (get_or ss j status.Free) ≡ true) → sum_by vacancy ss + sum_by usage ss ≡ length ss
plain_sum [] plain = refl
plain_sum (x ∷ ss) plain =
    let rest = plain_sum ss (λ j. plain (suc j)) in
    let one = one_of x (plain 0) in
    let free = sum_by-cons vacancy x ss in
    let used = sum_by-cons usage x ss in
    omega (arith, rest, one, free, used)
  where
    one_of : (x : Status) → is_plain x ≡ true → vacancy x + usage x ≡ 1
    one_of status.Free e = refl
    one_of status.Owned e = refl
    one_of (status.Shared n) e = refl
    one_of status.Raw e = refl
    one_of (status.Collected n b) e = refl
    one_of status.Retired e = refl
    one_of status.Idle e = absurd (false≢true e)
    one_of status.Deferred e = absurd (false≢true e)

-- the slots of a new place are free
module _ (slots : ℕ) where
  abbrev free_slots : List Status
  free_slots = replicate slots status.Free ++ []

  free_status : (j : ℕ) → get_or free_slots j status.Free ≡ status.Free
  free_status j = ap (λ (ss : List Status). get_or ss j status.Free) (append-nil (replicate slots status.Free)) ∙ get_or-replicate_default slots j status.Free

  fresh_use : sum_by usage free_slots ≡ 0
  fresh_use = ap (λ (ss : List Status). sum_by usage ss) (append-nil (replicate slots status.Free)) ∙ (let sum = sum_by-replicate usage slots status.Free in omega (arith, sum))

  pub fresh_vacancy : sum_by vacancy free_slots ≡ slots
  fresh_vacancy = ap (λ (ss : List Status). sum_by vacancy ss) (append-nil (replicate slots status.Free)) ∙ (let sum = sum_by-replicate vacancy slots status.Free in omega (arith, sum))

  fresh_states : length free_slots ≡ slots
  fresh_states = ap length (append-nil (replicate slots status.Free)) ∙ length-replicate slots status.Free

-- so many readers and a writer, so many slots, and one root
abbrev pub first_sizes : ℕ → ℕ → Sizes
first_sizes n slots = record { participants = n + 1; slots = slots; cells = 1; jobs = 0 }

module _ {K V : Type 0} {s : ℕ} (cmp : K → K → Ordering) where
  -- a cell is no item
  levelled_with : (c : ℕ) (k : Cell) (w : State (Item K V s)) → IsLevelled w → IsLevelled (with_cell c k w)
  levelled_with c k w levelled = record { flat = levelled.flat; rows = levelled.rows; once = levelled.once }

  -- where fewer slots are free than a version takes, there are fewer than are in use with it
  pub too_few : (w : State (Item K V s)) (n : ℕ) → IsPlain w → sum_by vacancy w.states < n → length w.states < in_use w + n
  too_few w n plain less = let all = plain_sum w.states plain in omega (arith, all, less)

  -- beside a version that is placed, the root and what it names are there
  module _ (w w1 : State (Item K V s)) (root new : ℕ) (count number : ℕ) (pairs : List (K × V)) (places : List (Option (Opened K V s))) (store : IsStore cmp w root places) (made : Places cmp count number pairs new w w1) where
    pub still_named : cell_at w1 root ≡ cell.OfShared (Some store.slot) tag.None
    still_named = ap (λ (cs : List Cell). get_or cs root cell.Free) made.adds.cells ∙ store.named

    pub still_used : IsSharedCell w1 root
    still_used =
        let used : IsSharedCell w root = (owners_are_counted held_by).cell_in_hand root [] w store.counted in
        let was = used.inside in
        let same = ap length made.adds.cells in
        record { inside = omega (arith, was, same); item = Some store.slot; tag = tag.None; is = still_named }

    pub still_owned : (i : ℕ) (t : Tag) → cell_at w1 root ≡ cell.OfShared (Some i) t → IsShared w1 i
    still_owned i t e = (owners_are_counted held_by).kept root i t (SharedItem new ∷ SharedIn root ∷ []) w1 e (made.counted (SharedIn root ∷ []) store.counted)

    pub still_known : length places < length w1.participants
    still_known = let known = writer_known cmp w root places store in let same = ap length made.adds.participants in omega (arith, known, same)

  -- a version is placed, the root comes to name it, and the owner of the older one is given back
  module _ (w w1 w2 : State (Item K V s)) (root new : ℕ) (count number : ℕ) (pairs : List (K × V)) (places : List (Option (Opened K V s))) (store : IsStore cmp w root places) (made : Places cmp count number pairs new w w1) (place1 : IsPlace w1) (now : w2 ≡ released (length places) store.slot (with_cell root (cell.OfShared (Some new) tag.None) w1)) (keeps : Frame w1 w2) (only : OnlyParticipant (length places) w1 w2) where
    abbrev p : ℕ
    p = length places

    abbrev v : State (Item K V s)
    v = with_cell root (cell.OfShared (Some new) tag.None) w1

    abbrev x : State (Item K V s)
    x = released p store.slot v

    inside : root < length w1.cells
    inside =
        let used : IsSharedCell w root = (owners_are_counted held_by).cell_in_hand root [] w store.counted in
        let was = used.inside in
        let same = ap length made.adds.cells in
        omega (arith, was, same)

    counted1 : Counted held_by (SharedItem new ∷ SharedIn root ∷ []) w1
    counted1 = made.counted (SharedIn root ∷ []) store.counted

    named1 : cell_at w1 root ≡ cell.OfShared (Some store.slot) tag.None
    named1 = ap (λ (cs : List Cell). get_or cs root cell.Free) made.adds.cells ∙ store.named

    countedx : Counted held_by (SharedIn root ∷ []) x
    countedx = (owners_are_counted held_by).given p (SharedItem store.slot) (SharedIn root ∷ []) v ((owners_are_counted held_by).cell_swapped root (Some store.slot) (Some new) tag.None tag.None (SharedIn root ∷ []) w1 inside named1 counted1)

    placev : IsPlace v
    placev = record {
      sound = record { sizes = place1.sound.sizes; once = place1.sound.once; filled = place1.sound.filled };
      some = place1.some;
      idle = place1.idle;
      past = place1.past;
      began = place1.began;
      near = place1.near;
    }

    knownv : p < length v.participants
    knownv = let known = writer_known cmp w root places store in let same = ap length made.adds.participants in omega (arith, known, same)

    gives : Shrinks v x × (in_use x ≡ in_use v) × (x.count ≡ v.count)
    gives = (gives_only held_by).giving_back p store.slot v placev knownv

    calmx : Gives p v x
    calmx = gives_released_as v p store.slot (status_at v store.slot) refl placev.sound knownv

    plainx : IsPlain x
    plainx j = gives.0.plain j (made.adds.plain store.plain j)

    levelledx : IsLevelled x
    levelledx = levelled_after v x gives.0.values gives.0.groups (SharedIn root ∷ []) countedx (levelled_with root (cell.OfShared (Some new) tag.None) w1 (made.adds.levelled (SharedIn root ∷ []) store.counted store.levelled))

    -- groups came, and then went
    given2 : SameRows w1.groups w2.groups
    given2 = subst (λ (y : State (Item K V s)). SameRows w1.groups y.groups) (sym now) (shrunk_rows w1.groups x.groups gives.0.groups)

    rows2 : SameRows w.groups w2.groups
    rows2 g was is = let grown = made.adds.groups g was in given2 g grown.0 is ∙ grown.1

    moves : Moves cmp p root w w2
    moves = record {
      place = subst (λ (y : State (Item K V s)). IsPlace y) (sym now) (place_by v x p placev calmx);
      keeps = keeps_then w w1 w2 made.adds.participants made.adds.lives made.adds.keeps keeps;
      only = λ k ne. only k ne ∙ ap (λ (ms : List ParticipantState). get_or ms k nobody) made.adds.participants;
      counted = subst (λ (y : State (Item K V s)). Counted held_by (SharedIn root ∷ []) y) (sym now) countedx;
      plain = subst (λ (y : State (Item K V s)). IsPlain y) (sym now) plainx;
      levelled = subst (λ (y : State (Item K V s)). IsLevelled y) (sym now) levelledx;
      rows = rows2;
    }

    named2 : cell_at w2 root ≡ cell.OfShared (Some new) tag.None
    named2 =
        ap (λ (y : State (Item K V s)). cell_at y root) now
        ∙ ap (λ (cs : List Cell). get_or cs root cell.Free) (cells_released_as (status_at v store.slot) p store.slot v)
        ∙ get_or-set_same w1.cells root (cell.OfShared (Some new) tag.None) cell.Free inside

    version2 : HasVersion cmp w2 new number pairs
    version2 = (versions_stay cmp).owned w1 w2 new number pairs (ap has_owner made.shared.is) made.version (record { before = SharedItem new ∷ SharedIn root ∷ []; counted = counted1; after = SharedIn root ∷ []; still = moves.counted; keeps = keeps; rows = given2 })

    closed2 : (local_at w2 p).nesting ≡ 0
    closed2 =
        ap (λ (y : State (Item K V s)). (local_at y p).nesting) now
        ∙ ap (λ c. c.nesting) calmx.calm
        ∙ ap (λ (ms : List ParticipantState). (get_or ms p nobody).local.nesting) made.adds.participants
        ∙ writer_closed cmp w root places store

    pub store_published : IsStore cmp w2 root places
    store_published = store_moved cmp w w2 root places store p places new number pairs moves named2 version2 refl (λ q ne. refl) (writer_reads cmp w w2 root places store moves closed2) (λ ne. absurd (ne refl))

    pub published_uses : in_use w2 ≡ in_use w + count
    published_uses = ap in_use now ∙ gives.1 ∙ made.adds.uses

    pub published_shows : store_of w2 root places ≡ record (store_of w root places) { present = record { number = number; pairs = pairs }; used = in_use w + count }
    published_shows =
        let present : version_in w2 (slot_kept (cell_at w2 root)) ≡ record { number = number; pairs = pairs } = ap (λ (k : Cell). version_in w2 (slot_kept k)) named2 ∙ version_is cmp w2 new number pairs version2 in
        let raises : w2.count ≡ w.count = ap (λ (y : State (Item K V s)). y.count) now ∙ gives.2 ∙ made.adds.count in
        writer_shows cmp w w2 root places store moves
        ∙ ap (λ (ver : Version K V). record (store_of w root places) { present = ver; used = in_use w2; raises = w2.count }) present
        ∙ ap (λ (n : ℕ). record (store_of w root places) { present = record { number = number; pairs = pairs }; used = n; raises = w2.count }) published_uses
        ∙ ap (λ (n : ℕ). record (store_of w root places) { present = record { number = number; pairs = pairs }; used = in_use w + count; raises = n }) raises

  -- a version is placed in a new place, and a root names it
  module _ (n slots : ℕ) where
    abbrev w : State (Item K V s)
    w = fresh (first_sizes n slots)

    abbrev places : List (Option (Opened K V s))
    places = replicate n None

    no_value : (j : ℕ) → value_at w j ≡ None
    no_value j = get_or-replicate_default (slots + 0) j None

    fresh_levelled : IsLevelled w
    fresh_levelled = record {
      flat = λ i d is. absurd (none_some (sym (no_value i) ∙ is));
      rows = λ i d is. absurd (none_some (sym (no_value i) ∙ is));
      once = λ i d is. absurd (none_some (sym (no_value i) ∙ is));
    }
      where
        none_some : {y : Item K V s} → None ≡ Some y → ⊥
        none_some e = cc

    -- owners can't run out in it
    pub fresh_settled : slots ≤ 2 ^ 30 → IsSettled w
    fresh_settled fit =
        let states = fresh_states slots in
        let cells = length-replicate 1 cell.Free in
        let small : slots ≤ 1073741824 = fit in
        record {
          hand = [];
          counted = (owners_are_counted held_by).fresh (first_sizes n slots);
          ungrouped = λ g. refl;
          levelled = fresh_levelled;
          few = omega (arith, states, cells, small);
        }

    -- where only names for groups came, nothing is in it
    module _ (v : State (Item K V s)) (come : OnlyNamesCome w v) (keeps : Frame w v) where
      abbrev stands : StandOn 0 [] [] w v
      stands = named_stands w v come keeps

      pub fresh_rootless : IsPlace v → IsRootless v
      fresh_rootless place = record {
        place = place;
        counted = stands.counted [] ((owners_are_counted held_by).fresh (first_sizes n slots));
        plain = λ j. stands.adds.plain (λ k. ap is_plain (free_status slots k)) j;
        flat = (stands.adds.levelled [] ((owners_are_counted held_by).fresh (first_sizes n slots)) fresh_levelled).flat;
        cells = λ c. ap (λ (cs : List Cell). get_or cs c cell.Free) stands.adds.cells ∙ get_or-replicate_default 1 c cell.Free;
      }

      pub fresh_closed : NoneOpen v
      fresh_closed p = ap (λ (ms : List ParticipantState). (get_or ms p nobody).local.nesting) stands.adds.participants ∙ ap (λ (m : ParticipantState). m.local.nesting) (get_or-replicate_default (n + 1) p nobody)

    module _ (w1 w2 : State (Item K V s)) (root new : ℕ) (count number : ℕ) (pairs : List (K × V)) (made : Places cmp count number pairs new w w1) (free : IsFreeCell w1 root) (now : w2 ≡ with_cell root (cell.OfShared (Some new) tag.None) w1) (place2 : IsPlace w2) where
      abbrev y : State (Item K V s)
      y = with_cell root (cell.OfShared (Some new) tag.None) w1

      participant_is : (k : ℕ) → participant_at y k ≡ nobody
      participant_is k = ap (λ (ms : List ParticipantState). get_or ms k nobody) made.adds.participants ∙ get_or-replicate_default (n + 1) k nobody

      pub first_store : slots ≤ 2 ^ 30 → IsStore cmp w2 root places
      first_store fit = subst (λ (z : State (Item K V s)). IsStore cmp z root places) (sym now) (record {
        place = subst (λ (z : State (Item K V s)). IsPlace z) now place2;
        participants = ap length made.adds.participants ∙ length-replicate (n + 1) nobody ∙ sym (ap (λ k. k + 1) (length-replicate n None));
        slots = subst (λ (m : ℕ). m ≤ 2 ^ 30) (sym (made.adds.keeps.states ∙ fresh_states slots)) fit;
        cells = length-set w1.cells root (cell.OfShared (Some new) tag.None) ∙ ap length made.adds.cells;
        counted = (owners_are_counted held_by).cell_made root (Some new) tag.None [] w1 free (made.counted [] ((owners_are_counted held_by).fresh (first_sizes n slots)));
        plain = λ j. made.adds.plain (λ k. ap is_plain (free_status slots k)) j;
        levelled = levelled_with root (cell.OfShared (Some new) tag.None) w1 (made.adds.levelled [] ((owners_are_counted held_by).fresh (first_sizes n slots)) fresh_levelled);
        slot = new;
        named = get_or-set_same w1.cells root (cell.OfShared (Some new) tag.None) cell.Free free.0;
        number = number;
        pairs = pairs;
        version = record { directory = made.version.directory; is = made.version.is; whole = made.version.whole; numbered = made.version.numbered; list = made.version.list };
        readers = λ q. subst (λ (o : Option (Opened K V s)). IsReader cmp y q o) (sym (get_or-replicate_default n q None)) (ap (λ (m : ParticipantState). m.local.nesting) (participant_is q));
        quiet = λ q ne. record { empty = ap bags_empty (participant_is q); clean = ap (λ (m : ParticipantState). m.local.garbage) (participant_is q); slow = ap (λ (m : ParticipantState). m.local.accelerated) (participant_is q) };
      })

      abbrev first : Version K V
      first = record { number = number; pairs = pairs }

      pub first_shows : store_of w2 root places ≡ record { present = record { number = number; pairs = pairs }; readers = replicate n None; slots = slots; used = count; raises = 0 }
      first_shows =
          let named : cell_at y root ≡ cell.OfShared (Some new) tag.None = get_or-set_same w1.cells root (cell.OfShared (Some new) tag.None) cell.Free free.0 in
          let version : HasVersion cmp y new number pairs = record { directory = made.version.directory; is = made.version.is; whole = made.version.whole; numbered = made.version.numbered; list = made.version.list } in
          let present : version_in y (slot_kept (cell_at y root)) ≡ first = ap (λ (k : Cell). version_in y (slot_kept k)) named ∙ version_is cmp y new number pairs version in
          let used : in_use y ≡ count = (let more = made.adds.uses in let none = fresh_use slots in omega (arith, more, none)) in
          ap (λ (z : State (Item K V s)). store_of z root places) now
          ∙ ap (λ (ver : Version K V). record (store_of y root places) { present = ver }) present
          ∙ ap (λ (rs : List (Option (Version K V))). record (store_of y root places) { present = first; readers = rs }) (map-none (read_by y) n)
          ∙ ap (λ (k : ℕ). record (store_of y root places) { present = first; readers = replicate n None; slots = k }) (made.adds.keeps.states ∙ fresh_states slots)
          ∙ ap (λ (k : ℕ). record (store_of y root places) { present = first; readers = replicate n None; slots = slots; used = k }) used
          ∙ ap (λ (k : ℕ). record { present = first; readers = replicate n None; slots = slots; used = count; raises = k }) made.adds.count

  -- a root is retired: nothing has an owner outside, and no cell is in use
  pub root_retired : (w w' : State (Item K V s)) (root : ℕ) (places : List (Option (Opened K V s))) (store : IsStore cmp w root places) → w' ≡ shared_ended (length places) root w → IsPlace w' → IsRootless w'
  root_retired w w' root places store now place =
      let q : ℕ = length places in
      let v : State (Item K V s) = with_cell root cell.Free w in
      let x : State (Item K V s) = released q store.slot v in
      let is : w' ≡ x = now ∙ ap (λ (k : Cell). shared_ended_as k q root w) store.named in
      let old = store.place in
      let placev : IsPlace v = record { sound = record { sizes = old.sound.sizes; once = old.sound.once; filled = old.sound.filled }; some = old.some; idle = old.idle; past = old.past; began = old.began; near = old.near } in
      let shrinks : Shrinks v x = ((gives_only held_by).giving_back q store.slot v placev (writer_known cmp w root places store)).0 in
      let counted : Counted held_by [] (shared_ended q root w) = (owners_are_counted held_by).given q (SharedIn root) [] w store.counted in
      let is' : shared_ended q root w ≡ x = sym now ∙ is in
      let used : IsSharedCell w root = (owners_are_counted held_by).cell_in_hand root [] w store.counted in
      record {
        place = place;
        counted = subst (λ (y : State (Item K V s)). Counted held_by [] y) (sym now) counted;
        plain = subst (λ (y : State (Item K V s)). IsPlain y) (sym is) (λ j. shrinks.plain j (store.plain j));
        flat = (let levelled = store.levelled in subst (λ (y : State (Item K V s)). IsFlat y) (sym is) (flat_after v x shrinks.values shrinks.groups [] (subst (λ (y : State (Item K V s)). Counted held_by [] y) is' counted) levelled.flat));
        cells = λ c.
            ap (λ (y : State (Item K V s)). cell_at y c) is
            ∙ ap (λ (cs : List Cell). get_or cs c cell.Free) (cells_released_as (status_at v store.slot) q store.slot v)
            ∙ elim (eqb_tells c root) [
              | inl e ↦ ap (λ (n : ℕ). get_or (set w.cells root cell.Free) n cell.Free) e.1 ∙ get_or-set_same w.cells root cell.Free cell.Free used.inside
              | inr e ↦
                  let one = store.cells in
                  let inside = used.inside in
                  let apart = e.1 in
                  get_or-set_other w.cells root c cell.Free cell.Free apart ∙ get_or_past w.cells c cell.Free (omega (arith, one, inside, apart))
            ];
      }
