-- The edits of an array keep its invariant, and are those of its cells.
use Rattle.std.proofs.Common.{arith, ◌≡◌, ℕ, zero, suc, ◌+◌, ◌<◌, ◌≤◌, ◌++◌, ◌-◌, length-append, ◌∷◌, ◌||◌, ◌&&◌, ◌==◌, not, IsSome, slice_index_or, [], List, Bool, true, false, length, take, drop, refl, ap, ◌∙◌, sym, subst}
use Rattle.std.specs.declared.cmp.Ordering.{Ordering}
use Rattle.std.specs.Option.{is_some}
use Rattle.std.specs.Cmp.{IsTotalOrder}
use Rattle.std.specs.List.{remove}
use Rattle.std.specs.List.Sorted.{IsStrictlySortedBy}
use Rattle.std.specs.Map.{keys_of, lookup, remove_entry}
use Rattle.std.specs.BTreeMap.{insert_entry, is_at}
use Rattle.std.proofs.lemmas.Bool.Decides.{nat_tests}
use Rattle.leaf_slots.specs.declared.place.Place.{Place}
use Rattle.leaf_slots.specs.declared.place.Place.TheVariants.{Empty, Dead, Live}
use Rattle.leaf_array.specs.Cells.{Cells, is_nil, lesser, slot_of, array_inserted, array_replaced, array_overwritten, array_removed, removed_at, appended, entered, handed_on, fallen}
use Rattle.leaf_slots.specs.Places.{live_pair, live_pairs, labels_above, dead_pairs, has_room, pushed, tombstones, renewed, paired, died, live_below, top, slot_uses, no_places, IsPacked}
use Rattle.leaf_array.specs.Arrays.{IsArray, cells_of}
use Rattle.leaf_slots.proofs.OrderLemmas.{below_lesser, hit_within, pairs_insert, pairs_renew}
use Rattle.leaf_array.proofs.PackLemmas.{least_at, past_end}
use Rattle.leaf_slots.proofs.EditLemmas as edit
use Rattle.leaf_slots.proofs.FoundLemmas as found
use Rattle.leaf_array.proofs.SortLemmas as sort

nil_length : {X : Type 0} (xs : List X) → (length xs == 0) ≡ is_nil xs
nil_length [] = refl
nil_length (x ∷ xs) = grind (arith, nat_tests)

module _ {K V : Type 0} (cmp : K → K → Ordering) (laws : IsTotalOrder cmp) (key : K) where
  pub room_at : (ps : List (Place K V)) (len used at : ℕ) → IsArray cmp ps len used → used < 15 → at ≡ lesser cmp key (live_pairs ps) → has_room (drop at ps) ≡ true
  room_at ps len used at s lt e =
      let le : at ≤ length (live_pairs ps) = omega (arith, e, below_lesser cmp key ps, edit.below_live cmp key ps) in
      edit.room_behind at ps s.packed le (omega (arith, s.all, s.count, lt))

  live_at : (n : ℕ) (ps : List (Place K V)) → n < length (live_pairs ps) → IsSome (live_pair (slice_index_or ps n Empty))
  live_at zero [] lt = absurd (omega (arith, lt))
  live_at (suc n) [] lt = absurd (omega (arith, lt))
  live_at zero (Empty ∷ ps) lt = absurd (omega (arith, lt))
  live_at (suc n) (Empty ∷ ps) lt = absurd (omega (arith, lt))
  live_at zero (Dead s k v ∷ ps) lt = absurd (omega (arith, lt))
  live_at (suc n) (Dead s k v ∷ ps) lt = absurd (omega (arith, lt))
  live_at zero (Live s g k v ∷ ps) lt = refl
  live_at (suc n) (Live s g k v ∷ ps) lt = live_at n ps (omega (arith, lt))

  pub live_at_key : (ps : List (Place K V)) (len used at : ℕ) → IsArray cmp ps len used → at ≡ lesser cmp key (live_pairs ps) → is_some (lookup (is_at (cmp key)) (live_pairs ps)) ≡ true
      → IsSome (live_pair (slice_index_or ps at Empty))
  live_at_key ps len used at s e there = live_at at ps (omega (arith, e, below_lesser cmp key ps, hit_within cmp laws key ps (found.hit_from cmp laws key ps there s.sorted)))

  -- ---- a new pair

  -- a row with a new live place behind n others, h ranks above the place before it
  pub record IsPut (val : V) (h : ℕ) (ps qs : List (Place K V)) (len used : ℕ) : Type 0 where
    pub sound : IsArray cmp qs (len + 1) (used + 1)
    pub entries : live_pairs qs ≡ insert_entry cmp (live_pairs ps) key val
    pub pairs : live_pairs qs ≡ live_pairs (take (live_below cmp key ps) ps ++ Live (slot_of used) h key val ∷ drop (live_below cmp key ps) ps)
    pub labels : labels_above 0 qs ≡ labels_above 0 (take (live_below cmp key ps) ps ++ Live (slot_of used) h key val ∷ drop (live_below cmp key ps) ps)
    pub dead : dead_pairs qs ≡ dead_pairs ps

  sound_put : (val : V) (h : ℕ) (ps qs : List (Place K V)) (len used at : ℕ) → IsArray cmp ps len used → used < 15 → at ≡ lesser cmp key (live_pairs ps)
      → is_some (lookup (is_at (cmp key)) (live_pairs ps)) ≡ false → length qs ≡ 15 → qs ≡ take at ps ++ pushed (Live (slot_of used) h key val) (drop at ps)
      → top (take (live_below cmp key ps) ps ++ Live (slot_of used) h key val ∷ drop (live_below cmp key ps) ps) ≤ used + 1 → IsPut val h ps qs len used
  sound_put val h ps qs len used at s lt e absent count is low =
      let n = live_below cmp key ps in
      let en : at ≡ n = e ∙ sym (below_lesser cmp key ps) in
      let le : n ≤ length (live_pairs ps) = edit.below_live cmp key ps in
      let room : length (live_pairs ps) + length (dead_pairs ps) < length ps = omega (arith, s.all, s.count, lt) in
      let new : List (Place K V) = take n ps ++ Live (slot_of used) h key val ∷ drop n ps in
      let is2 : qs ≡ take n ps ++ pushed (Live (slot_of used) h key val) (drop n ps) = rw en at is in
      let turn : qs ++ Empty ∷ [] ≡ new = rw is2 (edit.insert_turn n (Live (slot_of used) h key val) ps (edit.tailed_packed ps s.packed) (edit.room_behind n ps s.packed le room)) in
      let pairs : live_pairs qs ≡ live_pairs new = sym (edit.live_end qs) ∙ ap live_pairs turn in
      let entries : live_pairs qs ≡ insert_entry cmp (live_pairs ps) key val = pairs ∙ pairs_insert cmp laws key (slot_of used) h val ps (found.miss_from cmp laws key ps absent) in
      let dead : dead_pairs qs ≡ dead_pairs ps = sym (edit.dead_end qs) ∙ ap dead_pairs turn ∙ edit.dead_insert (slot_of used) key val h n ps in
      let longer : length (live_pairs qs) ≡ length (live_pairs ps) + 1 = ap length pairs ∙ edit.length_insert (slot_of used) key val h n ps le in
      record {
        sound = record {
          count = count;
          packed = edit.packed_end qs (subst IsPacked (sym turn) (edit.packed_insert (slot_of used) key val h n ps le s.packed));
          sorted = rw entries (sort.sorted_insert cmp laws (live_pairs ps) key val s.sorted);
          live = omega (arith, longer, s.live);
          all = omega (arith, longer, s.all, ap length dead);
          within = omega (arith, lt);
          ranks = omega (arith, edit.top_end qs, ap top turn, low);
          slots = λ slot. let e1 : used + 1 ≡ suc used = omega arith in rw e1 (omega (arith, edit.uses_end slot qs, ap (slot_uses slot) turn, edit.uses_insert (slot_of used) key val h slot n ps, s.slots slot));
        };
        entries = entries;
        pairs = pairs;
        labels = sym (edit.labels_end 0 qs) ∙ ap (labels_above 0) turn;
        dead = dead;
      }

  pub sound_place : (val : V) (ps qs : List (Place K V)) (len used at : ℕ) → IsArray cmp ps len used → used < 15 → at ≡ lesser cmp key (live_pairs ps)
      → is_some (lookup (is_at (cmp key)) (live_pairs ps)) ≡ false → length qs ≡ 15 → qs ≡ take at ps ++ pushed (Live (slot_of used) 0 key val) (drop at ps)
      → IsArray cmp qs (len + 1) (used + 1)
      × ((f r : Bool) → cells_of qs (used + 1) f false ≡ array_inserted cmp key val (cells_of ps used f r))
  sound_place val ps qs len used at s lt e absent count is =
      let n = live_below cmp key ps in
      let le : n ≤ length (live_pairs ps) = edit.below_live cmp key ps in
      let put = sound_put val 0 ps qs len used at s lt e absent count is (omega (arith, edit.top_insert (slot_of used) key val n ps le, s.ranks)) in
      let labels : labels_above 0 qs ≡ entered 0 (lesser cmp key (live_pairs ps)) (slot_of used) (labels_above 0 ps) =
      put.labels ∙ edit.labels_insert (slot_of used) key val 0 n ps le ∙ ap (λ m. entered 0 m (slot_of used) (labels_above 0 ps)) (below_lesser cmp key ps) in
      (put.sound, λ f r. rw (put.entries, labels, put.dead) refl)

  -- a key that all are less than isn't there
  pub absent_last : (ps : List (Place K V)) → IsStrictlySortedBy cmp (keys_of (live_pairs ps)) → lesser cmp key (live_pairs ps) ≡ length (live_pairs ps)
      → is_some (lookup (is_at (cmp key)) (live_pairs ps)) ≡ false
  absent_last ps so last = found.missing_from cmp laws key ps so (found.missed_all cmp laws key ps (least_at cmp key ps ∙ past_end (live_pairs ps) (lesser cmp key (live_pairs ps)) (omega (arith, last))))

  pub sound_append : (val : V) (ps qs : List (Place K V)) (len used h : ℕ) → IsArray cmp ps len used → used < 15 → lesser cmp key (live_pairs ps) ≡ length (live_pairs ps)
      → h ≡ used - top ps → length qs ≡ 15 → qs ≡ take len ps ++ pushed (Live (slot_of used) h key val) (drop len ps)
      → IsArray cmp qs (len + 1) (used + 1)
      × ((f r : Bool) → cells_of qs (used + 1) f false ≡ appended key val (cells_of ps used f r))
  sound_append val ps qs len used h s lt last gap count is =
      let n = live_below cmp key ps in
      let end : n ≡ length (live_pairs ps) = below_lesser cmp key ps ∙ last in
      let up : top ps + h + 1 ≡ used + 1 = omega (arith, gap, s.ranks) in
      let put = sound_put val h ps qs len used len s lt (s.live ∙ sym last) (absent_last ps s.sorted last) count is (omega (arith, edit.top_last (slot_of used) key val h n ps end, up)) in
      let pairs : live_pairs qs ≡ live_pairs ps ++ (key, val) ∷ [] = put.pairs ∙ edit.live_last (slot_of used) key val h n ps end in
      let up0 : 0 + top ps + h + 1 ≡ used + 1 = omega (arith, up) in
      let labels : labels_above 0 qs ≡ labels_above 0 ps ++ (slot_of used, used + 1) ∷ [] = put.labels ∙ edit.labels_last (slot_of used) key val h 0 n ps end ∙ ap (λ r. labels_above 0 ps ++ (slot_of used, r) ∷ []) up0 in
      (put.sound, λ f r. rw (pairs, labels, put.dead) refl)

  -- ---- another pair for the one that has the key, in its place

  pub sound_overwrite : (val : V) (ps qs : List (Place K V)) (len used at : ℕ) → IsArray cmp ps len used → at ≡ lesser cmp key (live_pairs ps)
      → is_some (lookup (is_at (cmp key)) (live_pairs ps)) ≡ true → length qs ≡ 15 → qs ≡ take at ps ++ paired key val (drop at ps)
      → IsArray cmp qs len used
      × ((f r : Bool) → cells_of qs used f r ≡ array_overwritten cmp key val (cells_of ps used f r))
  sound_overwrite val ps qs len used at s e there count is =
      let n = live_below cmp key ps in
      let en : at ≡ n = e ∙ sym (below_lesser cmp key ps) in
      let hit = found.hit_from cmp laws key ps there s.sorted in
      let in_live : n < length (live_pairs ps) = hit_within cmp laws key ps hit in
      let w = edit.was_live 0 n ps in_live in
      let at_n : qs ≡ take n ps ++ paired key val (drop n ps) = rw en at is in
      let is2 : qs ≡ take n ps ++ renewed w.slot key val (drop n ps) = at_n ∙ ap (λ d. take n ps ++ d) (w.paired_is key val) in
      let live : live_pairs qs ≡ insert_entry cmp (remove_entry (is_at (cmp key)) (live_pairs ps)) key val = ap live_pairs is2 ∙ pairs_renew cmp laws key w.slot val ps s.sorted hit in
      let labels : labels_above 0 qs ≡ labels_above 0 ps = ap (labels_above 0) is2 ∙ edit.labels_renew w.slot key val 0 n ps in_live ∙ w.labels_is in
      let dead : dead_pairs qs ≡ dead_pairs ps = ap dead_pairs is2 ∙ edit.dead_renew w.slot key val n ps in
      let same : length (live_pairs qs) ≡ length (live_pairs ps) = ap (λ l. length (live_pairs l)) is2 ∙ edit.length_renew w.slot key val n ps in
      let sorted2 : IsStrictlySortedBy cmp (keys_of (insert_entry cmp (remove_entry (is_at (cmp key)) (live_pairs ps)) key val)) =
      rw (← sort.remove_at_key cmp laws (live_pairs ps) key there s.sorted) (sort.sorted_insert cmp laws _ key val (sort.sorted_remove cmp (live_pairs ps) (lesser cmp key (live_pairs ps)) s.sorted)) in (
        record {
          count = count;
          packed = subst IsPacked (sym is2) (edit.packed_renew w.slot key val n ps in_live s.packed);
          sorted = rw live sorted2;
          live = omega (arith, same, s.live);
          all = omega (arith, same, s.all, ap length dead);
          within = s.within;
          ranks = omega (arith, ap top is2, edit.top_renew w.slot key val n ps, s.ranks);
          slots = λ slot. omega (arith, ap (slot_uses slot) is2, w.uses_is w.slot key val slot, s.slots slot);
        },
        λ f r. rw (live, labels, dead) refl,
      )

  -- ---- another pair for the one that has the key, which dies

  pub room_behind_live : (val : V) (ps mid : List (Place K V)) (len used at : ℕ) → IsArray cmp ps len used → used < 15 → at ≡ lesser cmp key (live_pairs ps)
      → is_some (lookup (is_at (cmp key)) (live_pairs ps)) ≡ true → mid ≡ take at ps ++ renewed (slot_of used) key val (drop at ps) → length mid ≡ 15 → has_room (drop len mid) ≡ true
  room_behind_live val ps mid len used at s lt e there mid_is mid_count =
      let sl = slot_of used in
      let in_live : at < length (live_pairs ps) = omega (arith, e, below_lesser cmp key ps, hit_within cmp laws key ps (found.hit_from cmp laws key ps there s.sorted)) in
      let mid_len : length (live_pairs mid) ≡ length (live_pairs ps) = rw mid_is (edit.length_renew sl key val at ps) in
      let mid_dead : dead_pairs mid ≡ dead_pairs ps = rw mid_is (edit.dead_renew sl key val at ps) in
      let mid_packed : IsPacked mid = rw mid_is (edit.packed_renew sl key val at ps in_live s.packed) in
      edit.room_behind len mid mid_packed (omega (arith, s.live, mid_len)) (omega (arith, s.all, mid_len, ap length mid_dead, mid_count, lt))

  pub sound_replace : (val : V) (ps mid qs : List (Place K V)) (old : Place K V) (len used at : ℕ) → IsArray cmp ps len used → used < 15 → at ≡ lesser cmp key (live_pairs ps)
      → is_some (lookup (is_at (cmp key)) (live_pairs ps)) ≡ true → length qs ≡ 15
      → old ≡ died (drop at ps) → mid ≡ take at ps ++ renewed (slot_of used) key val (drop at ps) → length mid ≡ 15 → qs ≡ take len mid ++ pushed old (drop len mid)
      → IsArray cmp qs len (used + 1)
      × ((f r : Bool) → cells_of qs (used + 1) f r ≡ array_replaced cmp key val (cells_of ps used f r))
  sound_replace val ps mid qs old len used at s lt e there count was mid_is mid_count is =
      let n = live_below cmp key ps in
      let sl = slot_of used in
      let en : at ≡ n = e ∙ sym (below_lesser cmp key ps) in
      let hit = found.hit_from cmp laws key ps there s.sorted in
      let in_live : n < length (live_pairs ps) = hit_within cmp laws key ps hit in
      let w = edit.was_live 0 n ps in_live in
      let old_is : old ≡ Dead w.slot w.key w.val = (rw en at was) ∙ w.died_is in
      let mid_is2 : mid ≡ take n ps ++ renewed sl key val (drop n ps) = rw en at mid_is in
      let mid_len : length (live_pairs mid) ≡ length (live_pairs ps) = rw mid_is2 (edit.length_renew sl key val n ps) in
      let len_is : len ≡ length (live_pairs mid) = s.live ∙ sym mid_len in
      let mid_dead : dead_pairs mid ≡ dead_pairs ps = rw mid_is2 (edit.dead_renew sl key val n ps) in
      let mid_packed : IsPacked mid = rw mid_is2 (edit.packed_renew sl key val n ps in_live s.packed) in
      let room : length (live_pairs mid) + length (dead_pairs mid) < length mid = omega (arith, s.all, mid_len, ap length mid_dead, mid_count, lt) in
      let l = length (live_pairs mid) in
      let d = Dead w.slot w.key w.val in
      let new : List (Place K V) = take l mid ++ d ∷ drop l mid in
      let is2 : qs ≡ take l mid ++ pushed d (drop l mid) = rw (old_is, len_is) at is in
      let turn : qs ++ Empty ∷ [] ≡ new = rw is2 (edit.insert_turn l d mid (edit.tailed_packed mid mid_packed) (edit.room_behind l mid mid_packed (omega arith) room)) in
      let live : live_pairs qs ≡ insert_entry cmp (remove_entry (is_at (cmp key)) (live_pairs ps)) key val =
      sym (edit.live_end qs) ∙ ap live_pairs turn ∙ edit.live_bury w.slot w.key w.val mid ∙ ap live_pairs mid_is2 ∙ pairs_renew cmp laws key sl val ps s.sorted hit in
      let labels : labels_above 0 qs ≡ handed_on (lesser cmp key (live_pairs ps)) sl (labels_above 0 ps) =
      sym (edit.labels_end 0 qs) ∙ ap (labels_above 0) turn ∙ edit.labels_bury w.slot w.key w.val 0 mid ∙ ap (labels_above 0) mid_is2 ∙ edit.labels_renew sl key val 0 n ps in_live
      ∙ ap (λ m. handed_on m sl (labels_above 0 ps)) (below_lesser cmp key ps) in
      let dead0 : dead_pairs qs ≡ (w.slot, (w.key, w.val)) ∷ dead_pairs ps = sym (edit.dead_end qs) ∙ ap dead_pairs turn ∙ edit.dead_bury w.slot w.key w.val mid ∙ ap (λ ds. (w.slot, (w.key, w.val)) ∷ ds) mid_dead in
      let dead : dead_pairs qs ≡ fallen (lesser cmp key (live_pairs ps)) (labels_above 0 ps) (live_pairs ps) ++ dead_pairs ps =
      dead0 ∙ ap (λ fs. fs ++ dead_pairs ps) (sym w.fallen_is ∙ ap (λ m. fallen m (labels_above 0 ps) (live_pairs ps)) (below_lesser cmp key ps)) in
      let same : length (live_pairs qs) ≡ length (live_pairs ps) = ap length (sym (edit.live_end qs) ∙ ap live_pairs turn ∙ edit.live_bury w.slot w.key w.val mid) ∙ mid_len in
      let sorted2 : IsStrictlySortedBy cmp (keys_of (insert_entry cmp (remove_entry (is_at (cmp key)) (live_pairs ps)) key val)) =
      rw (← sort.remove_at_key cmp laws (live_pairs ps) key there s.sorted) (sort.sorted_insert cmp laws _ key val (sort.sorted_remove cmp (live_pairs ps) (lesser cmp key (live_pairs ps)) s.sorted)) in (
        record {
          count = count;
          packed = edit.packed_end qs (subst IsPacked (sym turn) (edit.packed_bury w.slot w.key w.val mid mid_packed));
          sorted = rw live sorted2;
          live = omega (arith, same, s.live);
          all = omega (arith, same, s.all, ap length dead0);
          within = omega (arith, lt);
          ranks = omega (arith, edit.top_end qs, ap top turn, edit.top_bury w.slot w.key w.val mid, ap top mid_is2, edit.top_renew sl key val n ps, s.ranks);
          slots = λ slot. let e1 : used + 1 ≡ suc used = omega arith in rw e1 (omega (arith, edit.uses_end slot qs, ap (slot_uses slot) turn, edit.uses_bury w.slot w.key w.val slot l mid, ap (slot_uses slot) mid_is2, w.uses_is sl key val slot, s.slots slot));
        },
        λ f r. rw (live, labels, dead) refl,
      )

module _ {K V : Type 0} (cmp : K → K → Ordering) where
  -- ---- a pair removed

  live_remove : (n : ℕ) (ps : List (Place K V)) → n < length (live_pairs ps) → live_pairs (take n ps ++ tombstones (drop n ps)) ≡ remove (live_pairs ps) n
  live_remove zero [] lt = absurd (omega (arith, lt))
  live_remove (suc n) [] lt = absurd (omega (arith, lt))
  live_remove zero (Empty ∷ ps) lt = absurd (omega (arith, lt))
  live_remove (suc n) (Empty ∷ ps) lt = absurd (omega (arith, lt))
  live_remove zero (Dead s k v ∷ ps) lt = absurd (omega (arith, lt))
  live_remove (suc n) (Dead s k v ∷ ps) lt = absurd (omega (arith, lt))
  live_remove zero (Live s g k v ∷ ps) lt = edit.live_tombstones s g k v ps
  live_remove (suc n) (Live s g k v ∷ ps) lt = ap (λ qs. (k, v) ∷ qs) (live_remove n ps (omega (arith, lt)))

  pub sound_bury : (ps qs : List (Place K V)) (len used at : ℕ) → IsArray cmp ps len used → at < length (live_pairs ps) → length qs ≡ 15 → qs ≡ take at ps ++ tombstones (drop at ps)
      → IsArray cmp qs (len - 1) used
      × ((f r r2 : Bool) → r2 ≡ (r || len - 1 == 0 && not f) → cells_of qs used f r2 ≡ removed_at at (cells_of ps used f r))
  sound_bury ps qs len used at s lt count is =
      let live : live_pairs qs ≡ remove (live_pairs ps) at = rw is (live_remove at ps lt) in
      let shorter : length (live_pairs qs) + 1 ≡ length (live_pairs ps) = rw is (edit.length_remove at ps lt) in
      let labels : labels_above 0 qs ≡ remove (labels_above 0 ps) at = rw is (edit.labels_remove 0 at ps lt) in
      let dead : dead_pairs qs ≡ fallen at (labels_above 0 ps) (live_pairs ps) ++ dead_pairs ps = rw is (edit.dead_remove 0 at ps lt) in
      let last : (len - 1 == 0) ≡ is_nil (remove (live_pairs ps) at) =
      let e1 : len - 1 ≡ length (live_pairs qs) = omega (arith, shorter, s.live) in ap (λ m. m == 0) e1 ∙ nil_length (live_pairs qs) ∙ ap is_nil live in
      let deader : length (dead_pairs qs) ≡ 1 + length (dead_pairs ps) = ap length dead ∙ length-append (fallen at (labels_above 0 ps) (live_pairs ps)) (dead_pairs ps) ∙ ap (λ m. m + length (dead_pairs ps)) (edit.length_fallen 0 at ps lt) in (
        record {
          count = count;
          packed = rw is (edit.packed_remove at ps lt s.packed);
          sorted = rw live (sort.sorted_remove cmp (live_pairs ps) at s.sorted);
          live = omega (arith, shorter, s.live);
          all = omega (arith, shorter, s.all, deader);
          within = s.within;
          ranks = omega (arith, ap top is, edit.top_remove at ps lt, s.ranks);
          slots = λ slot. ap (slot_uses slot) is ∙ edit.uses_remove slot at ps lt ∙ s.slots slot;
        },
        λ f r r2 e. rw (e, last, live, labels, dead) refl,
      )

  pub sound_new : IsArray {K = K} {V = V} cmp no_places 0 0
  sound_new = record { count = refl; packed = tt; sorted = sort.sorted_nil cmp; live = refl; all = refl; within = omega arith; ranks = omega arith; slots = λ slot. refl }

  top_drop : (n : ℕ) (ps : List (Place K V)) → n < length (live_pairs ps) → top (drop n ps) ≤ top ps
  top_drop zero ps lt = omega arith
  top_drop (suc n) [] lt = absurd (omega (arith, lt))
  top_drop (suc n) (Empty ∷ ps) lt = absurd (omega (arith, lt))
  top_drop (suc n) (Dead s k v ∷ ps) lt = absurd (omega (arith, lt))
  top_drop (suc n) (Live s g k v ∷ ps) lt = let h : n < length (live_pairs ps) = omega (arith, lt) in omega (arith, top_drop n ps h)

  pub top_behind : (ps : List (Place K V)) (len used at : ℕ) → IsArray cmp ps len used → at < length (live_pairs ps) → top (drop at ps) ≤ 15
  top_behind ps len used at s lt = omega (arith, top_drop at ps lt, s.ranks, s.within)

  pub live_count : (ps : List (Place K V)) (len used : ℕ) → IsArray cmp ps len used → length (live_pairs ps) ≤ 15
  live_count ps len used s = omega (arith, s.all, s.within)

-- the pair of a key, removed by its place
pub removed_is : {K V : Type 0} (cmp : K → K → Ordering) (laws : IsTotalOrder cmp) (key : K) (a : Cells K V) → is_some (lookup (is_at (cmp key)) a.pairs) ≡ true → IsStrictlySortedBy cmp (keys_of a.pairs)
    → removed_at (lesser cmp key a.pairs) a ≡ array_removed cmp key a
removed_is cmp laws key a there so = ap (λ ps. record (removed_at (lesser cmp key a.pairs) a) { pairs = ps }) (sort.remove_at_key cmp laws a.pairs key there so)
