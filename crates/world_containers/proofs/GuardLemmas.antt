-- lists in a place while a guard opens or closes
use Rattle.world_containers.proofs.Names.{◌≡◌, ◌≢◌, ◌⊎◌, ◌==◌, ◌++◌, ℕ, zero, suc, ◌+◌, ◌-◌, ◌<◌, ◌≤◌, true, false, Option, None, Some, List, [], ◌∷◌, length, get_or, set, refl, sym, ap, ◌∙◌, arith, subst, cond, inl, inr, leb, ltb, ◌&&◌, get_or-set_other, reverse, State, status_at, value_at, cell_at, participant_at, local_at, with_local, with_status, with_cell, with_groups, retired, taken, vacated, raised, is_present, rotated_bags, given, given_all, released, released_each, held_in, released_as, disowned_as, owned_ended_as, shared_ended_as, due_reclaimed, due_reclaimed_as, reclaimed, participant_rotated, count_published, guard_opened, guard_closed, scanned, scans, closings_after, IsPlace, Tag, Status, Cell, Entry, links, IsOut, IsItem, IsList, Leaves, AreOwn, IsBag, joined, entry_holds, entry_link, holds_link, IsQueue, last_slot, LinkedEntry, inside_cells}
use Rattle.std.specs.List.{list_all}
use Rattle.std.proofs.lemmas.List.Sums.{sum_by-set}
use Rattle.sdd_world.specs.Groups.{less_owned, row_ended}
use Rattle.sdd_world.specs.Holding.{Hold, OwnedItem, SharedItem, OwnedIn, SharedIn, OwnerGroup}
use Rattle.sdd_world.specs.Frame.{has_owner}
use Rattle.sdd_world.specs.Counting.{Counted, kept_by, shared_owners, tally}
use Rattle.sdd_world.specs.declared.tag.Tag.TheVariants as tag
use Rattle.sdd_world.specs.declared.status.Status.TheVariants as status
use Rattle.sdd_world.specs.declared.status.LocalState.{LocalState}
use Rattle.sdd_world.specs.declared.status.Cell.TheVariants as cell
use Rattle.sdd_world.proofs.CellLemmas.{held_cells_stay}
use Rattle.sdd_world.proofs.CountLemmas.{counted_opened}
use Rattle.sdd_world.proofs.FrameLemmas.{keeps_opened}
use Rattle.sdd_world.proofs.ListLemmas.{hit-same}
use Rattle.sdd_world.proofs.SlotLemmas.{at_most}
use Rattle.world_containers.specs.Guards.{GuardsLeave}
use Rattle.world_containers.proofs.RowLemmas.{own_both, own_first, own_second}

-- a write changes one place or none
set_either : {X : Type 0} (xs : List X) (j i : ℕ) (v d : X) → ((get_or (set xs j v) i d ≡ v) × (i ≡ j)) ⊎ (get_or (set xs j v) i d ≡ get_or xs i d)
set_either [] j i v d = inr refl
set_either (x ∷ xs) zero zero v d = inl (refl, refl)
set_either (x ∷ xs) zero (suc i) v d = inr refl
set_either (x ∷ xs) (suc j) zero v d = inr refl
set_either (x ∷ xs) (suc j) (suc i) v d = elim (set_either xs j i v d) [ inl e ↦ inl (e.0, ap (λ (k : ℕ). suc k) e.1) | inr e ↦ inr e ]

shared_of : (s : Status) → 1 ≤ shared_owners s → s ≡ status.Shared (shared_owners s)
shared_of status.Free h = absurd (omega (arith, h))
shared_of status.Owned h = absurd (omega (arith, h))
shared_of (status.Shared n) h = refl
shared_of status.Raw h = absurd (omega (arith, h))
shared_of (status.Collected n b) h = absurd (omega (arith, h))
shared_of status.Retired h = absurd (omega (arith, h))
shared_of status.Idle h = absurd (omega (arith, h))
shared_of status.Deferred h = absurd (omega (arith, h))

none_vacated : (s : Status) → shared_owners (vacated s) ≡ 0
none_vacated status.Free = refl
none_vacated status.Owned = refl
none_vacated (status.Shared n) = refl
none_vacated status.Raw = refl
none_vacated (status.Collected n b) = refl
none_vacated status.Retired = refl
none_vacated status.Idle = refl
none_vacated status.Deferred = refl

-- no item gets more owners by what is given back
module _ {T : Type 0} (i : ℕ) where
  abbrev owners : State T → ℕ
  owners w = shared_owners (status_at w i)

  fewer_set : (w : State T) (j : ℕ) (s : Status) → shared_owners s ≤ shared_owners (status_at w j) → shared_owners (get_or (set w.states j s) i status.Free) ≤ owners w
  fewer_set w j s h = elim (set_either w.states j i s status.Free) [
    | inl e ↦ (let a = ap shared_owners e.0 in let b : owners w ≡ shared_owners (status_at w j) = ap (λ (k : ℕ). shared_owners (status_at w k)) e.1 in omega (arith, a, b, h))
    | inr e ↦ (let a = ap shared_owners e in omega (arith, a))
  ]

  fewer_released : (s : Status) (p j : ℕ) (w : State T) → s ≡ status_at w j → owners (released_as s p j w) ≤ owners w
  fewer_released status.Free p j w e = omega arith
  fewer_released status.Owned p j w e = omega arith
  fewer_released (status.Shared n) p j w e =
      let was : shared_owners (status_at w j) ≡ n = ap shared_owners (sym e) in
      elim (leb n 1) as (λ b. owners (cond b (retired p j w) (with_status j (status.Shared (n - 1)) w)) ≤ owners w) [
        | true ↦ fewer_set w j status.Retired (omega arith)
        | false ↦ fewer_set w j (status.Shared (n - 1)) (omega (arith, was))
      ]
  fewer_released status.Raw p j w e = omega arith
  fewer_released (status.Collected n b) p j w e = omega arith
  fewer_released status.Retired p j w e = omega arith
  fewer_released status.Idle p j w e = omega arith
  fewer_released status.Deferred p j w e = omega arith

  fewer_disowned : (s : Status) (p j : ℕ) (w : State T) → owners (disowned_as s p j w) ≤ owners w
  fewer_disowned status.Free p j w = omega arith
  fewer_disowned status.Owned p j w = fewer_set w j status.Retired (omega arith)
  fewer_disowned (status.Shared n) p j w = omega arith
  fewer_disowned status.Raw p j w = omega arith
  fewer_disowned (status.Collected n b) p j w = omega arith
  fewer_disowned status.Retired p j w = omega arith
  fewer_disowned status.Idle p j w = omega arith
  fewer_disowned status.Deferred p j w = omega arith

  fewer_owned_ended : (k : Cell) (p c : ℕ) (w : State T) → owners (owned_ended_as k p c w) ≤ owners w
  fewer_owned_ended cell.Free p c w = omega arith
  fewer_owned_ended (cell.OfOwned None t) p c w = omega arith
  fewer_owned_ended (cell.OfOwned (Some j) t) p c w = fewer_disowned (status_at w j) p j (with_cell c cell.Free w)
  fewer_owned_ended (cell.OfShared o t) p c w = omega arith
  fewer_owned_ended (cell.OfRaw o t) p c w = omega arith

  fewer_shared_ended : (k : Cell) (p c : ℕ) (w : State T) → owners (shared_ended_as k p c w) ≤ owners w
  fewer_shared_ended cell.Free p c w = omega arith
  fewer_shared_ended (cell.OfOwned o t) p c w = omega arith
  fewer_shared_ended (cell.OfShared None t) p c w = omega arith
  fewer_shared_ended (cell.OfShared (Some j) t) p c w = fewer_released (status_at w j) p j (with_cell c cell.Free w) refl
  fewer_shared_ended (cell.OfRaw o t) p c w = omega arith

  fewer_each : (p : ℕ) (is : List ℕ) (w : State T) → owners (released_each p is w) ≤ owners w
  fewer_each p [] w = omega arith
  fewer_each p (j ∷ is) w = let a = fewer_released (status_at w j) p j w refl in let b = fewer_each p is (released p j w) in omega (arith, a, b)

  fewer_given : (p : ℕ) (h : Hold) (w : State T) → owners (given p h w) ≤ owners w
  fewer_given p (OwnedItem j) w = fewer_disowned (status_at w j) p j w
  fewer_given p (SharedItem j) w = fewer_released (status_at w j) p j w refl
  fewer_given p (OwnedIn c) w = fewer_owned_ended (cell_at w c) p c w
  fewer_given p (SharedIn c) w = fewer_shared_ended (cell_at w c) p c w
  fewer_given p (OwnerGroup g) w = fewer_each p (reverse (row_ended g w.groups)) (with_groups (less_owned g w.groups) w)

  fewer_given_all : (p : ℕ) (hs : List Hold) (w : State T) → owners (given_all p hs w) ≤ owners w
  fewer_given_all p [] w = omega arith
  fewer_given_all p (h ∷ hs) w = let a = fewer_given p h w in let b = fewer_given_all p hs (given p h w) in omega (arith, a, b)

  fewer_due : (holds : T → List Hold) (p : ℕ) (is : List ℕ) (w : State T) → owners (due_reclaimed_as holds p is w) ≤ owners w
  fewer_due holds p [] w = omega arith
  fewer_due holds p (j ∷ is) w =
      let a = fewer_set w j (vacated (status_at w j)) (let z = none_vacated (status_at w j) in omega (arith, z)) in
      let b = fewer_given_all p (held_in holds (value_at w j)) (taken p j is w) in
      omega (arith, a, b)

  fewer_reclaimed : (holds : T → List Hold) (p n : ℕ) (w : State T) → owners (reclaimed holds p n w) ≤ owners w
  fewer_reclaimed holds p zero w = omega arith
  fewer_reclaimed holds p (suc n) w =
      let a = fewer_due holds p (participant_at w p).due w in
      let b = fewer_reclaimed holds p n (due_reclaimed holds p w) in
      omega (arith, a, b)

  pub fewer_opened : (holds : T → List Hold) (p : ℕ) (w : State T) → owners (guard_opened holds p w) ≤ owners w
  fewer_opened holds p w =
      let r : owners (participant_rotated holds p (count_published p w)) ≤ owners w = fewer_reclaimed holds p (length (participant_at (count_published p w) p).oldest) (rotated_bags p (count_published p w)) in
      let outer : owners (cond ((local_at w p).previous == w.count) (count_published p w) (participant_rotated holds p (count_published p w))) ≤ owners w = elim ((local_at w p).previous == w.count) as (λ b. owners (cond b (count_published p w) (participant_rotated holds p (count_published p w))) ≤ owners w) [ true ↦ omega arith | false ↦ r ] in
      elim ((local_at w p).nesting == 0) as (λ b. owners (cond b (cond ((local_at w p).previous == w.count) (count_published p w) (participant_rotated holds p (count_published p w))) (with_local p (record (local_at w p) { nesting = (local_at w p).nesting + 1 }) w)) ≤ owners w) [ true ↦ outer | false ↦ omega arith ]

-- what cells keep counts among the owners
keeps_one : (i : ℕ) (t : Tag) → tally (SharedItem i) (kept_by (cell.OfShared (Some i) t)) ≡ 1
keeps_one i t = let h = hit-same i in rw h refl

module _ {T : Type 0} (holds : T → List Hold) (hand : List Hold) (w : State T) (counted : Counted holds hand w) where
  pub one_owner : (i c : ℕ) (t : Tag) → cell_at w c ≡ cell.OfShared (Some i) t → 1 ≤ shared_owners (status_at w i)
  one_owner i c t h =
      let e = counted.each (SharedItem i) in
      let m = at_most (λ (k : Cell). tally (SharedItem i) (kept_by k)) w.cells c cell.Free refl in
      let n : tally (SharedItem i) (kept_by (cell_at w c)) ≡ 1 = ap (λ (k : Cell). tally (SharedItem i) (kept_by k)) h ∙ keeps_one i t in
      omega (arith, e, m, n)

  pub two_owners : (i c d : ℕ) (t u : Tag) → c ≢ d → cell_at w c ≡ cell.OfShared (Some i) t → cell_at w d ≡ cell.OfShared (Some i) u → 2 ≤ shared_owners (status_at w i)
  two_owners i c d t u ne h k =
      let f : Cell → ℕ = λ x. tally (SharedItem i) (kept_by x) in
      let e = counted.each (SharedItem i) in
      let less = sum_by-set f w.cells d cell.Free cell.Free (inside_cells w.cells d (Some i) u k) in
      let m = at_most f (set w.cells d cell.Free) c cell.Free refl in
      let same : f (get_or (set w.cells d cell.Free) c cell.Free) ≡ f (cell_at w c) = ap f (get_or-set_other w.cells d c cell.Free cell.Free ne) in
      let n : f (cell_at w c) ≡ 1 = ap f h ∙ keeps_one i t in
      let n' : f (cell_at w d) ≡ 1 = ap f k ∙ keeps_one i u in
      let z : f cell.Free ≡ 0 = refl in
      omega (arith, e, less, m, same, n, n', z)

-- a guard opens where the owners are counted
module _ {T : Type 0} (p : ℕ) (hand : List Hold) (w : State (LinkedEntry T)) (place : IsPlace w) (known : p < length w.participants) (counted : Counted entry_holds hand w) where
  abbrev after : State (LinkedEntry T)
  after = guard_opened entry_holds p w

  still : Counted entry_holds hand after
  still = counted_opened entry_holds p hand w place known counted

  holds_its_link : (v : LinkedEntry T) (c : ℕ) → entry_link v ≡ Some c → 1 ≤ tally (SharedIn c) (entry_holds v)
  holds_its_link v c e = let n : tally (SharedIn c) (entry_holds v) ≡ 1 = ap (λ (o : Option ℕ). tally (SharedIn c) (holds_link o)) e ∙ (let h = hit-same c in rw h refl) in omega (arith, n)

  link_stays : (e : Entry (LinkedEntry T)) → IsItem entry_link w e → cell_at after e.link ≡ cell_at w e.link
  link_stays e h = (held_cells_stay entry_holds).item e.link e.slot p hand w place known (ap has_owner h.shared) (subst (λ (o : Option (LinkedEntry T)). 1 ≤ tally (SharedIn e.link) (held_in entry_holds o)) (sym h.here) (holds_its_link e.item e.link h.linked)) counted

  item_opened : (e : Entry (LinkedEntry T)) (c : ℕ) (t : Tag) → cell_at after c ≡ cell.OfShared (Some e.slot) t → IsItem entry_link w e → IsItem entry_link after e
  item_opened e c t now h =
      let some = one_owner entry_holds hand after still e.slot c t now in
      record {
        owners = shared_owners (status_at after e.slot);
        shared = shared_of (status_at after e.slot) some;
        owned = some;
        here = (keeps_opened entry_holds w p place known).0.lives e.slot (ap has_owner h.shared) ∙ h.here;
        linked = h.linked;
      }

  pub hung_opened : (c : ℕ) (t : Tag) (es : List (Entry (LinkedEntry T))) → cell_at after c ≡ cell_at w c → IsList entry_link w c t es → IsList entry_link after c t es
  hung_opened c t [] same h = same ∙ h
  hung_opened c t (e ∷ es) same h = (same ∙ h.0, item_opened e c t (same ∙ h.0) h.1, h.2, h.3, hung_opened e.link e.tag es (link_stays e h.1) h.4)

  pub cell_opened : (c : ℕ) → 1 ≤ tally (SharedIn c) hand → cell_at after c ≡ cell_at w c
  cell_opened c held = (held_cells_stay entry_holds).hand c p hand w place known held counted

  -- the cell that keeps the last entry of a list isn't the newest one
  last_cell : (c d : ℕ) (t : Tag) (es : List (Entry (LinkedEntry T))) (i : ℕ) → IsList entry_link after c t es → d ≢ c → IsOut d (links es) → last_slot es ≡ Some i → cell_at after d ≡ cell.OfShared (Some i) tag.None → 2 ≤ shared_owners (status_at after i)
  last_cell c d t [] i h ne out e k = cc
  last_cell c d t (x ∷ []) i h ne out e k =
      let same : x.slot ≡ i = cc in
      two_owners entry_holds hand after still i c d t tag.None (λ q. ne (sym q)) (subst (λ (j : ℕ). cell_at after c ≡ cell.OfShared (Some j) t) same h.0) k
  last_cell c d t (x ∷ y ∷ es) i h ne out e k = last_cell x.link d x.tag (y ∷ es) i h.4 out.0 out.1 e k

  pub queue_opened : (c d : ℕ) (es : List (Entry (LinkedEntry T))) → 1 ≤ tally (SharedIn c) hand → 1 ≤ tally (SharedIn d) hand → IsQueue entry_link w c d es → IsQueue entry_link after c d es
  queue_opened c d es held held' q =
      let h = hung_opened c tag.None es (cell_opened c held) q.hung in
      let n = cell_opened d held' ∙ q.newest in
      record {
        hung = h;
        newest = n;
        apart = q.apart;
        out = q.out;
        spare = λ i e.
            let two = last_cell c d tag.None es i h q.apart q.out e (n ∙ ap (λ (o : Option ℕ). cell.OfShared o tag.None) e) in
            record { owners = shared_owners (status_at after i); is = shared_of (status_at after i) (omega (arith, two)); two = two };
      }

  -- entries of a list that have one owner still have one
  own_hung : (c : ℕ) (t : Tag) (es : List (Entry (LinkedEntry T))) → IsList entry_link after c t es → AreOwn w es → AreOwn after es
  own_hung c t [] h own = tt
  own_hung c t (e ∷ es) h own =
      let some = one_owner entry_holds hand after still e.slot c t h.0 in
      let less = fewer_opened e.slot entry_holds p w in
      let was : shared_owners (status_at w e.slot) ≡ 1 = ap shared_owners own.1 in
      let one : shared_owners (status_at after e.slot) ≡ 1 = omega (arith, some, less, was) in
      (own.0, shared_of (status_at after e.slot) some ∙ ap (λ (n : ℕ). status.Shared n) one, own_hung e.link e.tag es h.4 own.2)

  own_rows : (cs : List ℕ) (rows : List (List (Entry (LinkedEntry T)))) → length rows ≡ length cs → ((k : ℕ) → k < length cs → IsList entry_link after (get_or cs k 0) tag.None (get_or rows k [])) → AreOwn w (joined rows) → AreOwn after (joined rows)
  own_rows cs [] size h own = tt
  own_rows [] (es ∷ rows) size h own = absurd (omega (arith, size))
  own_rows (c ∷ cs) (es ∷ rows) size h own =
      own_both after es (joined rows) (own_hung c tag.None es (h 0 (omega arith)) (own_first w es (joined rows) own)) (own_rows cs rows (omega (arith, size)) (λ k lt. h (suc k) (omega (arith, lt))) (own_second w es (joined rows) own))

  pub bag_opened : (n : ℕ) (cs : List ℕ) (ps os : List (Entry (LinkedEntry T))) → ((k : ℕ) → k < length cs → 1 ≤ tally (SharedIn (get_or cs k 0)) hand) → IsBag n w cs ps os → IsBag n after cs ps os
  bag_opened n cs ps os held b =
      let size : length (os ∷ b.rows) ≡ length cs = (let s = b.size in let c = b.cells in omega (arith, s, c)) in
      let h : (k : ℕ) → k < length cs → IsList entry_link after (get_or cs k 0) tag.None (get_or (os ∷ b.rows) k []) = λ k lt. hung_opened (get_or cs k 0) tag.None (get_or (os ∷ b.rows) k []) (cell_opened (get_or cs k 0) (held k lt)) (b.row.hung k lt) in
      let is : joined (os ∷ b.rows) ≡ os ++ ps = ap (λ (es : List (Entry (LinkedEntry T))). os ++ es) b.is in
      record {
        rows = b.rows;
        row = record { hung = h; cells = b.row.cells; items = b.row.items };
        cells = b.cells;
        size = b.size;
        single = b.single;
        is = b.is;
        own = subst (λ (es : List (Entry (LinkedEntry T))). AreOwn after es) is (own_rows cs (os ∷ b.rows) size h (subst (λ (es : List (Entry (LinkedEntry T))). AreOwn w es) (sym is) b.own));
      }

-- a guard that closes leaves all cells and items
pub leaves_closed : {L : Type 0} (p : ℕ) (w : State L) → Leaves [] [] w (guard_closed p w)
leaves_closed {L} p w =
    let m = local_at w p in
    let G : State L → Type 0 = λ x. Leaves [] [] w x in
    let k1 : LocalState = record m { nesting = 0; closings = 0 } in
    let k2 : LocalState = record m { nesting = 0; closings = closings_after m } in
    let k3 : LocalState = record m { nesting = m.nesting - 1 } in
    let by : (k : LocalState) → G (with_local p k w) = λ k. record { cells = λ c out used. refl; uses = λ i out used. refl; values = λ i out used. refl } in
    let up : (k : LocalState) → G (with_local p k (raised w)) = λ k. record { cells = λ c out used. refl; uses = λ i out used. refl; values = λ i out used. refl } in
    let yes : G (with_local p k1 (scanned w)) = elim (list_all (is_present w.count) w.participants && ltb w.count 18446744073709551615) as (λ b. G (with_local p k1 (cond b (raised w) w))) [ true ↦ up k1 | false ↦ by k1 ] in
    let outer : G (cond (scans m) (with_local p k1 (scanned w)) (with_local p k2 w)) = elim (scans m) as (λ b. G (cond b (with_local p k1 (scanned w)) (with_local p k2 w))) [ true ↦ yes | false ↦ by k2 ] in
    elim (m.nesting == 1) as (λ b. G (cond b (cond (scans m) (with_local p k1 (scanned w)) (with_local p k2 w)) (with_local p k3 w))) [ true ↦ outer | false ↦ by k3 ]

pub guards_leave : (T : Type 0) → GuardsLeave T
guards_leave T = record {
  lists = λ c p t es hand w o held h. hung_opened p hand w o.place o.known o.counted c t es (cell_opened p hand w o.place o.known o.counted c held) h;
  queues = λ c d p es hand w o held held' q. queue_opened p hand w o.place o.known o.counted c d es held held' q;
  bags = λ n p cs ps os hand w o held b. bag_opened p hand w o.place o.known o.counted n cs ps os held b;
  closing = λ p w. leaves_closed p w;
}
