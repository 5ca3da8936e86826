-- accelerated guards of one participant reclaim level by level
use Rattle.std.proofs.Common.{◌≡◌, ◌≢◌, ℕ, zero, suc, ◌+◌, ◌-◌, ◌<◌, ◌≤◌, ◌==◌, ◌&&◌, ◌||◌, Bool, true, false, Option, None, Some, List, [], ◌∷◌, length, get_or, set, reverse, refl, sym, ap, ◌∙◌, arith, length-set, subst, cond, get_or-set_same, get_or-set_other, inl, inr, ◌⊎◌, leb, ltb, is_some, not}
use Rattle.std.specs.List.{list_all}
use Rattle.std.proofs.lemmas.Bool.{false≢true}
use Rattle.std.proofs.lemmas.Bool.Decides.{eqb_tells, nat_tests}
use Rattle.std.proofs.lemmas.List.{length-reverse}
use Rattle.std.proofs.lemmas.List.Sums.{sum_by-cons}
use Rattle.sdd_table.specs.Groups.{GroupState, count_at, less_owned, no_group, row_at, row_ended, with_count, without}
use Rattle.sdd_table.specs.Holding.{Hold, OwnedItem, SharedItem, OwnedIn, SharedIn, OwnerGroup}
use Rattle.sdd_table.specs.State.{State, ParticipantState, nobody, status_at, value_at, cell_at, participant_at, local_at, with_local, with_local_state, with_status, with_cell, with_groups, retired, put_participant, taken, left_due, vacated, rotated_bags, bags_moved_on, raised, is_present, is_used, weight}
use Rattle.sdd_table.specs.Steps.{hit, times, released_as, disowned_as, owned_ended_as, shared_ended_as, given, given_all, group_given, released, released_each, held_in, due_reclaimed, due_reclaimed_as, reclaimed, participant_rotated, count_published, guard_opened, guard_closed, scanned, scans, closings_after, bags_empty, is_nil}
use Rattle.sdd_table.specs.Place.{Sound, IsPlace, IsOpen, held_times}
use Rattle.sdd_table.specs.Frame.{OnlyParticipant}
use Rattle.sdd_world.specs.Counting.{tally, same_hold}
use Rattle.sdd_world.specs.Passing.{accelerated, passed, passed_times, CanPass, slot_kept, Reaches, IsLayered, WaitsBelow, NoJobWaits, PassesReclaim, is_plain, Shrinks}
use Rattle.sdd_table.specs.declared.status.Status.{Status}
use Rattle.sdd_table.specs.declared.status.Status.TheVariants as status
use Rattle.sdd_table.specs.declared.status.Cell.{Cell}
use Rattle.sdd_table.specs.declared.status.Cell.TheVariants as cell
use Rattle.sdd_table.specs.declared.status.LocalState.{LocalState}
use Rattle.sdd_table.proofs.GroupLemmas.{groups_then, lowered_shrinks}
use Rattle.sdd_table.proofs.ListLemmas.{hit-same, hit-other, times-append}
use Rattle.sdd_table.proofs.BagInvariantLemmas.{reclaims_next, sound_turned, sound_taken, due_waiting, times_reversed, bag_waits, gives_given, released_known}
use Rattle.sdd_table.proofs.PlaceLemmas.{rotates, place_local, place_closed, place_begun}

-- what is set in a list of statuses or cells was there, or is what is set
status_before : (ss : List Status) (i j : ℕ) (s : Status) → s ≢ status.Deferred → get_or (set ss i s) j status.Free ≡ status.Deferred → get_or ss j status.Free ≡ status.Deferred
status_before [] i j s other e = e
status_before (x ∷ ss) zero zero s other e = absurd (other e)
status_before (x ∷ ss) zero (suc j) s other e = e
status_before (x ∷ ss) (suc i) zero s other e = e
status_before (x ∷ ss) (suc i) (suc j) s other e = status_before ss i j s other e

cell_before : (cs : List Cell) (c d j : ℕ) → slot_kept (get_or (set cs c cell.Free) d cell.Free) ≡ Some j → slot_kept (get_or cs d cell.Free) ≡ Some j
cell_before [] c d j e = e
cell_before (x ∷ cs) zero zero j e = absurd (cc)
cell_before (x ∷ cs) zero (suc d) j e = e
cell_before (x ∷ cs) (suc c) zero j e = e
cell_before (x ∷ cs) (suc c) (suc d) j e = cell_before cs c d j e

value_before : {T : Type 0} (vs : List (Option T)) (i j : ℕ) (u : T) → get_or (set vs i None) j None ≡ Some u → get_or vs j None ≡ Some u
value_before [] i j u e = e
value_before (x ∷ vs) zero zero u e = absurd (cc)
value_before (x ∷ vs) zero (suc j) u e = e
value_before (x ∷ vs) (suc i) zero u e = e
value_before (x ∷ vs) (suc i) (suc j) u e = value_before vs i j u e

vacated_idle : (s : Status) → vacated s ≢ status.Deferred
vacated_idle status.Free e = cc
vacated_idle status.Owned e = cc
vacated_idle (status.Shared n) e = cc
vacated_idle status.Raw e = cc
vacated_idle (status.Collected n b) e = cc
vacated_idle status.Retired e = cc
vacated_idle status.Idle e = cc
vacated_idle status.Deferred e = cc

-- what was plain is plain, or what is set is
pub plain_after : (ss : List Status) (i j : ℕ) (s : Status) → (is_plain (get_or ss i status.Free) ≡ true → is_plain s ≡ true) → is_plain (get_or ss j status.Free) ≡ true → is_plain (get_or (set ss i s) j status.Free) ≡ true
plain_after [] i j s new e = e
plain_after (x ∷ ss) zero zero s new e = new e
plain_after (x ∷ ss) zero (suc j) s new e = e
plain_after (x ∷ ss) (suc i) zero s new e = e
plain_after (x ∷ ss) (suc i) (suc j) s new e = plain_after ss i j s new e

plain_vacated : (s : Status) → is_plain s ≡ true → is_plain (vacated s) ≡ true
plain_vacated status.Free e = refl
plain_vacated status.Owned e = refl
plain_vacated (status.Shared n) e = refl
plain_vacated status.Raw e = refl
plain_vacated (status.Collected n b) e = refl
plain_vacated status.Retired e = refl
plain_vacated status.Idle e = absurd (false≢true e)
plain_vacated status.Deferred e = absurd (false≢true e)

pub shrinks_refl : {T : Type 0} (w : State T) → Shrinks w w
shrinks_refl w = record { values = λ j u e. e; cells = λ c j e. e; rows = λ g j e. e; groups = λ g out. (out, refl); jobs = λ j e. e; plain = λ j e. e }

pub shrinks_then : {T : Type 0} (u v w : State T) → Shrinks u v → Shrinks v w → Shrinks u w
shrinks_then u v w a b = record { values = λ j x e. a.values j x (b.values j x e); cells = λ c j e. a.cells c j (b.cells c j e); rows = λ g j e. a.rows g j (b.rows g j e); groups = groups_then w.groups v.groups u.groups b.groups a.groups; jobs = λ j e. a.jobs j (b.jobs j e); plain = λ j e. b.plain j (a.plain j e) }

held_before : {T : Type 0} (w w' : State T) → Shrinks w w' → (h : Hold) (j : ℕ) → Reaches w' h j → Reaches w h j
held_before w w' s (OwnedItem i) j e = e
held_before w w' s (SharedItem i) j e = e
held_before w w' s (OwnedIn c) j e = s.cells c j e
held_before w w' s (SharedIn c) j e = s.cells c j e
held_before w w' s (OwnerGroup g) j e = s.rows g j e

layered_after : {T : Type 0} (holds : T → List Hold) (level : T → ℕ) (w w' : State T) → Shrinks w w' → IsLayered holds level w → IsLayered holds level w'
layered_after holds level w w' s l i j v u h a b c d = l i j v u h (s.values i v a) b (held_before w w' s h j c) (s.values j u d)

-- what giving an owner back adds to the current bag of p: at most the place o names
pub record Adds {T : Type 0} (p : ℕ) (o : Option ℕ) (w w' : State T) : Type 0 where
  pub shrinks : Shrinks w w'
  pub added : (j : ℕ) → 1 ≤ times j (participant_at w' p).current → (1 ≤ times j (participant_at w p).current) ⊎ (o ≡ Some j)

adds_refl : {T : Type 0} (p : ℕ) (o : Option ℕ) (w : State T) → Adds p o w w
adds_refl p o w = record { shrinks = shrinks_refl w; added = λ j s. inl s }

adds_retired : {T : Type 0} (w : State T) (p i : ℕ) → p < length w.participants → Adds p (Some i) w (retired p i w)
adds_retired w p i known =
    let at : participant_at (retired p i w) p ≡ put_participant i (participant_at w p) = get_or-set_same w.participants p (put_participant i (participant_at w p)) nobody known in
    record {
      shrinks = record { values = λ j u e. e; cells = λ c j e. e; rows = λ g j e. e; groups = λ g out. (out, refl); jobs = λ j e. status_before w.states i j status.Retired (λ f. cc) e; plain = λ j e. plain_after w.states i j status.Retired (λ f. refl) e };
      added = λ j s. elim (eqb_tells j i) [
        | inl t ↦ inr (ap (λ (k : ℕ). Some k) (sym t.1))
        | inr t ↦ let bag = ap (λ (m : ParticipantState). times j m.current) at in let more = times-append j (participant_at w p).current i in let none = hit-other i j t.1 in inl (omega (arith, s, bag, more, none))
      ];
    }

adds_status : {T : Type 0} (w : State T) (p i n : ℕ) (o : Option ℕ) → ltb 0 n ≡ true → Adds p o w (with_status i (status.Shared n) w)
adds_status w p i n o some = record { shrinks = record { values = λ j u e. e; cells = λ c j e. e; rows = λ g j e. e; groups = λ g out. (out, refl); jobs = λ j e. status_before w.states i j (status.Shared n) (λ f. cc) e; plain = λ j e. plain_after w.states i j (status.Shared n) (λ f. some) e }; added = λ j s. inl s }

left_some : (n : ℕ) → leb n 1 ≡ false → ltb 0 (n - 1) ≡ true
left_some zero e = absurd (false≢true (sym e))
left_some (suc zero) e = absurd (false≢true (sym e))
left_some (suc (suc n)) e = grind (arith, nat_tests)

pub adds_released : {T : Type 0} (w : State T) (p i : ℕ) (s : Status) → p < length w.participants → Adds p (Some i) w (released_as s p i w)
adds_released w p i status.Free known = adds_refl p (Some i) w
adds_released w p i status.Owned known = adds_refl p (Some i) w
adds_released w p i (status.Shared n) known = (elim (leb n 1) as (λ b. leb n 1 ≡ b → Adds p (Some i) w (cond b (retired p i w) (with_status i (status.Shared (n - 1)) w))) [ true ↦ λ e. adds_retired w p i known | false ↦ λ e. adds_status w p i (n - 1) (Some i) (left_some n e) ]) refl
adds_released w p i status.Raw known = adds_refl p (Some i) w
adds_released w p i (status.Collected n b) known = adds_refl p (Some i) w
adds_released w p i status.Retired known = adds_refl p (Some i) w
adds_released w p i status.Idle known = adds_refl p (Some i) w
adds_released w p i status.Deferred known = adds_refl p (Some i) w

adds_disowned : {T : Type 0} (w : State T) (p i : ℕ) (s : Status) → p < length w.participants → Adds p (Some i) w (disowned_as s p i w)
adds_disowned w p i status.Free known = adds_refl p (Some i) w
adds_disowned w p i status.Owned known = adds_retired w p i known
adds_disowned w p i (status.Shared n) known = adds_refl p (Some i) w
adds_disowned w p i status.Raw known = adds_refl p (Some i) w
adds_disowned w p i (status.Collected n b) known = adds_refl p (Some i) w
adds_disowned w p i status.Retired known = adds_refl p (Some i) w
adds_disowned w p i status.Idle known = adds_refl p (Some i) w
adds_disowned w p i status.Deferred known = adds_refl p (Some i) w

adds_cell : {T : Type 0} (w : State T) (p c : ℕ) (o : Option ℕ) → Adds p o w (with_cell c cell.Free w)
adds_cell w p c o = record { shrinks = record { values = λ j u e. e; cells = λ d j e. cell_before w.cells c d j e; rows = λ g j e. e; groups = λ g out. (out, refl); jobs = λ j e. e; plain = λ j e. e }; added = λ j s. inl s }

-- a cell ends first
adds_after : {T : Type 0} (w w' : State T) (p c : ℕ) (o : Option ℕ) → Adds p o (with_cell c cell.Free w) w' → Adds p o w w'
adds_after w w' p c o a = record { shrinks = shrinks_then w (with_cell c cell.Free w) w' (adds_cell w p c o).shrinks a.shrinks; added = a.added }

adds_owned_ended : {T : Type 0} (w : State T) (p c : ℕ) (k : Cell) → p < length w.participants → Adds p (slot_kept k) w (owned_ended_as k p c w)
adds_owned_ended w p c cell.Free known = adds_refl p None w
adds_owned_ended w p c (cell.OfOwned None t) known = adds_cell w p c None
adds_owned_ended w p c (cell.OfOwned (Some i) t) known = adds_after w _ p c (Some i) (adds_disowned (with_cell c cell.Free w) p i (status_at (with_cell c cell.Free w) i) known)
adds_owned_ended w p c (cell.OfShared o t) known = adds_refl p o w
adds_owned_ended w p c (cell.OfRaw o t) known = adds_refl p o w

adds_shared_ended : {T : Type 0} (w : State T) (p c : ℕ) (k : Cell) → p < length w.participants → Adds p (slot_kept k) w (shared_ended_as k p c w)
adds_shared_ended w p c cell.Free known = adds_refl p None w
adds_shared_ended w p c (cell.OfOwned o t) known = adds_refl p o w
adds_shared_ended w p c (cell.OfShared None t) known = adds_cell w p c None
adds_shared_ended w p c (cell.OfShared (Some i) t) known = adds_after w _ p c (Some i) (adds_released (with_cell c cell.Free w) p i (status_at (with_cell c cell.Free w) i) known)
adds_shared_ended w p c (cell.OfRaw o t) known = adds_refl p o w

-- the same, by a property of the places that come
record AddsTo {T : Type 0} (p : ℕ) (P : ℕ → Type 0) (w w' : State T) : Type 0 where
  pub shrinks : Shrinks w w'
  pub added : (j : ℕ) → 1 ≤ times j (participant_at w' p).current → (1 ≤ times j (participant_at w p).current) ⊎ P j

adds_to : {T : Type 0} (p : ℕ) (o : Option ℕ) (P : ℕ → Type 0) (w w' : State T) → ((j : ℕ) → o ≡ Some j → P j) → Adds p o w w' → AddsTo p P w w'
adds_to p o P w w' f a = record { shrinks = a.shrinks; added = λ j s. elim (a.added j s) [ inl t ↦ inl t | inr t ↦ inr (f j t) ] }

some_same : (i j : ℕ) → Some i ≡ Some j → i ≡ j
some_same i j e = cc

-- giving back one owner of each of several items adds these at most
adds_each : {T : Type 0} (w : State T) (p : ℕ) (is : List ℕ) → p < length w.participants → AddsTo p (λ j. 1 ≤ times j is) w (released_each p is w)
adds_each w p [] known = record { shrinks = shrinks_refl w; added = λ j s. inl s }
adds_each w p (i ∷ is) known =
    let v = released p i w in
    let a = adds_released w p i (status_at w i) known in
    let r = adds_each v p is (omega (arith, known, released_known w p i)) in
    record {
      shrinks = shrinks_then w v _ a.shrinks r.shrinks;
      added = λ j s. elim (r.added j s) [
        | inl t ↦ elim (a.added j t) [
          | inl y ↦ inl y
          | inr y ↦
              let here : 1 ≤ times i (i ∷ is) = omega (arith, sum_by-cons (λ k. hit k i) i is, hit-same i) in
              inr (subst (λ k. 1 ≤ times k (i ∷ is)) (some_same i j y) here)
        ]
        | inr t ↦ inr (omega (arith, t, sum_by-cons (λ k. hit k j) i is))
      ];
    }

-- a group with an owner less names nothing new
row_before : (gs : List GroupState) (g k j : ℕ) (s : GroupState) → (1 ≤ times j s.row → 1 ≤ times j (row_at gs g)) → 1 ≤ times j (row_at (set gs g s) k) → 1 ≤ times j (row_at gs k)
row_before [] g k j s old e = e
row_before (x ∷ gs) zero zero j s old e = old e
row_before (x ∷ gs) zero (suc k) j s old e = e
row_before (x ∷ gs) (suc g) zero j s old e = e
row_before (x ∷ gs) (suc g) (suc k) j s old e = row_before gs g k j s old e

less_before : (gs : List GroupState) (g k j : ℕ) → 1 ≤ times j (row_at (less_owned g gs) k) → 1 ≤ times j (row_at gs k)
less_before gs g k j =
    elim (leb (count_at gs g) 1) as (λ b. 1 ≤ times j (row_at (cond b (without g gs) (with_count g (count_at gs g - 1) gs)) k) → 1 ≤ times j (row_at gs k)) [
      | true ↦ row_before gs g k j no_group (λ e. absurd (omega (arith, e)))
      | false ↦ row_before gs g k j (record { count = count_at gs g - 1; row = row_at gs g }) (λ e. e)
    ]

ended_before : (gs : List GroupState) (g j : ℕ) → 1 ≤ times j (row_ended g gs) → 1 ≤ times j (row_at gs g)
ended_before gs g j =
    elim (leb (count_at gs g) 1) as (λ b. 1 ≤ times j (cond b (row_at gs g) []) → 1 ≤ times j (row_at gs g)) [ true ↦ λ e. e | false ↦ λ e. absurd (omega (arith, e)) ]

adds_group : {T : Type 0} (w : State T) (p g : ℕ) → p < length w.participants → AddsTo p (λ j. 1 ≤ times j (row_at w.groups g)) w (group_given p g w)
adds_group w p g known =
    let u = with_groups (less_owned g w.groups) w in
    let a = adds_each u p (reverse (row_ended g w.groups)) known in
    record {
      shrinks = shrinks_then w u _ (record { values = λ j v e. e; cells = λ c j e. e; rows = λ k j e. less_before w.groups g k j e; groups = lowered_shrinks w.groups g; jobs = λ j e. e; plain = λ j e. e }) a.shrinks;
      added = λ j s. elim (a.added j s) [ inl t ↦ inl t | inr t ↦ inr (ended_before w.groups g j (omega (arith, t, times_reversed j (row_ended g w.groups)))) ];
    }

adds_given : {T : Type 0} (w : State T) (p : ℕ) (h : Hold) → p < length w.participants → AddsTo p (λ j. Reaches w h j) w (given p h w)
adds_given w p (OwnedItem i) known = adds_to p (Some i) (λ j. i ≡ j) w _ (some_same i) (adds_disowned w p i (status_at w i) known)
adds_given w p (SharedItem i) known = adds_to p (Some i) (λ j. i ≡ j) w _ (some_same i) (adds_released w p i (status_at w i) known)
adds_given w p (OwnedIn c) known = adds_to p (slot_kept (cell_at w c)) (λ j. slot_kept (cell_at w c) ≡ Some j) w _ (λ j e. e) (adds_owned_ended w p c (cell_at w c) known)
adds_given w p (SharedIn c) known = adds_to p (slot_kept (cell_at w c)) (λ j. slot_kept (cell_at w c) ≡ Some j) w _ (λ j e. e) (adds_shared_ended w p c (cell_at w c) known)
adds_given w p (OwnerGroup g) known = adds_group w p g known

same_self : (h : Hold) → same_hold h h ≡ 1
same_self (OwnedItem i) = hit-same i
same_self (SharedItem i) = hit-same i
same_self (OwnedIn c) = hit-same c
same_self (SharedIn c) = hit-same c
same_self (OwnerGroup g) = hit-same g

-- what giving all back adds
record AddsAll {T : Type 0} (p : ℕ) (hs : List Hold) (w w' : State T) : Type 0 where
  pub shrinks : Shrinks w w'
  pub added : (j : ℕ) → 1 ≤ times j (participant_at w' p).current → (1 ≤ times j (participant_at w p).current) ⊎ ((h : Hold) × (1 ≤ tally h hs) × Reaches w h j)

adds_all : {T : Type 0} (w : State T) (p : ℕ) (hs : List Hold) → Sound w → p < length w.participants → AddsAll p hs w (given_all p hs w)
adds_all w p [] sound known = record { shrinks = shrinks_refl w; added = λ j s. inl s }
adds_all w p (x ∷ hs) sound known =
    let v = given p x w in
    let a = adds_given w p x known in
    let g = gives_given w p x sound known in
    let r = adds_all v p hs g.sound (omega (arith, g.known, known)) in
    record {
      shrinks = shrinks_then w v _ a.shrinks r.shrinks;
      added = λ j s. elim (r.added j s) [
        | inl t ↦ elim (a.added j t) [
          | inl y ↦ inl y
          | inr y ↦ let more = sum_by-cons (λ k. same_hold x k) x hs in let self = same_self x in inr (x, omega (arith, more, self), y)
        ]
        | inr t ↦ let more = sum_by-cons (λ k. same_hold t.0 k) x hs in let some = t.1 in inr (t.0, omega (arith, more, some), held_before w v a.shrinks t.0 j t.2)
      ];
    }

-- the item whose holds these are
holder : {T : Type 0} (holds : T → List Hold) (o : Option T) (h : Hold) → 1 ≤ tally h (held_in holds o) → (v : T) × (o ≡ Some v) × (1 ≤ tally h (holds v))
holder holds None h s = absurd (omega (arith, s))
holder holds (Some v) h s = (v, refl, s)

module _ {T : Type 0} (holds : T → List Hold) where
  shrinks_taken : (p i : ℕ) (is : List ℕ) (w : State T) → Shrinks w (taken p i is w)
  shrinks_taken p i is w = record { values = λ j u e. value_before w.values i j u e; cells = λ c j e. e; rows = λ g j e. e; groups = λ g out. (out, refl); jobs = λ j e. status_before w.states i j (vacated (status_at w i)) (vacated_idle (status_at w i)) e; plain = λ j e. plain_after w.states i j (vacated (status_at w i)) (plain_vacated (status_at w i)) e }

  adds_due : (p i : ℕ) (is : List ℕ) (w : State T) → Sound w → p < length w.participants → (participant_at w p).due ≡ i ∷ is → AddsAll p (held_in holds (value_at w i)) (taken p i is w) (due_reclaimed holds p w)
  adds_due p i is w h known was =
      let r = due_waiting w p i is h known was in
      let u = taken p i is w in
      let size : length u.participants ≡ length w.participants = length-set w.participants p (left_due is (participant_at w p)) in
      let all = adds_all u p (held_in holds (value_at w i)) (sound_taken w p i is h known r.0 r.1 was) (omega (arith, size, known)) in
      subst (λ (xs : List ℕ). AddsAll p (held_in holds (value_at w i)) u (due_reclaimed_as holds p xs w)) (sym was) all

  shrinks_runs : (p n : ℕ) (w : State T) (due : List ℕ) → due ≡ (participant_at w p).due → length due ≡ n → Sound w → p < length w.participants → Shrinks w (reclaimed holds p n w)
  shrinks_runs p zero w due e size h known = shrinks_refl w
  shrinks_runs p (suc n) w [] e size h known = absurd (omega (arith, size))
  shrinks_runs p (suc n) w (i ∷ is) e size h known =
      let r = reclaims_next holds w p i is h known (sym e) in
      let a = adds_due p i is w h known (sym e) in
      let u = due_reclaimed holds p w in
      shrinks_then w u _ (shrinks_then w (taken p i is w) u (shrinks_taken p i is w) a.shrinks) (shrinks_runs p n u is (sym r.due) (omega (arith, size)) r.sound (omega (arith, r.known, known)))

  -- the bags have moved on
  due_turned : (w : State T) (p : ℕ) → p < length w.participants → (participant_at (rotated_bags p w) p).due ≡ reverse (participant_at w p).oldest
  due_turned w p known = ap (λ (m : ParticipantState). m.due) (get_or-set_same w.participants p (bags_moved_on (participant_at w p)) nobody known)

  pub shrinks_rotated : (w : State T) (p : ℕ) → IsPlace w → p < length w.participants → Shrinks w (participant_rotated holds p w)
  shrinks_rotated w p h known =
      let u : State T = rotated_bags p w in
      let size : length u.participants ≡ length w.participants = length-set w.participants p (bags_moved_on (participant_at w p)) in
      let due = due_turned w p known in
      let s = shrinks_runs p (length (participant_at w p).oldest) u (participant_at u p).due refl (ap length due ∙ length-reverse (participant_at w p).oldest) (sound_turned w p h.sound known (h.idle p)) (omega (arith, size, known)) in
      record { values = s.values; cells = s.cells; rows = s.rows; groups = s.groups; jobs = s.jobs; plain = s.plain }

module _ {T : Type 0} (holds : T → List Hold) (level : T → ℕ) where
  -- what is in a list of places has a level below n
  abbrev Below : ℕ → List ℕ → State T → Type 0
  Below n xs w = (j : ℕ) (v : T) → 1 ≤ times j xs → value_at w j ≡ Some v → level v < n

  lowers_due : (n p i : ℕ) (is : List ℕ) (w : State T) → Sound w → p < length w.participants → (participant_at w p).due ≡ i ∷ is → IsLayered holds level w → Below (n + 1) (i ∷ is) w → Below n (participant_at w p).current w → Below n (participant_at (due_reclaimed holds p w) p).current (due_reclaimed holds p w)
  lowers_due n p i is w h known was layered due cur j v s e =
      let u : State T = taken p i is w in
      let a = adds_due holds p i is w h known was in
      let su = shrinks_taken holds p i is w in
      let at : participant_at u p ≡ left_due is (participant_at w p) = get_or-set_same w.participants p (left_due is (participant_at w p)) nobody known in
      let value : value_at w j ≡ Some v = su.values j v (a.shrinks.values j v e) in
      elim (a.added j s) [
        | inl t ↦ let bag = ap (λ (m : ParticipantState). times j m.current) at in cur j v (omega (arith, t, bag)) value
        | inr t ↦
            let o = holder holds (value_at w i) t.0 t.1 in
            let less = layered i j o.0 v t.0 o.1 o.2 (held_before w u su t.0 j t.2) value in
            let more = sum_by-cons (λ k. hit k i) i is in
            let bound = due i o.0 (omega (arith, more, hit-same i)) o.1 in
            omega (arith, less, bound)
      ]

  lowers_runs : (n p m : ℕ) (w : State T) (is : List ℕ) → is ≡ (participant_at w p).due → length is ≡ m → Sound w → p < length w.participants → IsLayered holds level w → Below (n + 1) is w → Below n (participant_at w p).current w → Below n (participant_at (reclaimed holds p m w) p).current (reclaimed holds p m w)
  lowers_runs n p zero w is e size h known layered due cur = cur
  lowers_runs n p (suc m) w [] e size h known layered due cur = absurd (omega (arith, size))
  lowers_runs n p (suc m) w (i ∷ is) e size h known layered due cur =
      let r = reclaims_next holds w p i is h known (sym e) in
      let a = adds_due holds p i is w h known (sym e) in
      let u = due_reclaimed holds p w in
      let su = shrinks_then w (taken p i is w) u (shrinks_taken holds p i is w) a.shrinks in
      lowers_runs n p m u is (sym r.due) (omega (arith, size)) r.sound (omega (arith, r.known, known)) (layered_after holds level w u su layered) (λ j v s x. let more = sum_by-cons (λ k. hit k j) i is in due j v (omega (arith, more, s)) (su.values j v x)) (lowers_due n p i is w h known (sym e) layered due cur)

  -- the three bags of p
  record Bounds (a b c p : ℕ) (w : State T) : Type 0 where
    pub current : Below a (participant_at w p).current w
    pub prior : Below b (participant_at w p).prior w
    pub oldest : Below c (participant_at w p).oldest w

  lowers_rotated : (a b n p : ℕ) (w : State T) → IsPlace w → p < length w.participants → IsLayered holds level w → Bounds a b (n + 1) p w → Bounds n a b p (participant_rotated holds p w)
  lowers_rotated a b n p w h known layered bounds =
      let m = participant_at w p in
      let u : State T = rotated_bags p w in
      let size : length u.participants ≡ length w.participants = length-set w.participants p (bags_moved_on m) in
      let due = due_turned holds w p known in
      let none : (participant_at u p).current ≡ [] = ap (λ (m : ParticipantState). m.current) (get_or-set_same w.participants p (bags_moved_on m) nobody known) in
      let r : State T = reclaimed holds p (length m.oldest) u in
      let cur : Below n (participant_at r p).current r = lowers_runs n p (length m.oldest) u (participant_at u p).due refl (ap length due ∙ length-reverse m.oldest) (sound_turned w p h.sound known (h.idle p)) (omega (arith, size, known)) layered (λ j v s e. bounds.oldest j v (let t = ap (times j) due in let x = times_reversed j m.oldest in omega (arith, s, t, x)) e) (λ j v s e. absurd (let t = ap (times j) none in omega (arith, s, t))) in
      let R = rotates holds w p h known in
      let s = shrinks_rotated holds w p h known in
      let mark : LocalState = record (local_at r p) { garbage = (local_at r p).garbage && not (bags_empty (participant_at r p)) } in
      let x : State T = participant_rotated holds p w in
      let sizex : length x.participants ≡ length r.participants = length-set r.participants p (with_local_state mark (participant_at r p)) in
      let atx : participant_at x p ≡ with_local_state mark (participant_at r p) = get_or-set_same r.participants p (with_local_state mark (participant_at r p)) nobody (omega (arith, sizex, R.known, known)) in
      record {
        current = λ j v t e. let bag = ap (λ (m : ParticipantState). times j m.current) atx in cur j v (omega (arith, t, bag)) e;
        prior = λ j v t e. let bag = ap (times j) R.prior in bounds.current j v (omega (arith, t, bag)) (s.values j v e);
        oldest = λ j v t e. let bag = ap (times j) R.oldest in bounds.prior j v (omega (arith, t, bag)) (s.values j v e);
      }

-- an outermost opening
pub record Opens {T : Type 0} (p : ℕ) (w o : State T) : Type 0 where
  pub count : o.count ≡ w.count
  pub nesting : (local_at o p).nesting ≡ 1
  pub published : (local_at o p).published ≡ w.count
  pub previous : (local_at o p).previous ≡ w.count
  pub others : (k : ℕ) → k ≢ p → participant_at o k ≡ participant_at w k
  pub participants : length o.participants ≡ length w.participants
  pub place : IsPlace o
  pub shrinks : Shrinks w o

opened_first : {T : Type 0} (holds : T → List Hold) (w : State T) (p : ℕ) → (local_at w p).nesting ≡ 0 → guard_opened holds p w ≡ cond ((local_at w p).previous == w.count) (count_published p w) (participant_rotated holds p (count_published p w))
opened_first {T} holds w p none = let X : State T = cond ((local_at w p).previous == w.count) (count_published p w) (participant_rotated holds p (count_published p w)) in let Y : State T = with_local p (record (local_at w p) { nesting = (local_at w p).nesting + 1 }) w in ap (λ (n : ℕ). cond (n == 0) X Y) none

module _ {T : Type 0} (holds : T → List Hold) (w : State T) (p : ℕ) (h : IsPlace w) (known : p < length w.participants) (none : (local_at w p).nesting ≡ 0) where
  abbrev begin_local : LocalState
  begin_local = record (local_at w p) { nesting = 1; published = w.count; previous = w.count; accelerated = false }

  begun_at : participant_at (count_published p w) p ≡ with_local_state begin_local (participant_at w p)
  begun_at = get_or-set_same w.participants p (with_local_state begin_local (participant_at w p)) nobody known

  begun_known : p < length (count_published p w).participants
  begun_known = let size = length-set w.participants p (with_local_state begin_local (participant_at w p)) in omega (arith, size, known)

  opens_begun : Opens p w (count_published p w)
  opens_begun = record {
    count = refl;
    nesting = ap (λ (m : ParticipantState). m.local.nesting) begun_at;
    published = ap (λ (m : ParticipantState). m.local.published) begun_at;
    previous = ap (λ (m : ParticipantState). m.local.previous) begun_at;
    others = λ k n. get_or-set_other w.participants p k (with_local_state begin_local (participant_at w p)) nobody n;
    participants = length-set w.participants p (with_local_state begin_local (participant_at w p));
    place = place_begun w p h known;
    shrinks = record { values = λ j u e. e; cells = λ c j e. e; rows = λ g j e. e; groups = λ g out. (out, refl); jobs = λ j e. e; plain = λ j e. e };
  }

  opens_turned : Opens p w (participant_rotated holds p (count_published p w))
  opens_turned =
      let b = opens_begun in
      let r = rotates holds (count_published p w) p b.place begun_known in
      let s = shrinks_rotated holds (count_published p w) p b.place begun_known in
      record {
        count = r.count;
        nesting = r.nesting ∙ b.nesting;
        published = r.published ∙ b.published;
        previous = r.previous ∙ b.previous;
        others = λ k n. r.others k n ∙ b.others k n;
        participants = r.known ∙ b.participants;
        place = r.place;
        shrinks = record { values = s.values; cells = s.cells; rows = s.rows; groups = s.groups; jobs = s.jobs; plain = s.plain };
      }

  pub opens : Opens p w (guard_opened holds p w)
  opens = subst (λ (x : State T). Opens p w x) (sym (opened_first holds w p none)) (elim ((local_at w p).previous == w.count) as (λ b. Opens p w (cond b (count_published p w) (participant_rotated holds p (count_published p w)))) [ true ↦ opens_begun | false ↦ opens_turned ])

  module _ (level : T → ℕ) (layered : IsLayered holds level w) where
    begun_bounds : (a b c : ℕ) → Bounds holds level a b c p w → Bounds holds level a b c p (count_published p w)
    begun_bounds a b c x = record {
      current = λ j v t e. let bag = ap (λ (m : ParticipantState). times j m.current) begun_at in x.current j v (omega (arith, t, bag)) e;
      prior = λ j v t e. let bag = ap (λ (m : ParticipantState). times j m.prior) begun_at in x.prior j v (omega (arith, t, bag)) e;
      oldest = λ j v t e. let bag = ap (λ (m : ParticipantState). times j m.oldest) begun_at in x.oldest j v (omega (arith, t, bag)) e;
    }

    -- an opening that finds another count
    opened_lower : (a b n : ℕ) → (local_at w p).previous ≢ w.count → Bounds holds level a b (n + 1) p w → Bounds holds level n a b p (guard_opened holds p w)
    opened_lower a b n differs x =
        let y : Bounds holds level n a b p (participant_rotated holds p (count_published p w)) = lowers_rotated holds level a b n p (count_published p w) opens_begun.place begun_known layered (begun_bounds a b (n + 1) x) in
        elim (eqb_tells (local_at w p).previous w.count) [
          | inl t ↦ absurd (differs t.1)
          | inr t ↦ subst (λ (x : State T). Bounds holds level n a b p x) (sym (opened_first holds w p none ∙ ap (λ (c : Bool). cond c (count_published p w) (participant_rotated holds p (count_published p w))) t.0)) y
        ]

    -- any opening
    opened_same : (n : ℕ) → Bounds holds level n n n p w → Bounds holds level n n n p (guard_opened holds p w)
    opened_same n x =
        let z = begun_bounds n n n x in
        let more : Bounds holds level n n (n + 1) p (count_published p w) = record { current = z.current; prior = z.prior; oldest = λ j v t e. let l = z.oldest j v t e in omega (arith, l) } in
        let y : Bounds holds level n n n p (participant_rotated holds p (count_published p w)) = lowers_rotated holds level n n n p (count_published p w) opens_begun.place begun_known layered more in
        subst (λ (x : State T). Bounds holds level n n n p x) (sym (opened_first holds w p none)) (elim ((local_at w p).previous == w.count) as (λ b. Bounds holds level n n n p (cond b (count_published p w) (participant_rotated holds p (count_published p w)))) [ true ↦ z | false ↦ y ])

present_closed : (n : ℕ) (m : ParticipantState) → m.local.nesting ≡ 0 → is_present n m ≡ true
present_closed n m e = ap (λ (x : ℕ). (x == 0) || (m.local.published == n)) e

present_now : (n : ℕ) (m : ParticipantState) → m.local.published ≡ n → is_present n m ≡ true
present_now n m e = grind (arith, nat_tests)

present_all : (n : ℕ) (ms : List ParticipantState) → ((k : ℕ) → is_present n (get_or ms k nobody) ≡ true) → list_all (is_present n) ms ≡ true
present_all n [] h = refl
present_all n (m ∷ ms) h = ap (λ (b : Bool). b && list_all (is_present n) ms) (h 0) ∙ present_all n ms (λ k. h (suc k))

scanned_raises : {T : Type 0} (w : State T) → list_all (is_present w.count) w.participants ≡ true → w.count < 18446744073709551615 → scanned w ≡ raised w
scanned_raises {T} w all less =
    let below : ltb w.count 18446744073709551615 ≡ true = grind (arith, nat_tests) in
    ap (λ (b : Bool). cond (b && ltb w.count 18446744073709551615) (raised w) w) all ∙ ap (λ (b : Bool). cond b (raised w) w) below

closed_scans : {T : Type 0} (w : State T) (p : ℕ) → (local_at w p).nesting ≡ 1 → (local_at w p).accelerated ≡ true → guard_closed p w ≡ with_local p (record (local_at w p) { nesting = 0; closings = 0 }) (scanned w)
closed_scans {T} w p one fast =
    let m = local_at w p in
    let X : State T = with_local p (record m { nesting = 0; closings = 0 }) (scanned w) in
    let Y : State T = with_local p (record m { nesting = 0; closings = closings_after m }) w in
    let Z : State T = with_local p (record m { nesting = m.nesting - 1 }) w in
    ap (λ (n : ℕ). cond (n == 1) (cond (scans m) X Y) Z) one ∙ ap (λ (b : Bool). cond (b || (m.garbage && leb 64 (closings_after m))) X Y) fast

-- a guard that was opened, accelerated and closed
record IsPassed {T : Type 0} (p : ℕ) (w o w' : State T) : Type 0 where
  pub opens : Opens p w o
  pub count : w'.count ≡ w.count + 1
  pub previous : (local_at w' p).previous ≡ w.count
  pub nesting : (local_at w' p).nesting ≡ 0
  pub others : (k : ℕ) → k ≢ p → participant_at w' k ≡ participant_at w k
  pub participants : length w'.participants ≡ length w.participants
  pub current : (participant_at w' p).current ≡ (participant_at o p).current
  pub prior : (participant_at w' p).prior ≡ (participant_at o p).prior
  pub oldest : (participant_at w' p).oldest ≡ (participant_at o p).oldest
  pub values : w'.values ≡ o.values
  pub shrinks : Shrinks w w'
  pub place : IsPlace w'

module _ {T : Type 0} (holds : T → List Hold) where
  is_passed : (n p : ℕ) (w : State T) → CanPass (suc n) p w → IsPassed p w (guard_opened holds p w) (passed holds p w)
  is_passed n p w c =
      let o : State T = guard_opened holds p w in
      let O = opens holds w p c.place c.known (c.none_open p) in
      let fast : LocalState = record (local_at o p) { accelerated = true } in
      let a : State T = accelerated p o in
      let ko : p < length o.participants = (let size = O.participants in let known = c.known in omega (arith, size, known)) in
      let ata : participant_at a p ≡ with_local_state fast (participant_at o p) = get_or-set_same o.participants p (with_local_state fast (participant_at o p)) nobody ko in
      let othera : (k : ℕ) → k ≢ p → participant_at a k ≡ participant_at o k = λ k n. get_or-set_other o.participants p k (with_local_state fast (participant_at o p)) nobody n in
      let sizea : length a.participants ≡ length o.participants = length-set o.participants p (with_local_state fast (participant_at o p)) in
      let ka : p < length a.participants = omega (arith, sizea, ko) in
      let one : (local_at a p).nesting ≡ 1 = ap (λ (m : ParticipantState). m.local.nesting) ata ∙ O.nesting in
      let quick : (local_at a p).accelerated ≡ true = ap (λ (m : ParticipantState). m.local.accelerated) ata in
      let now : (local_at a p).published ≡ a.count = ap (λ (m : ParticipantState). m.local.published) ata ∙ O.published ∙ sym O.count in
      let all : list_all (is_present a.count) a.participants ≡ true = present_all a.count a.participants (λ k. elim (eqb_tells k p) [
        | inl t ↦ let P : ℕ → Type 0 = λ j. is_present a.count (participant_at a j) ≡ true in let here : P p = present_now a.count (participant_at a p) now in subst P (sym t.1) here
        | inr t ↦ present_closed a.count (participant_at a k) (ap (λ (m : ParticipantState). m.local.nesting) (othera k t.1 ∙ O.others k t.1) ∙ c.none_open k)
      ]) in
      let less : a.count < 18446744073709551615 = (let same = O.count in let room = c.room in omega (arith, same, room)) in
      let k : LocalState = record (local_at a p) { nesting = 0; closings = 0 } in
      let x : State T = with_local p k (raised a) in
      let is : guard_closed p a ≡ x = closed_scans a p one quick ∙ ap (λ (s : State T). with_local p k s) (scanned_raises a all less) in
      let atx : participant_at x p ≡ with_local_state k (participant_at a p) = get_or-set_same a.participants p (with_local_state k (participant_at a p)) nobody ka in
      let otherx : (j : ℕ) → j ≢ p → participant_at x j ≡ participant_at a j = λ j n. get_or-set_other a.participants p j (with_local_state k (participant_at a p)) nobody n in
      let open' : IsOpen a p = omega (arith, one) in
      let placea : IsPlace a = place_local o p fast O.place ko (record { past = O.place.past p; began = O.place.began p; near = O.place.near p }) in
      let placex : IsPlace x = subst (λ (s : State T). IsPlace s) is (place_closed a p placea ka open') in
      let whole : IsPassed p w o x = record {
        opens = O;
        count = (let same = O.count in omega (arith, same));
        previous = ap (λ (m : ParticipantState). m.local.previous) (atx) ∙ ap (λ (m : ParticipantState). m.local.previous) ata ∙ O.previous;
        nesting = ap (λ (m : ParticipantState). m.local.nesting) atx;
        others = λ j n. otherx j n ∙ othera j n ∙ O.others j n;
        participants = length-set a.participants p (with_local_state k (participant_at a p)) ∙ sizea ∙ O.participants;
        current = ap (λ (m : ParticipantState). m.current) atx ∙ ap (λ (m : ParticipantState). m.current) ata;
        prior = ap (λ (m : ParticipantState). m.prior) atx ∙ ap (λ (m : ParticipantState). m.prior) ata;
        oldest = ap (λ (m : ParticipantState). m.oldest) atx ∙ ap (λ (m : ParticipantState). m.oldest) ata;
        values = refl;
        shrinks = record { values = O.shrinks.values; cells = O.shrinks.cells; rows = O.shrinks.rows; groups = O.shrinks.groups; jobs = O.shrinks.jobs; plain = O.shrinks.plain };
        place = placex;
      } in
      subst (λ (s : State T). IsPassed p w o s) (sym is) whole

  can_pass : (n p : ℕ) (w : State T) → CanPass (suc n) p w → CanPass n p (passed holds p w)
  can_pass n p w c =
      let g = is_passed n p w c in
      record {
        place = g.place;
        known = (let size = g.participants in let known = c.known in omega (arith, size, known));
        none_open = λ k. elim (eqb_tells k p) [
          | inl t ↦ let P : ℕ → Type 0 = λ j. (local_at (passed holds p w) j).nesting ≡ 0 in let here : P p = g.nesting in subst P (sym t.1) here
          | inr t ↦ ap (λ (m : ParticipantState). m.local.nesting) (g.others k t.1) ∙ c.none_open k
        ];
        room = (let one = g.count in let room = c.room in omega (arith, one, room));
      }

  raises : (n m p : ℕ) (w : State T) → CanPass (n + m) p w → ((passed_times holds p n w).count ≡ w.count + n) × CanPass m p (passed_times holds p n w) × OnlyParticipant p w (passed_times holds p n w)
  raises zero m p w c = let e : 0 + m ≡ m = omega arith in (omega arith, subst (λ (k : ℕ). CanPass k p w) e c, λ k n. refl)
  raises (suc n) m p w c' =
      let e : suc n + m ≡ suc (n + m) = omega arith in
      let c : CanPass (suc (n + m)) p w = subst (λ (k : ℕ). CanPass k p w) e c' in
      let g = is_passed (n + m) p w c in
      let r = raises n m p (passed holds p w) (can_pass (n + m) p w c) in
      let one = g.count in
      let rest = r.0 in
      (omega (arith, one, rest), r.1, λ k d. r.2 k d ∙ g.others k d)

  no_jobs : (n p : ℕ) (w : State T) → CanPass n p w → NoJobWaits w → NoJobWaits (passed_times holds p n w)
  no_jobs zero p w c h = h
  no_jobs (suc n) p w c h = let g = is_passed n p w c in no_jobs n p (passed holds p w) (can_pass n p w c) (λ j e. h j (g.shrinks.jobs j e))

  module _ (level : T → ℕ) where
    after_opening : (a b c p : ℕ) (w o w' : State T) → IsPassed p w o w' → Bounds holds level a b c p o → Bounds holds level a b c p w'
    after_opening a b c p w o w' g x =
        let same : (j : ℕ) → value_at w' j ≡ value_at o j = λ j. ap (λ (vs : List (Option T)). get_or vs j None) g.values in
        record {
          current = λ j v t e. let bag = ap (times j) g.current in x.current j v (omega (arith, t, bag)) (sym (same j) ∙ e);
          prior = λ j v t e. let bag = ap (times j) g.prior in x.prior j v (omega (arith, t, bag)) (sym (same j) ∙ e);
          oldest = λ j v t e. let bag = ap (times j) g.oldest in x.oldest j v (omega (arith, t, bag)) (sym (same j) ∙ e);
        }

    -- the first guard may find the count of the one before
    pass_first : (m n p : ℕ) (w : State T) → CanPass (suc m) p w → IsLayered holds level w → Bounds holds level n n n p w → Bounds holds level n n n p (passed holds p w)
    pass_first m n p w c l x = after_opening n n n p w _ _ (is_passed m p w c) (opened_same holds w p c.place c.known (c.none_open p) level l n x)

    pass_next : (m a b n p : ℕ) (w : State T) → CanPass (suc m) p w → IsLayered holds level w → (local_at w p).previous ≢ w.count → Bounds holds level a b (n + 1) p w → Bounds holds level n a b p (passed holds p w)
    pass_next m a b n p w c l differs x = after_opening n a b p w _ _ (is_passed m p w c) (opened_lower holds w p c.place c.known (c.none_open p) level l a b n differs x)

    differs_after : (m p : ℕ) (w : State T) → CanPass (suc m) p w → (local_at (passed holds p w) p).previous ≢ (passed holds p w).count
    differs_after m p w c e = let g = is_passed m p w c in let a = g.previous in let b = g.count in absurd (omega (arith, e, a, b))

    layered_passed : (m p : ℕ) (w : State T) → CanPass (suc m) p w → IsLayered holds level w → IsLayered holds level (passed holds p w)
    layered_passed m p w c l = layered_after holds level w (passed holds p w) (is_passed m p w c).shrinks l

    bounds_of : (n p : ℕ) (w : State T) → WaitsBelow level n p w → Bounds holds level n n n p w
    bounds_of n p w h = record {
      current = λ j v t e. h j v (omega (arith, t)) e;
      prior = λ j v t e. h j v (omega (arith, t)) e;
      oldest = λ j v t e. h j v (omega (arith, t)) e;
    }

    waits_of : (n p : ℕ) (w : State T) → IsPlace w → Bounds holds level n n n p w → WaitsBelow level n p w
    waits_of n p w h x j v t e =
        let due = ap (times j) (h.idle p) in
        elim (eqb_tells (times j (participant_at w p).current) 0) [
          | inr s ↦ x.current j v (let some = s.1 in omega (arith, some)) e
          | inl s ↦ elim (eqb_tells (times j (participant_at w p).prior) 0) [
            | inr r ↦ x.prior j v (let some = r.1 in omega (arith, some)) e
            | inl r ↦ x.oldest j v (let none = s.1 in let neither = r.1 in omega (arith, none, neither, due, t)) e
          ]
        ]

    lowers : (n p : ℕ) (w : State T) → CanPass 4 p w → IsLayered holds level w → WaitsBelow level (n + 1) p w → IsLayered holds level (passed_times holds p 4 w) × WaitsBelow level n p (passed_times holds p 4 w)
    lowers n p w c l h =
        let w1 : State T = passed holds p w in
        let w2 : State T = passed holds p w1 in
        let w3 : State T = passed holds p w2 in
        let w4 : State T = passed holds p w3 in
        let c1 : CanPass 3 p w1 = can_pass 3 p w c in
        let c2 : CanPass 2 p w2 = can_pass 2 p w1 c1 in
        let c3 : CanPass 1 p w3 = can_pass 1 p w2 c2 in
        let c4 : CanPass 0 p w4 = can_pass 0 p w3 c3 in
        let l1 = layered_passed 3 p w c l in
        let l2 = layered_passed 2 p w1 c1 l1 in
        let l3 = layered_passed 1 p w2 c2 l2 in
        let l4 = layered_passed 0 p w3 c3 l3 in
        let b1 = pass_first 3 (n + 1) p w c l (bounds_of (n + 1) p w h) in
        let b2 = pass_next 2 (n + 1) (n + 1) n p w1 c1 l1 (differs_after 3 p w c) b1 in
        let b3 = pass_next 1 n (n + 1) n p w2 c2 l2 (differs_after 2 p w1 c1) b2 in
        let b4 = pass_next 0 n n n p w3 c3 l3 (differs_after 1 p w2 c2) b3 in
        (l4, waits_of n p w4 c4.place b4)

waits_used : (s : Status) → 1 ≤ weight s → s ≢ status.Deferred → is_used s ≡ true
waits_used status.Free h n = absurd (omega (arith, h))
waits_used status.Owned h n = refl
waits_used (status.Shared k) h n = refl
waits_used status.Raw h n = refl
waits_used (status.Collected k b) h n = refl
waits_used status.Retired h n = refl
waits_used status.Idle h n = absurd (omega (arith, h))
waits_used status.Deferred h n = absurd (n refl)

some_value : {T : Type 0} (o : Option T) → is_some o ≡ true → (v : T) × (o ≡ Some v)
some_value None h = absurd (false≢true h)
some_value (Some v) h = (v, refl)

no_names : (xs : List ℕ) → ((j : ℕ) → 1 ≤ times j xs → ⊥) → is_nil xs ≡ true
no_names [] h = refl
no_names (x ∷ xs) h = absurd (h x (let more = sum_by-cons (λ k. hit k x) x xs in omega (arith, more, hit-same x)))

all_three : (a b c : Bool) → a ≡ true → b ≡ true → c ≡ true → (a && (b && c)) ≡ true
all_three true true true e f g = refl
all_three true true false e f g = g
all_three true false c e f g = f
all_three false b c e f g = e

empties : {T : Type 0} (level : T → ℕ) (p : ℕ) (w : State T) → IsPlace w → p < length w.participants → NoJobWaits w → WaitsBelow level 0 p w → bags_empty (participant_at w p) ≡ true
empties level p w h known jobs below =
    let none : (j : ℕ) → 1 ≤ held_times j (participant_at w p) → ⊥ = λ j s.
    let used = waits_used (status_at w j) (let bag = bag_waits w p j h.sound known in omega (arith, s, bag)) (jobs j) in
    let v = some_value (value_at w j) (h.sound.filled j ∙ used) in
    let less = below j v.0 s v.1 in
    omega (arith, less) in
    all_three _ _ _ (no_names (participant_at w p).current (λ j s. none j (omega (arith, s)))) (no_names (participant_at w p).prior (λ j s. none j (omega (arith, s)))) (no_names (participant_at w p).oldest (λ j s. none j (omega (arith, s))))

pub passes_reclaim : {T : Type 0} (holds : T → List Hold) → PassesReclaim holds
passes_reclaim holds = record { raised = raises holds; lowered = lowers holds; emptied = empties; no_job = no_jobs holds }
