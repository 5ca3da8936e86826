-- owners stay counted over every call
use Rattle.std.proofs.Common.{◌≡◌, ◌≢◌, ℕ, zero, suc, ◌+◌, ◌-◌, ◌<◌, ◌≤◌, ◌==◌, true, false, Option, None, Some, List, [], ◌∷◌, ◌++◌, length, map, get_or, set, refl, sym, ap, ◌∙◌, arith, length-set, subst, cond, get_or-set_other, get_or-set_same, leb, inl, inr, is_some, reverse, ltb, ◌&&◌, replicate}
use Rattle.std.specs.List.{sum_by}
use Rattle.std.proofs.lemmas.List.Sums.{sum_by-set, sum_by-cons, sum_by-append}
use Rattle.std.proofs.lemmas.Bool.{false≢true}
use Rattle.std.proofs.lemmas.Bool.Decides.{nat_tests, eqb_tells}
use Rattle.sdd_table.specs.Groups.{GroupState, IsFreeName, IsOut, count_at, less_owned, more_owned, no_group, row_at, row_ended, with_row}
use Rattle.sdd_table.specs.Holding.{Hold, OwnedItem, SharedItem, OwnedIn, SharedIn, OwnerGroup}
use Rattle.sdd_table.specs.State.{State, behind_at, mark_of, ParticipantState, status_at, value_at, cell_at, participant_at, local_at, placed, with_value, changing, recalled, slot_freed, waiting_as, IsIdle, with_status, with_cell, with_groups, with_local, retired, taken, vacated, weight, is_used, IsFree, IsFreeCell, rotated_bags, bags_moved_on, raised, is_present, nobody, with_local_state, fresh}
use Rattle.sdd_table.specs.Steps.{overdue, noted_reclaimed, left_behind, purged, purged_within, followed, followed_as, set_aside, handed_over, handed_over_as, handed_within, hit, held_in, given, given_all, released, released_each, times, released_as, disowned_as, owned_ended_as, shared_ended_as, due_reclaimed, due_reclaimed_as, reclaimed, participant_rotated, count_published, guard_opened, guard_closed, scanned, scans, closings_after}
use Rattle.sdd_table.proofs.ArenaLemmas.{ends_last, one_or_more, out_inside, stays_out}
use Rattle.sdd_world.proofs.RowLemmas.{row_counted, rows_given, rows_grown, rows_made, rows_raised, tally_reversed}
use Rattle.sdd_table.proofs.SlotLemmas.{at_most}
use Rattle.sdd_table.specs.Place.{Sound, IsPlace, IsShared, IsOwned, IsSharedCell}
use Rattle.sdd_world.specs.Counting.{same_hold, tally, kept_by, single_owner, shared_owners, keeps_owned, keeps_shared, owners_of, rows_held, Counted, OwnersAreCounted}
use Rattle.sdd_table.specs.declared.status.Status.{Status}
use Rattle.sdd_table.specs.declared.status.Status.TheVariants as status
use Rattle.sdd_table.specs.declared.status.Cell.{Cell}
use Rattle.sdd_table.specs.declared.status.Cell.TheVariants as cell
use Rattle.sdd_table.specs.declared.status.LocalState.{LocalState}
use Rattle.sdd_table.specs.declared.tag.Tag.{Tag}
use Rattle.sdd_table.proofs.ListLemmas.{hit-same, hit-other}
use Rattle.sdd_table.specs.Dropping.{Dropped, undone, undone_times}
use Rattle.sdd_table.proofs.DropLemmas.{calls_recalled}
use Rattle.sdd_table.proofs.BagInvariantLemmas.{inside_by, due_waiting, gives_given, reclaims_next, sound_turned}
use Rattle.std.specs.List.{list_all}
use Rattle.sdd_world.proofs.PrivateCollectorLemmas.{overdue_noted}
use Rattle.std.proofs.lemmas.List.{length-reverse}
use Rattle.sdd_table.proofs.PrivateBagLemmas.{unnamed_stays}
use Rattle.sdd_table.proofs.PlaceLemmas.{place_begun, get_or-replicate_default}
use Rattle.std.proofs.lemmas.List.Folds.{sum_by-replicate}
use Rattle.sdd_table.specs.declared.sizes.Sizes.{Sizes}

-- what the values weigh without that of a slot
sum_without : {X : Type 0} (f : Option X → ℕ) → f None ≡ 0 → (xs : List (Option X)) (i : ℕ) → sum_by f (set xs i None) + f (get_or xs i None) ≡ sum_by f xs
sum_without f none [] i = omega (arith, none)
sum_without f none (x ∷ xs) zero = omega (arith, none, sum_by-cons f x xs, sum_by-cons f None xs)
sum_without f none (x ∷ xs) (suc i) = omega (arith, sum_without f none xs i, sum_by-cons f x xs, sum_by-cons f x (set xs i None))

-- what an element weighs where one is changed
module _ {X : Type 0} (f : X → ℕ) where
  pub weigh_same : (xs : List X) (i j : ℕ) (s d : X) → i < length xs → f s ≡ f (get_or xs i d) → f (get_or (set xs i s) j d) ≡ f (get_or xs j d)
  weigh_same xs i j s d inside even =
      elim (eqb_tells j i) [
        | inl t ↦
            let P : ℕ → Type 0 = λ k. f (get_or (set xs i s) k d) ≡ f (get_or xs k d) in
            let here : P i = ap f (get_or-set_same xs i s d inside) ∙ even in
            subst P (sym t.1) here
        | inr t ↦ ap f (get_or-set_other xs i j s d t.1)
      ]

  pub weigh_more : (xs : List X) (i j : ℕ) (s d : X) → i < length xs → f s ≡ f (get_or xs i d) + 1 → f (get_or (set xs i s) j d) ≡ f (get_or xs j d) + hit i j
  weigh_more xs i j s d inside more =
      elim (eqb_tells j i) [
        | inl t ↦
            let P : ℕ → Type 0 = λ k. f (get_or (set xs i s) k d) ≡ f (get_or xs k d) + hit i k in
            let here : P i = omega (arith, ap f (get_or-set_same xs i s d inside), more, hit-same i) in
            subst P (sym t.1) here
        | inr t ↦ omega (arith, ap f (get_or-set_other xs i j s d t.1), hit-other i j t.1)
      ]

  pub weigh_less : (xs : List X) (i j : ℕ) (s d : X) → i < length xs → f s + 1 ≡ f (get_or xs i d) → f (get_or (set xs i s) j d) + hit i j ≡ f (get_or xs j d)
  weigh_less xs i j s d inside less =
      elim (eqb_tells j i) [
        | inl t ↦
            let P : ℕ → Type 0 = λ k. f (get_or (set xs i s) k d) + hit i k ≡ f (get_or xs k d) in
            let here : P i = omega (arith, ap f (get_or-set_same xs i s d inside), less, hit-same i) in
            subst P (sym t.1) here
        | inr t ↦ omega (arith, ap f (get_or-set_other xs i j s d t.1), hit-other i j t.1)
      ]

module _ {T : Type 0} where
  -- the uses of one slot and of one cell may change
  pub record Uses (w w' : State T) (i : ℕ) (s : Status) : Type 0 where
    pub states : w'.states ≡ set w.states i s
    pub cells : w'.cells ≡ w.cells
    pub groups : w'.groups ≡ w.groups
    pub inside : i < length w.states

  pub uses_same : (h : Hold) (w w' : State T) (i : ℕ) (s : Status) → Uses w w' i s → single_owner s ≡ single_owner (status_at w i) → shared_owners s ≡ shared_owners (status_at w i) → owners_of h w' ≡ owners_of h w
  uses_same (OwnedItem j) w w' i s u a b = ap (λ (ss : List Status). single_owner (get_or ss j status.Free)) u.states ∙ weigh_same single_owner w.states i j s status.Free u.inside a
  uses_same (SharedItem j) w w' i s u a b = ap (λ (ss : List Status). shared_owners (get_or ss j status.Free)) u.states ∙ weigh_same shared_owners w.states i j s status.Free u.inside b
  uses_same (OwnedIn c) w w' i s u a b = ap (λ (cs : List Cell). keeps_owned (get_or cs c cell.Free)) u.cells
  uses_same (SharedIn c) w w' i s u a b = ap (λ (cs : List Cell). keeps_shared (get_or cs c cell.Free)) u.cells
  uses_same (OwnerGroup g) w w' i s u a b = ap (λ (gs : List GroupState). count_at gs g) u.groups

  pub uses_single_more : (h : Hold) (w w' : State T) (i : ℕ) (s : Status) → Uses w w' i s → single_owner s ≡ single_owner (status_at w i) + 1 → shared_owners s ≡ shared_owners (status_at w i) → owners_of h w' ≡ owners_of h w + same_hold h (OwnedItem i)
  uses_single_more (OwnedItem j) w w' i s u a b = omega (arith, ap (λ (xs : List Status). single_owner (get_or xs j status.Free)) u.states, weigh_more single_owner w.states i j s status.Free u.inside a)
  uses_single_more (SharedItem j) w w' i s u a b = omega (arith, ap (λ (xs : List Status). shared_owners (get_or xs j status.Free)) u.states, weigh_same shared_owners w.states i j s status.Free u.inside b)
  uses_single_more (OwnedIn c) w w' i s u a b = omega (arith, ap (λ (xs : List Cell). keeps_owned (get_or xs c cell.Free)) u.cells)
  uses_single_more (SharedIn c) w w' i s u a b = omega (arith, ap (λ (xs : List Cell). keeps_shared (get_or xs c cell.Free)) u.cells)
  uses_single_more (OwnerGroup g) w w' i s u a b = omega (arith, ap (λ (gs : List GroupState). count_at gs g) u.groups)

  pub uses_single_less : (h : Hold) (w w' : State T) (i : ℕ) (s : Status) → Uses w w' i s → single_owner s + 1 ≡ single_owner (status_at w i) → shared_owners s ≡ shared_owners (status_at w i) → owners_of h w' + same_hold h (OwnedItem i) ≡ owners_of h w
  uses_single_less (OwnedItem j) w w' i s u a b = omega (arith, ap (λ (xs : List Status). single_owner (get_or xs j status.Free)) u.states, weigh_less single_owner w.states i j s status.Free u.inside a)
  uses_single_less (SharedItem j) w w' i s u a b = omega (arith, ap (λ (xs : List Status). shared_owners (get_or xs j status.Free)) u.states, weigh_same shared_owners w.states i j s status.Free u.inside b)
  uses_single_less (OwnedIn c) w w' i s u a b = omega (arith, ap (λ (xs : List Cell). keeps_owned (get_or xs c cell.Free)) u.cells)
  uses_single_less (SharedIn c) w w' i s u a b = omega (arith, ap (λ (xs : List Cell). keeps_shared (get_or xs c cell.Free)) u.cells)
  uses_single_less (OwnerGroup g) w w' i s u a b = omega (arith, ap (λ (gs : List GroupState). count_at gs g) u.groups)

  pub uses_shared_more : (h : Hold) (w w' : State T) (i : ℕ) (s : Status) → Uses w w' i s → shared_owners s ≡ shared_owners (status_at w i) + 1 → single_owner s ≡ single_owner (status_at w i) → owners_of h w' ≡ owners_of h w + same_hold h (SharedItem i)
  uses_shared_more (OwnedItem j) w w' i s u a b = omega (arith, ap (λ (xs : List Status). single_owner (get_or xs j status.Free)) u.states, weigh_same single_owner w.states i j s status.Free u.inside b)
  uses_shared_more (SharedItem j) w w' i s u a b = omega (arith, ap (λ (xs : List Status). shared_owners (get_or xs j status.Free)) u.states, weigh_more shared_owners w.states i j s status.Free u.inside a)
  uses_shared_more (OwnedIn c) w w' i s u a b = omega (arith, ap (λ (xs : List Cell). keeps_owned (get_or xs c cell.Free)) u.cells)
  uses_shared_more (SharedIn c) w w' i s u a b = omega (arith, ap (λ (xs : List Cell). keeps_shared (get_or xs c cell.Free)) u.cells)
  uses_shared_more (OwnerGroup g) w w' i s u a b = omega (arith, ap (λ (gs : List GroupState). count_at gs g) u.groups)

  pub uses_shared_less : (h : Hold) (w w' : State T) (i : ℕ) (s : Status) → Uses w w' i s → shared_owners s + 1 ≡ shared_owners (status_at w i) → single_owner s ≡ single_owner (status_at w i) → owners_of h w' + same_hold h (SharedItem i) ≡ owners_of h w
  uses_shared_less (OwnedItem j) w w' i s u a b = omega (arith, ap (λ (xs : List Status). single_owner (get_or xs j status.Free)) u.states, weigh_same single_owner w.states i j s status.Free u.inside b)
  uses_shared_less (SharedItem j) w w' i s u a b = omega (arith, ap (λ (xs : List Status). shared_owners (get_or xs j status.Free)) u.states, weigh_less shared_owners w.states i j s status.Free u.inside a)
  uses_shared_less (OwnedIn c) w w' i s u a b = omega (arith, ap (λ (xs : List Cell). keeps_owned (get_or xs c cell.Free)) u.cells)
  uses_shared_less (SharedIn c) w w' i s u a b = omega (arith, ap (λ (xs : List Cell). keeps_shared (get_or xs c cell.Free)) u.cells)
  uses_shared_less (OwnerGroup g) w w' i s u a b = omega (arith, ap (λ (gs : List GroupState). count_at gs g) u.groups)

  -- the use of one cell changes
  pub record Turns (w w' : State T) (c : ℕ) (k : Cell) : Type 0 where
    pub states : w'.states ≡ w.states
    pub cells : w'.cells ≡ set w.cells c k
    pub groups : w'.groups ≡ w.groups
    pub values : w'.values ≡ w.values
    pub inside : c < length w.cells

  pub cells_sum : (h : Hold) (w w' : State T) (c : ℕ) (k : Cell) → Turns w w' c k → sum_by (λ c. tally h (kept_by c)) w'.cells + tally h (kept_by (cell_at w c)) ≡ sum_by (λ c. tally h (kept_by c)) w.cells + tally h (kept_by k)
  cells_sum h w w' c k u = let e = ap (sum_by (λ c. tally h (kept_by c))) u.cells in omega (arith, e, sum_by-set (λ c. tally h (kept_by c)) w.cells c k cell.Free u.inside)

  pub turns_same : (h : Hold) (w w' : State T) (c : ℕ) (k : Cell) → Turns w w' c k → keeps_shared k ≡ keeps_shared (cell_at w c) → keeps_owned k ≡ keeps_owned (cell_at w c) → owners_of h w' ≡ owners_of h w
  turns_same (OwnedItem j) w w' c k u a b = omega (arith, ap (λ (xs : List Status). single_owner (get_or xs j status.Free)) u.states)
  turns_same (SharedItem j) w w' c k u a b = omega (arith, ap (λ (xs : List Status). shared_owners (get_or xs j status.Free)) u.states)
  turns_same (OwnedIn j) w w' c k u a b = omega (arith, ap (λ (xs : List Cell). keeps_owned (get_or xs j cell.Free)) u.cells, weigh_same keeps_owned w.cells c j k cell.Free u.inside b)
  turns_same (SharedIn j) w w' c k u a b = omega (arith, ap (λ (xs : List Cell). keeps_shared (get_or xs j cell.Free)) u.cells, weigh_same keeps_shared w.cells c j k cell.Free u.inside a)
  turns_same (OwnerGroup g) w w' c k u a b = omega (arith, ap (λ (gs : List GroupState). count_at gs g) u.groups)

  pub turns_owned_more : (h : Hold) (w w' : State T) (c : ℕ) (k : Cell) → Turns w w' c k → keeps_owned k ≡ keeps_owned (cell_at w c) + 1 → keeps_shared k ≡ keeps_shared (cell_at w c) → owners_of h w' ≡ owners_of h w + same_hold h (OwnedIn c)
  turns_owned_more (OwnedItem j) w w' c k u a b = omega (arith, ap (λ (xs : List Status). single_owner (get_or xs j status.Free)) u.states)
  turns_owned_more (SharedItem j) w w' c k u a b = omega (arith, ap (λ (xs : List Status). shared_owners (get_or xs j status.Free)) u.states)
  turns_owned_more (OwnedIn j) w w' c k u a b = omega (arith, ap (λ (xs : List Cell). keeps_owned (get_or xs j cell.Free)) u.cells, weigh_more keeps_owned w.cells c j k cell.Free u.inside a)
  turns_owned_more (SharedIn j) w w' c k u a b = omega (arith, ap (λ (xs : List Cell). keeps_shared (get_or xs j cell.Free)) u.cells, weigh_same keeps_shared w.cells c j k cell.Free u.inside b)
  turns_owned_more (OwnerGroup g) w w' c k u a b = omega (arith, ap (λ (gs : List GroupState). count_at gs g) u.groups)

  pub turns_owned_less : (h : Hold) (w w' : State T) (c : ℕ) (k : Cell) → Turns w w' c k → keeps_owned k + 1 ≡ keeps_owned (cell_at w c) → keeps_shared k ≡ keeps_shared (cell_at w c) → owners_of h w' + same_hold h (OwnedIn c) ≡ owners_of h w
  turns_owned_less (OwnedItem j) w w' c k u a b = omega (arith, ap (λ (xs : List Status). single_owner (get_or xs j status.Free)) u.states)
  turns_owned_less (SharedItem j) w w' c k u a b = omega (arith, ap (λ (xs : List Status). shared_owners (get_or xs j status.Free)) u.states)
  turns_owned_less (OwnedIn j) w w' c k u a b = omega (arith, ap (λ (xs : List Cell). keeps_owned (get_or xs j cell.Free)) u.cells, weigh_less keeps_owned w.cells c j k cell.Free u.inside a)
  turns_owned_less (SharedIn j) w w' c k u a b = omega (arith, ap (λ (xs : List Cell). keeps_shared (get_or xs j cell.Free)) u.cells, weigh_same keeps_shared w.cells c j k cell.Free u.inside b)
  turns_owned_less (OwnerGroup g) w w' c k u a b = omega (arith, ap (λ (gs : List GroupState). count_at gs g) u.groups)

  pub turns_shared_more : (h : Hold) (w w' : State T) (c : ℕ) (k : Cell) → Turns w w' c k → keeps_shared k ≡ keeps_shared (cell_at w c) + 1 → keeps_owned k ≡ keeps_owned (cell_at w c) → owners_of h w' ≡ owners_of h w + same_hold h (SharedIn c)
  turns_shared_more (OwnedItem j) w w' c k u a b = omega (arith, ap (λ (xs : List Status). single_owner (get_or xs j status.Free)) u.states)
  turns_shared_more (SharedItem j) w w' c k u a b = omega (arith, ap (λ (xs : List Status). shared_owners (get_or xs j status.Free)) u.states)
  turns_shared_more (OwnedIn j) w w' c k u a b = omega (arith, ap (λ (xs : List Cell). keeps_owned (get_or xs j cell.Free)) u.cells, weigh_same keeps_owned w.cells c j k cell.Free u.inside b)
  turns_shared_more (SharedIn j) w w' c k u a b = omega (arith, ap (λ (xs : List Cell). keeps_shared (get_or xs j cell.Free)) u.cells, weigh_more keeps_shared w.cells c j k cell.Free u.inside a)
  turns_shared_more (OwnerGroup g) w w' c k u a b = omega (arith, ap (λ (gs : List GroupState). count_at gs g) u.groups)

  pub turns_shared_less : (h : Hold) (w w' : State T) (c : ℕ) (k : Cell) → Turns w w' c k → keeps_shared k + 1 ≡ keeps_shared (cell_at w c) → keeps_owned k ≡ keeps_owned (cell_at w c) → owners_of h w' + same_hold h (SharedIn c) ≡ owners_of h w
  turns_shared_less (OwnedItem j) w w' c k u a b = omega (arith, ap (λ (xs : List Status). single_owner (get_or xs j status.Free)) u.states)
  turns_shared_less (SharedItem j) w w' c k u a b = omega (arith, ap (λ (xs : List Status). shared_owners (get_or xs j status.Free)) u.states)
  turns_shared_less (OwnedIn j) w w' c k u a b = omega (arith, ap (λ (xs : List Cell). keeps_owned (get_or xs j cell.Free)) u.cells, weigh_same keeps_owned w.cells c j k cell.Free u.inside b)
  turns_shared_less (SharedIn j) w w' c k u a b = omega (arith, ap (λ (xs : List Cell). keeps_shared (get_or xs j cell.Free)) u.cells, weigh_less keeps_shared w.cells c j k cell.Free u.inside a)
  turns_shared_less (OwnerGroup g) w w' c k u a b = omega (arith, ap (λ (gs : List GroupState). count_at gs g) u.groups)

last_one : (n : ℕ) → leb n 1 ≡ true → 1 ≤ n → n ≡ 1
last_one n t h = grind (arith, nat_tests)

-- what waits has no owner, before and after it is vacated
waits_single : (s : Status) → weight s ≡ 1 → single_owner (vacated s) ≡ single_owner s
waits_single status.Free h = absurd (omega (arith, h))
waits_single status.Owned h = absurd (omega (arith, h))
waits_single (status.Shared n) h = absurd (omega (arith, h))
waits_single status.Raw h = absurd (omega (arith, h))
waits_single (status.Collected n b) h = absurd (omega (arith, h))
waits_single status.Retired h = refl
waits_single status.Idle h = absurd (omega (arith, h))
waits_single status.Deferred h = refl

waits_shared : (s : Status) → weight s ≡ 1 → shared_owners (vacated s) ≡ shared_owners s
waits_shared status.Free h = absurd (omega (arith, h))
waits_shared status.Owned h = absurd (omega (arith, h))
waits_shared (status.Shared n) h = absurd (omega (arith, h))
waits_shared status.Raw h = absurd (omega (arith, h))
waits_shared (status.Collected n b) h = absurd (omega (arith, h))
waits_shared status.Retired h = refl
waits_shared status.Idle h = absurd (omega (arith, h))
waits_shared status.Deferred h = refl

-- what has owners is there
shared_there : {T : Type 0} (w : State T) (i : ℕ) (s : Status) → s ≡ status_at w i → 1 ≤ shared_owners s → IsShared w i
shared_there w i status.Free e h = absurd (omega (arith, h))
shared_there w i status.Owned e h = absurd (omega (arith, h))
shared_there w i (status.Shared n) e h = record { inside = inside_by w.states i (status.Shared n) e (λ f. cc); owners = n; is = sym e }
shared_there w i status.Raw e h = absurd (omega (arith, h))
shared_there w i (status.Collected n b) e h = absurd (omega (arith, h))
shared_there w i status.Retired e h = absurd (omega (arith, h))
shared_there w i status.Idle e h = absurd (omega (arith, h))
shared_there w i status.Deferred e h = absurd (omega (arith, h))

owned_there : {T : Type 0} (w : State T) (i : ℕ) (s : Status) → s ≡ status_at w i → 1 ≤ single_owner s → IsOwned w i
owned_there w i status.Free e h = absurd (omega (arith, h))
owned_there w i status.Owned e h = record { inside = inside_by w.states i status.Owned e (λ f. cc); is = sym e }
owned_there w i (status.Shared n) e h = absurd (omega (arith, h))
owned_there w i status.Raw e h = absurd (omega (arith, h))
owned_there w i (status.Collected n b) e h = absurd (omega (arith, h))
owned_there w i status.Retired e h = absurd (omega (arith, h))
owned_there w i status.Idle e h = absurd (omega (arith, h))
owned_there w i status.Deferred e h = absurd (omega (arith, h))

unowned_single : (m n j : ℕ) → single_owner (get_or (replicate m status.Free ++ replicate n status.Idle) j status.Free) ≡ 0
unowned_single zero zero j = refl
unowned_single zero (suc n) zero = refl
unowned_single zero (suc n) (suc j) = unowned_single zero n j
unowned_single (suc m) n zero = refl
unowned_single (suc m) n (suc j) = unowned_single m n j

unowned_shared : (m n j : ℕ) → shared_owners (get_or (replicate m status.Free ++ replicate n status.Idle) j status.Free) ≡ 0
unowned_shared zero zero j = refl
unowned_shared zero (suc n) zero = refl
unowned_shared zero (suc n) (suc j) = unowned_shared zero n j
unowned_shared (suc m) n zero = refl
unowned_shared (suc m) n (suc j) = unowned_shared m n j

-- a cell in use is one of the place's
cell_inside : (cs : List Cell) (c : ℕ) → get_or cs c cell.Free ≢ cell.Free → c < length cs
cell_inside [] c h = absurd (h refl)
cell_inside (x ∷ cs) zero h = omega arith
cell_inside (x ∷ cs) (suc c) h = let r = cell_inside cs c h in omega (arith, r)

module _ {T : Type 0} (holds : T → List Hold) where
  pub tally-cons : (h k : Hold) (ks : List Hold) → tally h (k ∷ ks) ≡ same_hold h k + tally h ks
  tally-cons h k ks = sum_by-cons (λ k. same_hold h k) k ks

  pub tally-append : (h : Hold) (ks ls : List Hold) → tally h (ks ++ ls) ≡ tally h ks + tally h ls
  tally-append h ks ls = sum_by-append (λ k. same_hold h k) ks ls

  same_owners : (k : Hold) (w w' : State T) → w'.states ≡ w.states → w'.cells ≡ w.cells → w'.groups ≡ w.groups → owners_of k w' ≡ owners_of k w
  same_owners (OwnedItem j) w w' b c d = ap (λ (ss : List Status). single_owner (get_or ss j status.Free)) b
  same_owners (SharedItem j) w w' b c d = ap (λ (ss : List Status). shared_owners (get_or ss j status.Free)) b
  same_owners (OwnedIn j) w w' b c d = ap (λ (cs : List Cell). keeps_owned (get_or cs j cell.Free)) c
  same_owners (SharedIn j) w w' b c d = ap (λ (cs : List Cell). keeps_shared (get_or cs j cell.Free)) c
  same_owners (OwnerGroup g) w w' b c d = ap (λ (gs : List GroupState). count_at gs g) d

  pub counted_same : (hand : List Hold) (w w' : State T) → w'.values ≡ w.values → w'.states ≡ w.states → w'.cells ≡ w.cells → w'.groups ≡ w.groups → Counted holds hand w → Counted holds hand w'
  counted_same hand w w' a b c d h = record {
    each = λ k.
        let v = ap (sum_by (λ v. tally k (held_in holds v))) a in
        let e = ap (sum_by (λ c. tally k (kept_by c))) c in
        let r = ap (λ (gs : List GroupState). tally k (rows_held gs)) d in
        omega (arith, v, e, r, h.each k, same_owners k w w' b c d);
  }

  has_one_single : (i : ℕ) (hand : List Hold) (w : State T) → Counted holds (OwnedItem i ∷ hand) w → 1 ≤ single_owner (status_at w i)
  has_one_single i hand w h = let e = h.each (OwnedItem i) in omega (arith, e, tally-cons (OwnedItem i) (OwnedItem i) hand, hit-same i)

  has_one_shared : (i : ℕ) (hand : List Hold) (w : State T) → Counted holds (SharedItem i ∷ hand) w → 1 ≤ shared_owners (status_at w i)
  has_one_shared i hand w h = let e = h.each (SharedItem i) in omega (arith, e, tally-cons (SharedItem i) (SharedItem i) hand, hit-same i)

  has_owned_cell : (c : ℕ) (hand : List Hold) (w : State T) → Counted holds (OwnedIn c ∷ hand) w → 1 ≤ keeps_owned (cell_at w c)
  has_owned_cell c hand w h = let e = h.each (OwnedIn c) in omega (arith, e, tally-cons (OwnedIn c) (OwnedIn c) hand, hit-same c)

  has_shared_cell : (c : ℕ) (hand : List Hold) (w : State T) → Counted holds (SharedIn c ∷ hand) w → 1 ≤ keeps_shared (cell_at w c)
  has_shared_cell c hand w h = let e = h.each (SharedIn c) in omega (arith, e, tally-cons (SharedIn c) (SharedIn c) hand, hit-same c)

  -- a group that is owned has a count, which changes by one
  group_out : (g : ℕ) (hand : List Hold) (w : State T) → Counted holds (OwnerGroup g ∷ hand) w → IsOut w.groups g
  group_out g hand w h = let e = h.each (OwnerGroup g) in omega (arith, e, tally-cons (OwnerGroup g) (OwnerGroup g) hand, hit-same g)

  owned_less : (k : Hold) (g : ℕ) (w : State T) → IsOut w.groups g → owners_of k (with_groups (less_owned g w.groups) w) + same_hold k (OwnerGroup g) ≡ owners_of k w
  owned_less (OwnedItem j) g w out = omega arith
  owned_less (SharedItem j) g w out = omega arith
  owned_less (OwnedIn c) g w out = omega arith
  owned_less (SharedIn c) g w out = omega arith
  owned_less (OwnerGroup j) g w out =
      let gs = w.groups in
      let inside = out_inside gs g out in
      elim (one_or_more (count_at gs g)) [
        | inl few ↦ omega (arith, ap (λ (x : List GroupState). count_at x j) (ends_last gs g few), weigh_less (λ x. x.count) gs g j no_group no_group inside (omega (arith, few, out)))
        | inr more ↦ omega (arith, ap (λ (x : List GroupState). count_at x j) (stays_out gs g more), weigh_less (λ x. x.count) gs g j (record { count = count_at gs g - 1; row = row_at gs g }) no_group inside (omega (arith, more)))
      ]

  owned_more : (k : Hold) (g : ℕ) (s : GroupState) (w : State T) → g < length w.groups → s.count ≡ count_at w.groups g + 1 → owners_of k (with_groups (set w.groups g s) w) ≡ owners_of k w + same_hold k (OwnerGroup g)
  owned_more (OwnedItem j) g s w inside one = omega arith
  owned_more (SharedItem j) g s w inside one = omega arith
  owned_more (OwnedIn c) g s w inside one = omega arith
  owned_more (SharedIn c) g s w inside one = omega arith
  owned_more (OwnerGroup j) g s w inside one = weigh_more (λ x. x.count) w.groups g j s no_group inside one

  count_grown : (gs : List GroupState) (j : ℕ) → count_at (gs ++ no_group ∷ []) j ≡ count_at gs j
  count_grown [] zero = refl
  count_grown [] (suc j) = refl
  count_grown (x ∷ gs) zero = refl
  count_grown (x ∷ gs) (suc j) = count_grown gs j

  owned_grown : (k : Hold) (w : State T) → owners_of k (with_groups (w.groups ++ no_group ∷ []) w) ≡ owners_of k w
  owned_grown (OwnedItem j) w = refl
  owned_grown (SharedItem j) w = refl
  owned_grown (OwnedIn c) w = refl
  owned_grown (SharedIn c) w = refl
  owned_grown (OwnerGroup j) w = count_grown w.groups j

  -- one owner fewer
  drop_shared : (i : ℕ) (s : Status) (hand : List Hold) (w w' : State T) → Uses w w' i s → w'.values ≡ w.values → shared_owners s + 1 ≡ shared_owners (status_at w i) → single_owner s ≡ single_owner (status_at w i) → Counted holds (SharedItem i ∷ hand) w → Counted holds hand w'
  drop_shared i s hand w w' u v less same h = record {
    each = λ k.
        let a = ap (sum_by (λ v. tally k (held_in holds v))) v in
        let c = ap (sum_by (λ c. tally k (kept_by c))) u.cells in
        let r = ap (λ (gs : List GroupState). tally k (rows_held gs)) u.groups in
        omega (arith, a, c, r, h.each k, tally-cons k (SharedItem i) hand, uses_shared_less k w w' i s u less same);
  }

  drop_owned : (i : ℕ) (s : Status) (hand : List Hold) (w w' : State T) → Uses w w' i s → w'.values ≡ w.values → single_owner s + 1 ≡ single_owner (status_at w i) → shared_owners s ≡ shared_owners (status_at w i) → Counted holds (OwnedItem i ∷ hand) w → Counted holds hand w'
  drop_owned i s hand w w' u v less same h = record {
    each = λ k.
        let a = ap (sum_by (λ v. tally k (held_in holds v))) v in
        let c = ap (sum_by (λ c. tally k (kept_by c))) u.cells in
        let r = ap (λ (gs : List GroupState). tally k (rows_held gs)) u.groups in
        omega (arith, a, c, r, h.each k, tally-cons k (OwnedItem i) hand, uses_single_less k w w' i s u less same);
  }

  pub given_shared : (s : Status) (p i : ℕ) (hand : List Hold) (w : State T) → s ≡ status_at w i → Counted holds (SharedItem i ∷ hand) w → Counted holds hand (released_as s p i w)
  given_shared status.Free p i hand w e h = let one = has_one_shared i hand w h in let none = ap shared_owners e in absurd (omega (arith, one, none))
  given_shared status.Owned p i hand w e h = let one = has_one_shared i hand w h in let none = ap shared_owners e in absurd (omega (arith, one, none))
  given_shared (status.Shared n) p i hand w e h =
      let inside = inside_by w.states i (status.Shared n) e (λ f. cc) in
      let one = has_one_shared i hand w h in
      let is : shared_owners (status_at w i) ≡ n = ap shared_owners (sym e) in
      let none : single_owner (status_at w i) ≡ 0 = ap single_owner (sym e) in
      (elim (leb n 1) as (λ b. leb n 1 ≡ b → Counted holds hand (cond b (retired p i w) (with_status i (status.Shared (n - 1)) w))) [
        | true ↦ λ t. let last : n ≡ 1 = last_one n t (omega (arith, one, is)) in drop_shared i status.Retired hand w (retired p i w) (record { states = refl; cells = refl; groups = refl; inside = inside }) refl (omega (arith, is, last)) (sym none) h
        | false ↦ λ t. drop_shared i (status.Shared (n - 1)) hand w (with_status i (status.Shared (n - 1)) w) (record { states = refl; cells = refl; groups = refl; inside = inside }) refl (omega (arith, is, one)) (sym none) h
      ]) refl
  given_shared status.Raw p i hand w e h = let one = has_one_shared i hand w h in let none = ap shared_owners e in absurd (omega (arith, one, none))
  given_shared (status.Collected n b) p i hand w e h = let one = has_one_shared i hand w h in let none = ap shared_owners e in absurd (omega (arith, one, none))
  given_shared status.Retired p i hand w e h = let one = has_one_shared i hand w h in let none = ap shared_owners e in absurd (omega (arith, one, none))
  given_shared status.Idle p i hand w e h = let one = has_one_shared i hand w h in let none = ap shared_owners e in absurd (omega (arith, one, none))
  given_shared status.Deferred p i hand w e h = let one = has_one_shared i hand w h in let none = ap shared_owners e in absurd (omega (arith, one, none))

  pub given_owned : (s : Status) (p i : ℕ) (hand : List Hold) (w : State T) → s ≡ status_at w i → Counted holds (OwnedItem i ∷ hand) w → Counted holds hand (disowned_as s p i w)
  given_owned status.Free p i hand w e h = let one = has_one_single i hand w h in let none = ap single_owner e in absurd (omega (arith, one, none))
  given_owned status.Owned p i hand w e h =
      let inside = inside_by w.states i status.Owned e (λ f. cc) in
      let is : single_owner (status_at w i) ≡ 1 = ap single_owner (sym e) in
      let none : shared_owners (status_at w i) ≡ 0 = ap shared_owners (sym e) in
      drop_owned i status.Retired hand w (retired p i w) (record { states = refl; cells = refl; groups = refl; inside = inside }) refl (sym is) (sym none) h
  given_owned (status.Shared n) p i hand w e h = let one = has_one_single i hand w h in let none = ap single_owner e in absurd (omega (arith, one, none))
  given_owned status.Raw p i hand w e h = let one = has_one_single i hand w h in let none = ap single_owner e in absurd (omega (arith, one, none))
  given_owned (status.Collected n b) p i hand w e h = let one = has_one_single i hand w h in let none = ap single_owner e in absurd (omega (arith, one, none))
  given_owned status.Retired p i hand w e h = let one = has_one_single i hand w h in let none = ap single_owner e in absurd (omega (arith, one, none))
  given_owned status.Idle p i hand w e h = let one = has_one_single i hand w h in let none = ap single_owner e in absurd (omega (arith, one, none))
  given_owned status.Deferred p i hand w e h = let one = has_one_single i hand w h in let none = ap single_owner e in absurd (omega (arith, one, none))

  -- a cell ends: what it kept is in hand
  pub end_shared : (c : ℕ) (o : Option ℕ) (t : Tag) (hand : List Hold) (w : State T) → c < length w.cells → cell_at w c ≡ cell.OfShared o t → Counted holds (SharedIn c ∷ hand) w → Counted holds (kept_by (cell.OfShared o t) ++ hand) (with_cell c cell.Free w)
  end_shared c o t hand w inside is h = record {
    each = λ k.
        let u : Turns w (with_cell c cell.Free w) c cell.Free = record { states = refl; cells = refl; groups = refl; values = refl; inside = inside } in
        let was : tally k (kept_by (cell_at w c)) ≡ tally k (kept_by (cell.OfShared o t)) = ap (λ (x : Cell). tally k (kept_by x)) is in
        omega (arith, h.each k, was, cells_sum k w (with_cell c cell.Free w) c cell.Free u, tally-cons k (SharedIn c) hand, tally-append k (kept_by (cell.OfShared o t)) hand, turns_shared_less k w (with_cell c cell.Free w) c cell.Free u (sym (ap keeps_shared is)) (sym (ap keeps_owned is)));
  }

  pub end_owned : (c : ℕ) (o : Option ℕ) (t : Tag) (hand : List Hold) (w : State T) → c < length w.cells → cell_at w c ≡ cell.OfOwned o t → Counted holds (OwnedIn c ∷ hand) w → Counted holds (kept_by (cell.OfOwned o t) ++ hand) (with_cell c cell.Free w)
  end_owned c o t hand w inside is h = record {
    each = λ k.
        let u : Turns w (with_cell c cell.Free w) c cell.Free = record { states = refl; cells = refl; groups = refl; values = refl; inside = inside } in
        let was : tally k (kept_by (cell_at w c)) ≡ tally k (kept_by (cell.OfOwned o t)) = ap (λ (x : Cell). tally k (kept_by x)) is in
        omega (arith, h.each k, was, cells_sum k w (with_cell c cell.Free w) c cell.Free u, tally-cons k (OwnedIn c) hand, tally-append k (kept_by (cell.OfOwned o t)) hand, turns_owned_less k w (with_cell c cell.Free w) c cell.Free u (sym (ap keeps_owned is)) (sym (ap keeps_shared is)));
  }

  given_shared_cell : (x : Cell) (p c : ℕ) (hand : List Hold) (w : State T) → x ≡ cell_at w c → Counted holds (SharedIn c ∷ hand) w → Counted holds hand (shared_ended_as x p c w)
  given_shared_cell cell.Free p c hand w e h = let one = has_shared_cell c hand w h in let none = ap keeps_shared e in absurd (omega (arith, one, none))
  given_shared_cell (cell.OfOwned o t) p c hand w e h = let one = has_shared_cell c hand w h in let none = ap keeps_shared e in absurd (omega (arith, one, none))
  given_shared_cell (cell.OfShared None t) p c hand w e h = end_shared c None t hand w (cell_inside w.cells c (λ f. let x : cell.OfShared None t ≡ cell.Free = e ∙ f in cc)) (sym e) h
  given_shared_cell (cell.OfShared (Some i) t) p c hand w e h =
      given_shared _ p i hand (with_cell c cell.Free w) refl (end_shared c (Some i) t hand w (cell_inside w.cells c (λ f. let x : cell.OfShared (Some i) t ≡ cell.Free = e ∙ f in cc)) (sym e) h)
  given_shared_cell (cell.OfRaw o t) p c hand w e h = let one = has_shared_cell c hand w h in let none = ap keeps_shared e in absurd (omega (arith, one, none))

  given_owned_cell : (x : Cell) (p c : ℕ) (hand : List Hold) (w : State T) → x ≡ cell_at w c → Counted holds (OwnedIn c ∷ hand) w → Counted holds hand (owned_ended_as x p c w)
  given_owned_cell cell.Free p c hand w e h = let one = has_owned_cell c hand w h in let none = ap keeps_owned e in absurd (omega (arith, one, none))
  given_owned_cell (cell.OfOwned None t) p c hand w e h = end_owned c None t hand w (cell_inside w.cells c (λ f. let x : cell.OfOwned None t ≡ cell.Free = e ∙ f in cc)) (sym e) h
  given_owned_cell (cell.OfOwned (Some i) t) p c hand w e h =
      given_owned _ p i hand (with_cell c cell.Free w) refl (end_owned c (Some i) t hand w (cell_inside w.cells c (λ f. let x : cell.OfOwned (Some i) t ≡ cell.Free = e ∙ f in cc)) (sym e) h)
  given_owned_cell (cell.OfShared o t) p c hand w e h = let one = has_owned_cell c hand w h in let none = ap keeps_owned e in absurd (omega (arith, one, none))
  given_owned_cell (cell.OfRaw o t) p c hand w e h = let one = has_owned_cell c hand w h in let none = ap keeps_owned e in absurd (omega (arith, one, none))

  -- a group is given back: what its last owner gives up is in hand first
  group_lowered : (g : ℕ) (hand : List Hold) (w : State T) → Counted holds (OwnerGroup g ∷ hand) w → Counted holds (map SharedItem (reverse (row_ended g w.groups)) ++ hand) (with_groups (less_owned g w.groups) w)
  group_lowered g hand w h = record {
    each = λ k.
        let out : IsOut w.groups g = group_out g hand w h in
        omega (
          arith,
          h.each k,
          tally-cons k (OwnerGroup g) hand,
          tally-append k (map SharedItem (reverse (row_ended g w.groups))) hand,
          tally_reversed k (row_ended g w.groups),
          rows_given w.groups g k out,
          owned_less k g w out,
        );
  }

  given_each : (p : ℕ) (is : List ℕ) (hand : List Hold) (w : State T) → Counted holds (map SharedItem is ++ hand) w → Counted holds hand (released_each p is w)
  given_each p [] hand w h = h
  given_each p (i ∷ is) hand w h = given_each p is hand (released p i w) (given_shared _ p i (map SharedItem is ++ hand) w refl h)

  pub counted_given : (p : ℕ) (h : Hold) (hand : List Hold) (w : State T) → Counted holds (h ∷ hand) w → Counted holds hand (given p h w)
  counted_given p (OwnedItem i) hand w h = given_owned _ p i hand w refl h
  counted_given p (SharedItem i) hand w h = given_shared _ p i hand w refl h
  counted_given p (OwnedIn c) hand w h = given_owned_cell _ p c hand w refl h
  counted_given p (SharedIn c) hand w h = given_shared_cell _ p c hand w refl h
  counted_given p (OwnerGroup g) hand w h = given_each p (reverse (row_ended g w.groups)) hand (with_groups (less_owned g w.groups) w) (group_lowered g hand w h)

  counted_all : (p : ℕ) (hs hand : List Hold) (w : State T) → Counted holds (hs ++ hand) w → Counted holds hand (given_all p hs w)
  counted_all p [] hand w h = h
  counted_all p (x ∷ hs) hand w h = counted_all p hs hand (given p x w) (counted_given p x (hs ++ hand) w h)

  none_there : (o : Option T) → is_some o ≡ false → o ≡ None
  none_there None h = refl
  none_there (Some v) h = absurd (false≢true (sym h))

  -- a free slot is filled with what was to be held
  fill : (i : ℕ) (v : T) (hand : List Hold) (w : State T) (k : Hold) → IsPlace w → IsFree w i → sum_by (λ v. tally k (held_in holds v)) (set w.values i (Some v)) ≡ sum_by (λ v. tally k (held_in holds v)) w.values + tally k (holds v)
  fill i v hand w k place free =
      let none : value_at w i ≡ None = none_there (value_at w i) (place.sound.filled i ∙ ap is_used free.1) in
      let empty = ap (λ (o : Option T). tally k (held_in holds o)) none in
      omega (arith, sum_by-set (λ v. tally k (held_in holds v)) w.values i (Some v) None (omega (arith, place.sound.sizes, free.0)), empty)

  pub counted_placed_shared : (i : ℕ) (v : T) (hand : List Hold) (w : State T) → IsPlace w → IsFree w i → Counted holds (holds v ++ hand) w → Counted holds (SharedItem i ∷ hand) (placed i v (status.Shared 1) w)
  counted_placed_shared i v hand w place free h = record {
    each = λ k.
        let u : Uses w (placed i v (status.Shared 1) w) i (status.Shared 1) = record { states = refl; cells = refl; groups = refl; inside = free.0 } in
        omega (arith, h.each k, tally-append k (holds v) hand, tally-cons k (SharedItem i) hand, fill i v hand w k place free, uses_shared_more k w (placed i v (status.Shared 1) w) i (status.Shared 1) u (omega (arith, ap shared_owners free.1)) (sym (ap single_owner free.1)));
  }

  pub counted_placed_owned : (i : ℕ) (v : T) (hand : List Hold) (w : State T) → IsPlace w → IsFree w i → Counted holds (holds v ++ hand) w → Counted holds (OwnedItem i ∷ hand) (placed i v status.Owned w)
  counted_placed_owned i v hand w place free h = record {
    each = λ k.
        let u : Uses w (placed i v status.Owned w) i status.Owned = record { states = refl; cells = refl; groups = refl; inside = free.0 } in
        omega (arith, h.each k, tally-append k (holds v) hand, tally-cons k (OwnedItem i) hand, fill i v hand w k place free, uses_single_more k w (placed i v status.Owned w) i status.Owned u (omega (arith, ap single_owner free.1)) (sym (ap shared_owners free.1)));
  }

  pub counted_cloned : (i n : ℕ) (hand : List Hold) (w : State T) → status_at w i ≡ status.Shared n → i < length w.states → Counted holds hand w → Counted holds (SharedItem i ∷ hand) (with_status i (status.Shared (n + 1)) w)
  counted_cloned i n hand w is inside h = record {
    each = λ k.
        let u : Uses w (with_status i (status.Shared (n + 1)) w) i (status.Shared (n + 1)) = record { states = refl; cells = refl; groups = refl; inside = inside } in
        omega (arith, h.each k, tally-cons k (SharedItem i) hand, uses_shared_more k w (with_status i (status.Shared (n + 1)) w) i (status.Shared (n + 1)) u (omega (arith, ap shared_owners is)) (sym (ap single_owner is)));
  }

  pub cell_made_shared : (c : ℕ) (o : Option ℕ) (t : Tag) (hand : List Hold) (w : State T) → IsFreeCell w c → Counted holds (kept_by (cell.OfShared o t) ++ hand) w → Counted holds (SharedIn c ∷ hand) (with_cell c (cell.OfShared o t) w)
  cell_made_shared c o t hand w free h = record {
    each = λ k.
        let x : Cell = cell.OfShared o t in
        let u : Turns w (with_cell c x w) c x = record { states = refl; cells = refl; groups = refl; values = refl; inside = free.0 } in
        let was : tally k (kept_by (cell_at w c)) ≡ 0 = ap (λ (y : Cell). tally k (kept_by y)) free.1 in
        omega (arith, h.each k, was, cells_sum k w (with_cell c x w) c x u, tally-cons k (SharedIn c) hand, tally-append k (kept_by x) hand, turns_shared_more k w (with_cell c x w) c x u (omega (arith, ap keeps_shared free.1)) (sym (ap keeps_owned free.1)));
  }

  pub cell_made_owned : (c : ℕ) (o : Option ℕ) (t : Tag) (hand : List Hold) (w : State T) → IsFreeCell w c → Counted holds (kept_by (cell.OfOwned o t) ++ hand) w → Counted holds (OwnedIn c ∷ hand) (with_cell c (cell.OfOwned o t) w)
  cell_made_owned c o t hand w free h = record {
    each = λ k.
        let x : Cell = cell.OfOwned o t in
        let u : Turns w (with_cell c x w) c x = record { states = refl; cells = refl; groups = refl; values = refl; inside = free.0 } in
        let was : tally k (kept_by (cell_at w c)) ≡ 0 = ap (λ (y : Cell). tally k (kept_by y)) free.1 in
        omega (arith, h.each k, was, cells_sum k w (with_cell c x w) c x u, tally-cons k (OwnedIn c) hand, tally-append k (kept_by x) hand, turns_owned_more k w (with_cell c x w) c x u (omega (arith, ap keeps_owned free.1)) (sym (ap keeps_shared free.1)));
  }

  -- a cell keeps something else, of the same kind
  pub cell_changed : (c : ℕ) (old new : Cell) (hand : List Hold) (w : State T) → c < length w.cells → cell_at w c ≡ old → keeps_shared new ≡ keeps_shared old → keeps_owned new ≡ keeps_owned old → Counted holds (kept_by new ++ hand) w → Counted holds (kept_by old ++ hand) (with_cell c new w)
  cell_changed c old new hand w inside is a b h = record {
    each = λ k.
        let u : Turns w (with_cell c new w) c new = record { states = refl; cells = refl; groups = refl; values = refl; inside = inside } in
        let was : tally k (kept_by (cell_at w c)) ≡ tally k (kept_by old) = ap (λ (y : Cell). tally k (kept_by y)) is in
        omega (arith, h.each k, was, cells_sum k w (with_cell c new w) c new u, tally-append k (kept_by old) hand, tally-append k (kept_by new) hand, turns_same k w (with_cell c new w) c new u (a ∙ sym (ap keeps_shared is)) (b ∙ sym (ap keeps_owned is)));
  }

  -- what is due is taken: what it held is in hand
  pub counted_taken : (p i : ℕ) (is : List ℕ) (hand : List Hold) (w : State T) → Sound w → i < length w.states → weight (status_at w i) ≡ 1 → Counted holds hand w → Counted holds (held_in holds (value_at w i) ++ hand) (taken p i is w)
  counted_taken p i is hand w sound inside heavy h = record {
    each = λ k.
        let u : Uses w (taken p i is w) i (vacated (status_at w i)) = record { states = refl; cells = refl; groups = refl; inside = inside } in
        omega (arith, h.each k, tally-append k (held_in holds (value_at w i)) hand, sum_by-set (λ v. tally k (held_in holds v)) w.values i None None (omega (arith, sound.sizes, inside)), uses_same k w (taken p i is w) i (vacated (status_at w i)) u (waits_single (status_at w i) heavy) (waits_shared (status_at w i) heavy));
  }

  counted_next : (p i : ℕ) (is : List ℕ) (hand : List Hold) (w : State T) → Sound w → p < length w.participants → (participant_at w p).due ≡ i ∷ is → Counted holds hand w → Counted holds hand (due_reclaimed holds p w)
  counted_next p i is hand w sound known was h =
      let d = due_waiting w p i is sound known was in
      let one : Counted holds hand (due_reclaimed_as holds p (i ∷ is) w) = counted_all p (held_in holds (value_at w i)) hand (taken p i is w) (counted_taken p i is hand w sound d.0 d.1 h) in
      subst (λ (xs : List ℕ). Counted holds hand (due_reclaimed_as holds p xs w)) (sym was) one

  counted_reclaimed : (p n : ℕ) (hand : List Hold) (w : State T) (due : List ℕ) → due ≡ (participant_at w p).due → length due ≡ n → Sound w → p < length w.participants → Counted holds hand w → Counted holds hand (reclaimed holds p n w)
  counted_reclaimed p zero hand w due e size sound known h = h
  counted_reclaimed p (suc n) hand w [] e size sound known h = absurd (omega arith)
  counted_reclaimed p (suc n) hand w (i ∷ is) e size sound known h =
      let r = reclaims_next holds w p i is sound known (sym e) in
      counted_reclaimed p n hand (due_reclaimed holds p w) is (sym r.due) (omega (arith, size)) r.sound (omega (arith, r.known)) (counted_next p i is hand w sound known (sym e) h)

  pub counted_rotated : (p : ℕ) (hand : List Hold) (w : State T) → IsPlace w → p < length w.participants → Counted holds hand w → Counted holds hand (participant_rotated holds p w)
  counted_rotated p hand w place known h =
      let m = participant_at w p in
      let u : State T = rotated_bags p w in
      let at : participant_at u p ≡ bags_moved_on m = get_or-set_same w.participants p (bags_moved_on m) nobody known in
      let due : (participant_at u p).due ≡ reverse m.oldest = ap (λ (m : ParticipantState). m.due) at in
      let r : State T = reclaimed holds p (length m.oldest) u in
      let hr : Counted holds hand r = counted_reclaimed p (length m.oldest) hand u (participant_at u p).due refl (ap length due ∙ length-reverse m.oldest) (sound_turned w p place.sound known (place.idle p)) (omega (arith, length-set w.participants p (bags_moved_on m))) (counted_same hand w u refl refl refl refl h) in
      counted_same hand r _ refl refl refl refl hr

  -- what dropping goes through
  record Dropping (p : ℕ) (hand : List Hold) (w : State T) : Type 0 where
    pub known : p < length w.participants
    pub sound : Sound w
    pub idle : (participant_at w p).due ≡ []
    pub counted : Counted holds hand w

  dropping_next : (p : ℕ) (hand : List Hold) (w : State T) → Dropping p hand w → Dropping p hand (undone holds p w)
  dropping_next p hand w d =
      let r : State T = changing p recalled w in
      let c = calls_recalled w p d.sound d.known d.idle in
      let h : Counted holds hand r = counted_same hand w r refl refl refl refl d.counted in
      elim c.due [
        | inl e ↦
            let same : Dropping p hand r = record { known = c.known; sound = c.sound; idle = e; counted = h } in
            subst (λ (is : List ℕ). Dropping p hand (due_reclaimed_as holds p is r)) (sym e) same
        | inr e ↦
            let x = reclaims_next holds r p e.0 [] c.sound c.known e.1 in
            record { known = omega (arith, x.known, c.known); sound = x.sound; idle = x.due; counted = counted_next p e.0 [] hand r c.sound c.known e.1 h }
      ]

  dropping_all : (n p : ℕ) (hand : List Hold) (w : State T) → Dropping p hand w → Dropping p hand (undone_times holds p n w)
  dropping_all zero p hand w d = d
  dropping_all (suc n) p hand w d = dropping_next p hand (undone_times holds p n w) (dropping_all n p hand w d)

  counted_dropped : (h : Hold) (hand : List Hold) (w w' : State T) → IsPlace w → Counted holds (h ∷ hand) w → Dropped holds h w w' → Counted holds hand w'
  counted_dropped h hand w w' place c d =
      let g = gives_given w 0 h place.sound place.some in
      let start : Dropping 0 hand (given 0 h w) = record { known = omega (arith, g.known, place.some); sound = g.sound; idle = g.due ∙ place.idle 0; counted = counted_given 0 h hand w c } in
      let v : State T = undone_times holds 0 d.turns (given 0 h w) in
      let end : Counted holds hand (with_local 0 (local_at w 0) v) = counted_same hand v _ refl refl refl refl (dropping_all d.turns 0 hand (given 0 h w) start).counted in
      subst (λ (s : State T). Counted holds hand s) (sym d.now) end

  counted_written : (i : ℕ) (u v : T) (hand : List Hold) (w : State T) → i < length w.values → value_at w i ≡ Some u → Counted holds (holds v ++ hand) w → Counted holds (holds u ++ hand) (with_value i v w)
  counted_written i u v hand w inside was h = record {
    each = λ k.
        let old = ap (λ (o : Option T). tally k (held_in holds o)) was in
        omega (arith, h.each k, old, same_owners k w (with_value i v w) refl refl refl, tally-append k (holds v) hand, tally-append k (holds u) hand, sum_by-set (λ o. tally k (held_in holds o)) w.values i (Some v) None inside);
  }

  pub counted_opened : (p : ℕ) (hand : List Hold) (w : State T) → IsPlace w → p < length w.participants → Counted holds hand w → Counted holds hand (guard_opened holds p w)
  counted_opened p hand w place known h =
      let m = local_at w p in
      let b : State T = count_published p w in
      let n : State T = with_local p (record m { nesting = m.nesting + 1 }) w in
      let first : Counted holds hand b = counted_same hand w b refl refl refl refl h in
      let kb : p < length b.participants = omega (arith, length-set w.participants p (with_local_state (record m { nesting = 1; published = w.count; previous = w.count; accelerated = false }) (participant_at w p))) in
      let third : Counted holds hand (participant_rotated holds p b) = counted_rotated p hand b (place_begun w p place known) kb first in
      let outer : Counted holds hand (cond (m.previous == w.count) b (participant_rotated holds p b)) = elim (m.previous == w.count) as (λ c. Counted holds hand (cond c b (participant_rotated holds p b))) [ true ↦ first | false ↦ third ] in
      elim (m.nesting == 0) as (λ c. Counted holds hand (cond c (cond (m.previous == w.count) b (participant_rotated holds p b)) n)) [ true ↦ outer | false ↦ counted_same hand w n refl refl refl refl h ]

  pub counted_closed : (p : ℕ) (hand : List Hold) (w : State T) → Counted holds hand w → Counted holds hand (guard_closed p w)
  counted_closed p hand w h =
      let m = local_at w p in
      let k1 : LocalState = record m { nesting = 0; closings = 0 } in
      let k2 : LocalState = record m { nesting = 0; closings = closings_after m } in
      let k3 : LocalState = record m { nesting = m.nesting - 1 } in
      let yes : Counted holds hand (with_local p k1 (scanned w)) = elim (list_all (is_present w.count) w.participants && ltb w.count 18446744073709551615) as (λ c. Counted holds hand (with_local p k1 (cond c (raised w) w))) [ true ↦ counted_same hand w _ refl refl refl refl h | false ↦ counted_same hand w _ refl refl refl refl h ] in
      let outer : Counted holds hand (cond (scans m) (with_local p k1 (scanned w)) (with_local p k2 w)) = elim (scans m) as (λ c. Counted holds hand (cond c (with_local p k1 (scanned w)) (with_local p k2 w))) [ true ↦ yes | false ↦ counted_same hand w _ refl refl refl refl h ] in
      elim (m.nesting == 1) as (λ c. Counted holds hand (cond c (cond (scans m) (with_local p k1 (scanned w)) (with_local p k2 w)) (with_local p k3 w))) [ true ↦ outer | false ↦ counted_same hand w _ refl refl refl refl h ]

  pub names_shared : (i : ℕ) (hand : List Hold) (w : State T) → Counted holds (SharedItem i ∷ hand) w → IsShared w i
  names_shared i hand w h = shared_there w i (status_at w i) refl (has_one_shared i hand w h)

  pub names_owned : (i : ℕ) (hand : List Hold) (w : State T) → Counted holds (OwnedItem i ∷ hand) w → IsOwned w i
  names_owned i hand w h = owned_there w i (status_at w i) refl (has_one_single i hand w h)

  shared_cell_there : (w : State T) (c : ℕ) (k : Cell) → k ≡ cell_at w c → 1 ≤ keeps_shared k → IsSharedCell w c
  shared_cell_there w c cell.Free e h = absurd (omega (arith, h))
  shared_cell_there w c (cell.OfOwned o t) e h = absurd (omega (arith, h))
  shared_cell_there w c (cell.OfShared o t) e h = record { inside = cell_inside w.cells c (λ f. let g : cell.OfShared o t ≡ cell.Free = e ∙ f in cc); item = o; tag = t; is = sym e }
  shared_cell_there w c (cell.OfRaw o t) e h = absurd (omega (arith, h))

  kept_there : (c i : ℕ) (t : Tag) (hand : List Hold) (w : State T) → cell_at w c ≡ cell.OfShared (Some i) t → Counted holds hand w → IsShared w i
  kept_there c i t hand w is h =
      let m = at_most (λ k. tally (SharedItem i) (kept_by k)) w.cells c cell.Free refl in
      let was : tally (SharedItem i) (kept_by (cell_at w c)) ≡ tally (SharedItem i) (SharedItem i ∷ []) = ap (λ (k : Cell). tally (SharedItem i) (kept_by k)) is in
      let e = h.each (SharedItem i) in
      shared_there w i (status_at w i) refl (omega (arith, m, was, e, tally-cons (SharedItem i) (SharedItem i) [], hit-same i))

  held_there : (i j : ℕ) (v : T) (hand : List Hold) (w : State T) → value_at w j ≡ Some v → 1 ≤ tally (SharedItem i) (holds v) → Counted holds hand w → IsShared w i
  held_there i j v hand w was some h =
      let m = at_most (λ o. tally (SharedItem i) (held_in holds o)) w.values j None refl in
      let is = ap (λ (o : Option T). tally (SharedItem i) (held_in holds o)) was in
      let e = h.each (SharedItem i) in
      shared_there w i (status_at w i) refl (omega (arith, m, is, e, some))

  cell_there : (c j : ℕ) (v : T) (hand : List Hold) (w : State T) → value_at w j ≡ Some v → 1 ≤ tally (SharedIn c) (holds v) → Counted holds hand w → IsSharedCell w c
  cell_there c j v hand w was some h =
      let m = at_most (λ o. tally (SharedIn c) (held_in holds o)) w.values j None refl in
      let is = ap (λ (o : Option T). tally (SharedIn c) (held_in holds o)) was in
      let e = h.each (SharedIn c) in
      shared_cell_there w c (cell_at w c) refl (omega (arith, m, is, e, some))

  counted_fresh : (n : Sizes) → Counted holds [] (fresh n)
  counted_fresh n = record {
    each = λ k.
        let v = sum_by-replicate (λ v. tally k (held_in holds v)) (n.slots + n.jobs) None in
        let c = sum_by-replicate (λ c. tally k (kept_by c)) n.cells cell.Free in
        omega (arith, v, c, fresh_owners k n);
  }
    where
      fresh_owners : (k : Hold) (n : Sizes) → owners_of k (fresh {T = T} n) ≡ 0
      fresh_owners (OwnedItem j) n = unowned_single n.slots n.jobs j
      fresh_owners (SharedItem j) n = unowned_shared n.slots n.jobs j
      fresh_owners (OwnedIn j) n = ap keeps_owned (get_or-replicate_default n.cells j cell.Free)
      fresh_owners (SharedIn j) n = ap keeps_shared (get_or-replicate_default n.cells j cell.Free)
      fresh_owners (OwnerGroup g) n = refl

  -- the use of one item changes, and its owners don't
  use_changed : (i : ℕ) (s : Status) (hand : List Hold) (w w' : State T) → Uses w w' i s → w'.values ≡ w.values → single_owner s ≡ single_owner (status_at w i) → shared_owners s ≡ shared_owners (status_at w i) → Counted holds hand w → Counted holds hand w'
  use_changed i s hand w w' u v a b h = record {
    each = λ k.
        let x = ap (sum_by (λ v. tally k (held_in holds v))) v in
        let y = ap (sum_by (λ c. tally k (kept_by c))) u.cells in
        let r = ap (λ (gs : List GroupState). tally k (rows_held gs)) u.groups in
        omega (arith, x, y, r, h.each k, uses_same k w w' i s u a b);
  }

  out_raw : (i : ℕ) (hand : List Hold) (w : State T) → Counted holds (OwnedItem i ∷ hand) w → Counted holds hand (with_status i status.Raw w)
  out_raw i hand w h =
      let o = names_owned i hand w h in
      drop_owned i status.Raw hand w (with_status i status.Raw w) (record { states = refl; cells = refl; groups = refl; inside = o.inside }) refl (sym (ap single_owner o.is)) (sym (ap shared_owners o.is)) h

  back_raw : (i : ℕ) (hand : List Hold) (w : State T) → status_at w i ≡ status.Raw → Counted holds hand w → Counted holds (OwnedItem i ∷ hand) (with_status i status.Owned w)
  back_raw i hand w is h = record {
    each = λ k.
        let u : Uses w (with_status i status.Owned w) i status.Owned = record { states = refl; cells = refl; groups = refl; inside = inside_by w.states i status.Raw (sym is) (λ f. cc) } in
        omega (arith, h.each k, tally-cons k (OwnedItem i) hand, uses_single_more k w (with_status i status.Owned w) i status.Owned u (omega (arith, ap single_owner is)) (sym (ap shared_owners is)));
  }

  -- the last place of a private bag names another one
  counted_followed_as : (s : Status) (j i : ℕ) (hand : List Hold) (w : State T) → s ≡ status_at w j → Counted holds hand w → Counted holds hand (followed_as s j i w)
  counted_followed_as status.Free j i hand w e h = h
  counted_followed_as status.Owned j i hand w e h = h
  counted_followed_as (status.Shared n) j i hand w e h = h
  counted_followed_as status.Raw j i hand w e h = h
  counted_followed_as (status.Collected n b) j i hand w e h =
      let s = status.Collected n i in
      use_changed j s hand w (with_status j s w) (record { states = refl; cells = refl; groups = refl; inside = inside_by w.states j (status.Collected n b) e (λ f. cc) }) refl (ap single_owner e) (ap shared_owners e) h
  counted_followed_as status.Retired j i hand w e h = h
  counted_followed_as status.Idle j i hand w e h = h
  counted_followed_as status.Deferred j i hand w e h = h

  counted_followed : (is : List ℕ) (i : ℕ) (hand : List Hold) (w : State T) → Counted holds hand w → Counted holds hand (followed is i w)
  counted_followed [] i hand w h = h
  counted_followed (j ∷ []) i hand w h = counted_followed_as (status_at w j) j i hand w refl h
  counted_followed (j ∷ k ∷ is) i hand w h = counted_followed (k ∷ is) i hand w h

  collects_owned : (p n i : ℕ) (is : List ℕ) (hand : List Hold) (w : State T) → Counted holds (OwnedItem i ∷ hand) w → Counted holds hand (set_aside p n is i w)
  collects_owned p n i is hand w h =
      let o = names_owned i hand w h in
      let v : State T = followed is i w in
      let hv = counted_followed is i (OwnedItem i ∷ hand) w h in
      let ov = names_owned i hand v hv in
      let s = status.Collected w.count 0 in
      let put : Counted holds hand (with_status i s v) = drop_owned i s hand v (with_status i s v) (record { states = refl; cells = refl; groups = refl; inside = ov.inside }) refl (sym (ap single_owner ov.is)) (sym (ap shared_owners ov.is)) hv in
      let out : Counted holds hand (retired p i w) = drop_owned i status.Retired hand w (retired p i w) (record { states = refl; cells = refl; groups = refl; inside = o.inside }) refl (sym (ap single_owner o.is)) (sym (ap shared_owners o.is)) h in
      elim (ltb (length is) n) as (λ b. Counted holds hand (cond b (with_status i s v) (retired p i w))) [ true ↦ put | false ↦ out ]

  collects_shared : (p n i : ℕ) (is : List ℕ) (hand : List Hold) (w : State T) → status_at w i ≡ status.Shared 1 → Counted holds (SharedItem i ∷ hand) w → Counted holds hand (set_aside p n is i w)
  collects_shared p n i is hand w one h =
      let inside = inside_by w.states i (status.Shared 1) (sym one) (λ f. cc) in
      let v : State T = followed is i w in
      let hv = counted_followed is i (SharedItem i ∷ hand) w h in
      let still : status_at v i ≡ status.Shared 1 = unnamed_stays is i w i (ap mark_of one) ∙ one in
      let there = inside_by v.states i (status.Shared 1) (sym still) (λ f. cc) in
      let s = status.Collected w.count 0 in
      let put : Counted holds hand (with_status i s v) = drop_shared i s hand v (with_status i s v) (record { states = refl; cells = refl; groups = refl; inside = there }) refl (sym (ap shared_owners still)) (sym (ap single_owner still)) hv in
      let out : Counted holds hand (retired p i w) = drop_shared i status.Retired hand w (retired p i w) (record { states = refl; cells = refl; groups = refl; inside = inside }) refl (sym (ap shared_owners one)) (sym (ap single_owner one)) h in
      elim (ltb (length is) n) as (λ b. Counted holds hand (cond b (with_status i s v) (retired p i w))) [ true ↦ put | false ↦ out ]

  -- what was collected is taken: what it held is in hand
  counted_removed : (i n b : ℕ) (hand : List Hold) (w : State T) → status_at w i ≡ status.Collected n b → Counted holds hand w → Counted holds (held_in holds (value_at w i) ++ hand) (slot_freed i w)
  counted_removed i n b hand w is h = record {
    each = λ k.
        let inside = inside_by w.states i (status.Collected n b) (sym is) (λ f. cc) in
        let u : Uses w (slot_freed i w) i status.Free = record { states = refl; cells = refl; groups = refl; inside = inside } in
        omega (arith, h.each k, tally-append k (held_in holds (value_at w i)) hand, sum_without (λ v. tally k (held_in holds v)) refl w.values i, uses_same k w (slot_freed i w) i status.Free u (sym (ap single_owner is)) (sym (ap shared_owners is)));
  }

  purged_counted : (p n : ℕ) (is : List ℕ) (hand : List Hold) (w : State T) → Counted holds hand w → Counted holds hand (purged_within holds p n is w)
  purged_counted p zero is hand w h = h
  purged_counted p (suc n) [] hand w h = h
  purged_counted p (suc n) (i ∷ is) hand w h =
      let v : State T = noted_reclaimed holds p i w in
      let js = left_behind (behind_at w i) is in
      (elim (overdue w.count (status_at w i)) as (λ b. overdue w.count (status_at w i) ≡ b → Counted holds hand (cond b (purged_within holds p n js v) w)) [
        | true ↦ λ e. let m = overdue_noted w.count (status_at w i) e in purged_counted p n js hand v (counted_all p (held_in holds (value_at w i)) hand (slot_freed i w) (counted_removed i m.note m.behind hand w m.is h))
        | false ↦ λ e. h
      ]) refl

  counted_purged : (p : ℕ) (is : List ℕ) (hand : List Hold) (w : State T) → Counted holds hand w → Counted holds hand (purged holds p is w)
  counted_purged p is hand w h = purged_counted p (length is) is hand w h

  counted_handed_as : (s : Status) (p i : ℕ) (hand : List Hold) (w : State T) → s ≡ status_at w i → Counted holds hand w → Counted holds hand (handed_over_as s p i w)
  counted_handed_as status.Free p i hand w e h = h
  counted_handed_as status.Owned p i hand w e h = h
  counted_handed_as (status.Shared n) p i hand w e h = h
  counted_handed_as status.Raw p i hand w e h = h
  counted_handed_as (status.Collected n b) p i hand w e h = use_changed i status.Retired hand w (retired p i w) (record { states = refl; cells = refl; groups = refl; inside = inside_by w.states i (status.Collected n b) e (λ f. cc) }) refl (ap single_owner e) (ap shared_owners e) h
  counted_handed_as status.Retired p i hand w e h = h
  counted_handed_as status.Idle p i hand w e h = h
  counted_handed_as status.Deferred p i hand w e h = h

  handed_counted : (p n : ℕ) (is : List ℕ) (hand : List Hold) (w : State T) → Counted holds hand w → Counted holds hand (handed_within p n is w)
  handed_counted p zero is hand w h = h
  handed_counted p (suc n) [] hand w h = h
  handed_counted p (suc n) (i ∷ is) hand w h = handed_counted p n (left_behind (behind_at w i) is) hand (handed_over_as (status_at w i) p i w) (counted_handed_as (status_at w i) p i hand w refl h)

  counted_handed : (p : ℕ) (is : List ℕ) (hand : List Hold) (w : State T) → Counted holds hand w → Counted holds hand (handed_over p is w)
  counted_handed p is hand w h = handed_counted p (length is) is hand w h

  counted_deferred : (p i : ℕ) (hand : List Hold) (w : State T) → IsIdle w i → Counted holds hand w → Counted holds hand (waiting_as status.Deferred p i w)
  counted_deferred p i hand w idle h = use_changed i status.Deferred hand w (waiting_as status.Deferred p i w) (record { states = refl; cells = refl; groups = refl; inside = idle.0 }) refl (sym (ap single_owner idle.1)) (sym (ap shared_owners idle.1)) h

  made_group : (g : ℕ) (row : List ℕ) (hand : List Hold) (w : State T) → IsFreeName w.groups g → Counted holds (map SharedItem row ++ hand) w → Counted holds (OwnerGroup g ∷ hand) (with_groups (with_row g row w.groups) w)
  made_group g row hand w free h = record {
    each = λ k.
        let more = owned_more k g (record { count = 1; row = row }) w free.0 (omega (arith, free.1)) in
        omega (arith, h.each k, more, rows_made w.groups g k row free, tally-append k (map SharedItem row) hand, tally-cons k (OwnerGroup g) hand);
  }

  raised_group : (g : ℕ) (hand : List Hold) (w : State T) → IsOut w.groups g → Counted holds hand w → Counted holds (OwnerGroup g ∷ hand) (with_groups (more_owned g w.groups) w)
  raised_group g hand w out h = record {
    each = λ k.
        let more = owned_more k g (record { count = count_at w.groups g + 1; row = row_at w.groups g }) w (out_inside w.groups g out) refl in
        omega (arith, h.each k, more, rows_raised w.groups g k out, tally-cons k (OwnerGroup g) hand);
  }

  grown_groups : (hand : List Hold) (w : State T) → Counted holds hand w → Counted holds hand (with_groups (w.groups ++ no_group ∷ []) w)
  grown_groups hand w h = record { each = λ k. omega (arith, h.each k, owned_grown k w, rows_grown w.groups k) }

  group_held : (g j : ℕ) (v : T) (hand : List Hold) (w : State T) → value_at w j ≡ Some v → 1 ≤ tally (OwnerGroup g) (holds v) → Counted holds hand w → IsOut w.groups g
  group_held g j v hand w was some h =
      let m = at_most (λ o. tally (OwnerGroup g) (held_in holds o)) w.values j None refl in
      let is = ap (λ (o : Option T). tally (OwnerGroup g) (held_in holds o)) was in
      let e = h.each (OwnerGroup g) in
      omega (arith, m, is, e, some)

  in_row_there : (i g : ℕ) (hand : List Hold) (w : State T) → IsOut w.groups g → 1 ≤ times i (row_at w.groups g) → Counted holds hand w → IsShared w i
  in_row_there i g hand w out some h =
      let e = h.each (SharedItem i) in
      shared_there w i (status_at w i) refl (omega (arith, row_counted w.groups g i out, e, some))

  pub owners_are_counted : OwnersAreCounted holds
  owners_are_counted = record {
    shared = names_shared;
    owned = names_owned;
    kept = kept_there;
    held = held_there;
    cell_in_hand = λ c hand w h. shared_cell_there w c (cell_at w c) refl (has_shared_cell c hand w h);
    cell_in_item = cell_there;
    group_in_hand = group_out;
    group_in_item = group_held;
    in_row = in_row_there;
    groups_grown = grown_groups;
    group_made = made_group;
    group_raised = raised_group;
    placed_shared = counted_placed_shared;
    placed_owned = counted_placed_owned;
    cloned = counted_cloned;
    given = counted_given;
    dropped = counted_dropped;
    written = counted_written;
    opened = counted_opened;
    closed = counted_closed;
    cell_made = cell_made_shared;
    owned_cell_made = cell_made_owned;
    cell_swapped = λ c o o' t t' hand w inside is h. cell_changed c (cell.OfShared o t) (cell.OfShared o' t') hand w inside is refl refl h;
    owned_cell_swapped = λ c o o' t t' hand w inside is h. cell_changed c (cell.OfOwned o t) (cell.OfOwned o' t') hand w inside is refl refl h;
    cell_ended = end_shared;
    owned_cell_ended = end_owned;
    fresh = counted_fresh;
    raw_out = out_raw;
    raw_back = back_raw;
    raw_cell_made = λ c o t hand w free h. cell_changed c cell.Free (cell.OfRaw o t) hand w free.0 free.1 refl refl h;
    raw_cell_changed = λ c o o' t t' hand w inside is h. cell_changed c (cell.OfRaw o t) (cell.OfRaw o' t') hand w inside is refl refl h;
    raw_cell_ended = λ c o t hand w inside is h. cell_changed c (cell.OfRaw o t) cell.Free hand w inside is refl refl h;
    collected_owned = collects_owned;
    collected_shared = collects_shared;
    purged = counted_purged;
    handed = counted_handed;
    deferred = counted_deferred;
  }
