-- what an opening leaves of a cell whose owner is in hand
use Rattle.std.proofs.Common.{◌≡◌, ◌≢◌, ℕ, zero, suc, ◌+◌, ◌-◌, ◌<◌, ◌≤◌, ◌==◌, true, false, Option, None, Some, List, [], ◌∷◌, ◌++◌, length, get_or, refl, sym, ap, ◌∙◌, arith, length-set, subst, cond, reverse, get_or-set_other, get_or-set_same, leb}
use Rattle.std.proofs.lemmas.List.{length-reverse}
use Rattle.sdd_table.specs.Groups.{less_owned, row_ended}
use Rattle.sdd_table.specs.Holding.{Hold, OwnedItem, SharedItem, OwnedIn, SharedIn, OwnerGroup}
use Rattle.sdd_table.specs.State.{State, ParticipantState, status_at, value_at, cell_at, participant_at, local_at, with_status, with_cell, with_groups, with_local, retired, taken, rotated_bags, bags_moved_on, nobody, with_local_state, left_due, weight}
use Rattle.sdd_table.specs.Steps.{hit, times, held_in, given, given_all, released, released_each, released_as, disowned_as, owned_ended_as, shared_ended_as, due_reclaimed, due_reclaimed_as, reclaimed, participant_rotated, count_published, guard_opened}
use Rattle.sdd_table.specs.Place.{Sound, IsPlace}
use Rattle.sdd_world.specs.Counting.{tally, same_hold, keeps_shared, Counted, HeldCellsStay}
use Rattle.sdd_table.specs.declared.status.Status.{Status}
use Rattle.sdd_table.specs.declared.status.Status.TheVariants as status
use Rattle.sdd_table.specs.declared.status.Cell.{Cell}
use Rattle.sdd_table.specs.declared.status.Cell.TheVariants as cell
use Rattle.sdd_table.proofs.ListLemmas.{hit-same}
use Rattle.sdd_table.proofs.SlotLemmas.{at_most}
use Rattle.sdd_table.proofs.BagInvariantLemmas.{due_waiting, reclaims_next, sound_turned, sound_taken, gives_given, times_reversed, bag_waits}
use Rattle.sdd_world.proofs.FrameLemmas.{live_light}
use Rattle.std.proofs.lemmas.List.Sums.{sum_by-cons}
use Rattle.sdd_table.proofs.PlaceLemmas.{place_begun}
use Rattle.sdd_world.proofs.CountLemmas.{tally-cons, tally-append, counted_given, counted_taken, counted_same}

keeps-one : (k : Cell) → keeps_shared k ≤ 1
keeps-one cell.Free = omega arith
keeps-one (cell.OfOwned o t) = omega arith
keeps-one (cell.OfShared o t) = omega arith
keeps-one (cell.OfRaw o t) = omega arith

module _ {T : Type 0} where
  pub cells_released_as : (s : Status) (p i : ℕ) (w : State T) → (released_as s p i w).cells ≡ w.cells
  cells_released_as status.Free p i w = refl
  cells_released_as status.Owned p i w = refl
  cells_released_as (status.Shared n) p i w = elim (leb n 1) as (λ b. (cond b (retired p i w) (with_status i (status.Shared (n - 1)) w)).cells ≡ w.cells) [ true ↦ refl | false ↦ refl ]
  cells_released_as status.Raw p i w = refl
  cells_released_as (status.Collected n b) p i w = refl
  cells_released_as status.Retired p i w = refl
  cells_released_as status.Idle p i w = refl
  cells_released_as status.Deferred p i w = refl

  cells_released_each : (is : List ℕ) (p : ℕ) (w : State T) → (released_each p is w).cells ≡ w.cells
  cells_released_each [] p w = refl
  cells_released_each (i ∷ is) p w = cells_released_each is p (released p i w) ∙ cells_released_as (status_at w i) p i w

  cells_disowned_as : (s : Status) (p i : ℕ) (w : State T) → (disowned_as s p i w).cells ≡ w.cells
  cells_disowned_as status.Free p i w = refl
  cells_disowned_as status.Owned p i w = refl
  cells_disowned_as (status.Shared n) p i w = refl
  cells_disowned_as status.Raw p i w = refl
  cells_disowned_as (status.Collected n b) p i w = refl
  cells_disowned_as status.Retired p i w = refl
  cells_disowned_as status.Idle p i w = refl
  cells_disowned_as status.Deferred p i w = refl

  other_cell : (c d : ℕ) (w : State T) → c ≢ d → cell_at (with_cell d cell.Free w) c ≡ cell_at w c
  other_cell c d w far = get_or-set_other w.cells d c cell.Free cell.Free far

  cell_owned_ended_as : (c d p : ℕ) (k : Cell) (w : State T) → k ≡ cell_at w d → 1 ≤ keeps_shared (cell_at w c) → cell_at (owned_ended_as k p d w) c ≡ cell_at w c
  cell_owned_ended_as c d p cell.Free w e kept = refl
  cell_owned_ended_as c d p (cell.OfOwned None t) w e kept =
      other_cell c d w (λ q. let P : ℕ → Type 0 = λ j. 1 ≤ keeps_shared (cell_at w j) in let here : P d = subst P q kept in absurd (omega (arith, here, ap keeps_shared e)))
  cell_owned_ended_as c d p (cell.OfOwned (Some i) t) w e kept =
      let far : c ≢ d = λ q. let P : ℕ → Type 0 = λ j. 1 ≤ keeps_shared (cell_at w j) in let here : P d = subst P q kept in absurd (omega (arith, here, ap keeps_shared e)) in
      let u : State T = with_cell d cell.Free w in
      ap (λ (cs : List Cell). get_or cs c cell.Free) (cells_disowned_as (status_at u i) p i u) ∙ other_cell c d w far
  cell_owned_ended_as c d p (cell.OfShared o t) w e kept = refl
  cell_owned_ended_as c d p (cell.OfRaw o t) w e kept = refl

  cell_shared_ended_as : (c d p : ℕ) (k : Cell) (w : State T) → c ≢ d → cell_at (shared_ended_as k p d w) c ≡ cell_at w c
  cell_shared_ended_as c d p cell.Free w far = refl
  cell_shared_ended_as c d p (cell.OfOwned o t) w far = refl
  cell_shared_ended_as c d p (cell.OfShared None t) w far = other_cell c d w far
  cell_shared_ended_as c d p (cell.OfShared (Some i) t) w far =
      let u : State T = with_cell d cell.Free w in
      ap (λ (cs : List Cell). get_or cs c cell.Free) (cells_released_as (status_at u i) p i u) ∙ other_cell c d w far
  cell_shared_ended_as c d p (cell.OfRaw o t) w far = refl

-- the owner of cell c is in hand, or in the item in slot i
module _ {T : Type 0} (holds : T → List Hold) (c i : ℕ) where
  abbrev pub Elsewhere : List Hold → State T → Type 0
  Elsewhere hand w = 1 ≤ tally (SharedIn c) hand + tally (SharedIn c) (held_in holds (value_at w i))

  -- then it is used, and what is given back isn't its owner
  record Apart (h : Hold) (w : State T) : Type 0 where
    kept : 1 ≤ keeps_shared (cell_at w c)
    other : same_hold (SharedIn c) h ≡ 0

  apart : (h : Hold) (hand : List Hold) (w : State T) → Counted holds (h ∷ hand) w → Elsewhere hand w → Apart h w
  apart h hand w k some =
      let e = k.each (SharedIn c) in
      let t = tally-cons holds (SharedIn c) h hand in
      let v = at_most (λ (o : Option T). tally (SharedIn c) (held_in holds o)) w.values i None refl in
      record { kept = omega (arith, e, t, v, some); other = omega (arith, e, t, v, some, keeps-one (cell_at w c)) }

  cell_given : (p : ℕ) (h : Hold) (w : State T) → Apart h w → cell_at (given p h w) c ≡ cell_at w c
  cell_given p (OwnedItem j) w a = ap (λ (cs : List Cell). get_or cs c cell.Free) (cells_disowned_as (status_at w j) p j w)
  cell_given p (SharedItem j) w a = ap (λ (cs : List Cell). get_or cs c cell.Free) (cells_released_as (status_at w j) p j w)
  cell_given p (OwnedIn d) w a = cell_owned_ended_as c d p (cell_at w d) w refl a.kept
  cell_given p (SharedIn d) w a =
      let far : c ≢ d = λ q. let P : ℕ → Type 0 = λ j. hit j c ≡ 0 in let z : P d = a.other in let y : P c = subst P (sym q) z in absurd (omega (arith, hit-same c, y)) in
      cell_shared_ended_as c d p (cell_at w d) w far
  cell_given p (OwnerGroup g) w a = ap (λ (cs : List Cell). get_or cs c cell.Free) (cells_released_each (reverse (row_ended g w.groups)) p (with_groups (less_owned g w.groups) w))

  -- the owners are counted, cell c is as it was, and so is the item in slot i
  record Leaves (hand : List Hold) (w w' : State T) : Type 0 where
    counted : Counted holds hand w'
    same : cell_at w' c ≡ cell_at w c
    value : value_at w' i ≡ value_at w i

  elsewhere : (hand : List Hold) (w w' : State T) → value_at w' i ≡ value_at w i → Elsewhere hand w → Elsewhere hand w'
  elsewhere hand w w' e some = omega (arith, some, ap (λ (o : Option T). tally (SharedIn c) (held_in holds o)) e)

  leaves_all : (p : ℕ) (hs hand : List Hold) (w : State T) → Sound w → p < length w.participants → Elsewhere hand w → Counted holds (hs ++ hand) w → Leaves hand w (given_all p hs w)
  leaves_all p [] hand w sound known some h = record { counted = h; same = refl; value = refl }
  leaves_all p (x ∷ hs) hand w sound known some h =
      let v : State T = given p x w in
      let g = gives_given w p x sound known in
      let value : value_at v i ≡ value_at w i = ap (λ (vs : List (Option T)). get_or vs i None) g.values in
      let more : Elsewhere (hs ++ hand) w = omega (arith, some, tally-append holds (SharedIn c) hs hand) in
      let rest = leaves_all p hs hand v g.sound (omega (arith, g.known, known)) (elsewhere hand w v value some) (counted_given holds p x (hs ++ hand) w h) in
      record { counted = rest.counted; same = rest.same ∙ cell_given p x w (apart x (hs ++ hand) w h more); value = rest.value ∙ value }

  leaves_next : (p j : ℕ) (is : List ℕ) (hand : List Hold) (w : State T) → Sound w → p < length w.participants → (participant_at w p).due ≡ j ∷ is → i ≢ j → Elsewhere hand w → Counted holds hand w → Leaves hand w (due_reclaimed holds p w)
  leaves_next p j is hand w sound known was far some h =
      let d = due_waiting w p j is sound known was in
      let u : State T = taken p j is w in
      let value : value_at u i ≡ value_at w i = get_or-set_other w.values j i None None far in
      let more : Elsewhere hand u = elsewhere hand w u value some in
      let size : length u.participants ≡ length w.participants = length-set w.participants p (left_due is (participant_at w p)) in
      let x = leaves_all p (held_in holds (value_at w j)) hand u (sound_taken w p j is sound known d.0 d.1 was) (omega (arith, known, size)) more (counted_taken holds p j is hand w sound d.0 d.1 h) in
      let whole : Leaves hand w (due_reclaimed_as holds p (j ∷ is) w) = record { counted = x.counted; same = x.same; value = x.value ∙ value } in
      subst (λ (xs : List ℕ). Leaves hand w (due_reclaimed_as holds p xs w)) (sym was) whole

  leaves_reclaimed : (p n : ℕ) (hand : List Hold) (w : State T) (due : List ℕ) → due ≡ (participant_at w p).due → length due ≡ n → Sound w → p < length w.participants → times i due ≡ 0 → Elsewhere hand w → Counted holds hand w → Leaves hand w (reclaimed holds p n w)
  leaves_reclaimed p zero hand w due e size sound known out some h = record { counted = h; same = refl; value = refl }
  leaves_reclaimed p (suc n) hand w [] e size sound known out some h = absurd (omega arith)
  leaves_reclaimed p (suc n) hand w (j ∷ is) e size sound known out some h =
      let r = reclaims_next holds w p j is sound known (sym e) in
      let v : State T = due_reclaimed holds p w in
      let split : times i (j ∷ is) ≡ hit j i + times i is = sum_by-cons (λ k. hit k i) j is in
      let far : i ≢ j = λ q. let P : ℕ → Type 0 = λ k. hit j k ≡ 0 in let z : P i = omega (arith, out, split) in let y : P j = subst P q z in absurd (omega (arith, hit-same j, y)) in
      let first = leaves_next p j is hand w sound known (sym e) far some h in
      let rest = leaves_reclaimed p n hand v is (sym r.due) (omega (arith, size)) r.sound (omega (arith, r.known, known)) (omega (arith, out, split)) (elsewhere hand w v first.value some) first.counted in
      record { counted = rest.counted; same = rest.same ∙ first.same; value = rest.value ∙ first.value }

  cell_rotated : (p : ℕ) (hand : List Hold) (w : State T) → IsPlace w → p < length w.participants → weight (status_at w i) ≡ 0 → Elsewhere hand w → Counted holds hand w → cell_at (participant_rotated holds p w) c ≡ cell_at w c
  cell_rotated p hand w place known light some h =
      let m = participant_at w p in
      let u : State T = rotated_bags p w in
      let at : participant_at u p ≡ bags_moved_on m = get_or-set_same w.participants p (bags_moved_on m) nobody known in
      let due : (participant_at u p).due ≡ reverse m.oldest = ap (λ (m : ParticipantState). m.due) at in
      let out : times i (participant_at u p).due ≡ 0 = omega (arith, ap (times i) due, times_reversed i m.oldest, bag_waits w p i place.sound known, light) in
      let x = leaves_reclaimed p (length m.oldest) hand u (participant_at u p).due refl (ap length due ∙ length-reverse m.oldest) (sound_turned w p place.sound known (place.idle p)) (omega (arith, known, length-set w.participants p (bags_moved_on m))) out some (counted_same holds hand w u refl refl refl refl h) in
      x.same

  pub cell_opened : (p : ℕ) (hand : List Hold) (w : State T) → IsPlace w → p < length w.participants → weight (status_at w i) ≡ 0 → Elsewhere hand w → Counted holds hand w → cell_at (guard_opened holds p w) c ≡ cell_at w c
  cell_opened p hand w place known light some h =
      let m = local_at w p in
      let b : State T = count_published p w in
      let n : State T = with_local p (record m { nesting = m.nesting + 1 }) w in
      let kb : p < length b.participants = omega (arith, known, length-set w.participants p (with_local_state (record m { nesting = 1; published = w.count; previous = w.count; accelerated = false }) (participant_at w p))) in
      let turns : cell_at (participant_rotated holds p b) c ≡ cell_at w c = cell_rotated p hand b (place_begun w p place known) kb light some (counted_same holds hand w b refl refl refl refl h) in
      let outer : cell_at (cond (m.previous == w.count) b (participant_rotated holds p b)) c ≡ cell_at w c = elim (m.previous == w.count) as (λ k. cell_at (cond k b (participant_rotated holds p b)) c ≡ cell_at w c) [ true ↦ refl | false ↦ turns ] in
      elim (m.nesting == 0) as (λ k. cell_at (cond k (cond (m.previous == w.count) b (participant_rotated holds p b)) n) c ≡ cell_at w c) [ true ↦ outer | false ↦ refl ]

-- past the last slot nothing waits
beyond : (ss : List Status) → weight (get_or ss (length ss) status.Free) ≡ 0
beyond [] = refl
beyond (s ∷ ss) = beyond ss

pub held_cells_stay : {T : Type 0} (holds : T → List Hold) → HeldCellsStay holds
held_cells_stay holds = record {
  hand = λ c p hand w place known some h. cell_opened holds c (length w.states) p hand w place known (beyond w.states) (omega (arith, some)) h;
  item = λ c i p hand w place known live some h. cell_opened holds c i p hand w place known (live_light (status_at w i) live) (omega (arith, some)) h;
}
