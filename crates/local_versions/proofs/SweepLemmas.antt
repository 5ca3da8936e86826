-- what sweeps leave of versions
use Rattle.std.proofs.Common.{◌≡◌, ℕ, zero, suc, ◌≤◌, ◌&&◌, Bool, true, false, cond, is_some, sum_by, Option, None, Some, List, [], ◌∷◌, ◌++◌, length, map, reverse, refl, sym, ap, ◌∙◌, arith, subst, not, inl, inr, get_or, set, length-set}
use Rattle.std.proofs.lemmas.Bool.{cases_lt, false≢true}
use Rattle.std.proofs.lemmas.List.Sums.{sum_by-cons}
use Rattle.sdd_world.specs.Place.{IsPlace}
use Rattle.sdd_world.specs.declared.status.Status.{Status}
use Rattle.sdd_world.specs.declared.status.Status.TheVariants as status
use Rattle.std.proofs.lemmas.List.{get_or_past, reverse-append, set_past}
use Rattle.sdd_world.specs.Groups.{less_owned, row_ended}
use Rattle.sdd_world.specs.Holding.{Hold, OwnerGroup}
use Rattle.sdd_world.specs.State.{IsUnused, ParticipantState, State, in_use, is_used, usage, with_groups, with_local_state, local_at, participant_at, nobody, rotated_bags, status_at, taken, bags_moved_on, value_at}
use Rattle.sdd_world.specs.Steps.{AllSwept, bags_empty, due_reclaimed, due_reclaimed_as, given, given_all, held_in, reclaimed, released, released_each, participant_rotated, rotated_each, settled}
use Rattle.sdd_world.specs.declared.status.Cell.{Cell}
use Rattle.sdd_world.specs.declared.status.Cell.TheVariants as cell
use Rattle.sdd_world.proofs.CellLemmas.{cells_released_as}
use Rattle.sdd_world.proofs.CountLemmas.{counted_rotated}
use Rattle.sdd_world.proofs.PassLemmas.{shrinks_rotated}
use Rattle.sdd_world.proofs.PlaceLemmas.{rotates}
use Rattle.version_views.specs.Items.{held_by, names_of}
use Rattle.local_versions.specs.Reclaiming.{IsRootless, SweepsLeaveNone}
use Rattle.version_views.specs.declared.item.Item.{Item}
use Rattle.version_views.specs.declared.item.Item.TheVariants as items
use Rattle.local_versions.proofs.ReclaimLemmas.{flat_after}
use Rattle.local_versions.proofs.NoGarbageLemmas.{free_cells, none_left, none_out}

module _ {K V : Type 0} {s : ℕ} where
  given_append : (p : ℕ) (hs ks : List Hold) (w : State (Item K V s)) → given_all p (hs ++ ks) w ≡ given_all p ks (given_all p hs w)
  given_append p [] ks w = refl
  given_append p (h ∷ hs) ks w = given_append p hs ks (given p h w)

  -- a directory gives up owners of groups, and so leaves the cells
  cells_each : (p : ℕ) (xs : List ℕ) (w : State (Item K V s)) → (released_each p xs w).cells ≡ w.cells
  cells_each p [] w = refl
  cells_each p (x ∷ xs) w = cells_each p xs (released p x w) ∙ cells_released_as (status_at w x) p x w

  cells_given : (p : ℕ) (xs : List ℕ) (w : State (Item K V s)) → (given_all p (reverse (map OwnerGroup xs)) w).cells ≡ w.cells
  cells_given p [] w = refl
  cells_given p (x ∷ xs) w =
      let v : State (Item K V s) = given_all p (reverse (map OwnerGroup xs)) w in
      ap (λ (hs : List Hold). (given_all p hs w).cells) (reverse-append (OwnerGroup x ∷ []) (map OwnerGroup xs))
      ∙ ap (λ (u : State (Item K V s)). u.cells) (given_append p (reverse (map OwnerGroup xs)) (OwnerGroup x ∷ []) w)
      ∙ cells_each p (reverse (row_ended x v.groups)) (with_groups (less_owned x v.groups) v)
      ∙ cells_given p xs w

  cells_held : (p : ℕ) (o : Option (Item K V s)) (w : State (Item K V s)) → (given_all p (held_in held_by o) w).cells ≡ w.cells
  cells_held p None w = refl
  cells_held p (Some (items.Directory d)) w = cells_given p (names_of d.rows.items) w
  cells_held p (Some (items.Segment t)) w = refl

  cells_due : (p : ℕ) (due : List ℕ) (w : State (Item K V s)) → (due_reclaimed_as held_by p due w).cells ≡ w.cells
  cells_due p [] w = refl
  cells_due p (i ∷ is) w = cells_held p (value_at w i) (taken p i is w)

  cells_reclaimed : (p n : ℕ) (w : State (Item K V s)) → (reclaimed held_by p n w).cells ≡ w.cells
  cells_reclaimed p zero w = refl
  cells_reclaimed p (suc n) w = cells_reclaimed p n (due_reclaimed held_by p w) ∙ cells_due p (participant_at w p).due w

  cells_rotated : (p : ℕ) (w : State (Item K V s)) → (participant_rotated held_by p w).cells ≡ w.cells
  cells_rotated p w = cells_reclaimed p (length (participant_at w p).oldest) (rotated_bags p w)

  -- a number that names no participant rotates nothing
  rotated_past : (p : ℕ) (w : State (Item K V s)) → length w.participants ≤ p → participant_rotated held_by p w ≡ w
  rotated_past p w past =
      let m = participant_at w p in
      let u : State (Item K V s) = rotated_bags p w in
      let none : length m.oldest ≡ 0 = ap (λ (x : ParticipantState). length x.oldest) (get_or_past w.participants p nobody past) in
      let size = length-set w.participants p (bags_moved_on m) in
      let flag = record (local_at u p) { garbage = (local_at u p).garbage && not (bags_empty (participant_at u p)) } in
      let same : set u.participants p (with_local_state flag (participant_at u p)) ≡ w.participants = set_past u.participants p (with_local_state flag (participant_at u p)) (omega (arith, size, past)) ∙ set_past w.participants p (bags_moved_on m) past in
      ap (λ (n : ℕ). settled p (reclaimed held_by p n u)) none ∙ ap (λ (ms : List ParticipantState). record w { participants = ms }) same

  rootless_rotated : (p : ℕ) (w : State (Item K V s)) → IsRootless w → IsRootless (participant_rotated held_by p w)
  rootless_rotated p w r = elim (cases_lt p (length w.participants)) [
    | inl known ↦
        let shrinks = shrinks_rotated held_by w p r.place known in
        let counted = counted_rotated held_by p [] w r.place known r.counted in
        record {
          place = (rotates held_by w p r.place known).place;
          counted = counted;
          plain = λ j. shrinks.plain j (r.plain j);
          flat = flat_after w (participant_rotated held_by p w) shrinks.values shrinks.groups [] counted r.flat;
          cells = λ c. ap (λ (cs : List Cell). get_or cs c cell.Free) (cells_rotated p w) ∙ r.cells c;
        }
    | inr past ↦ subst (λ (x : State (Item K V s)). IsRootless x) (sym (rotated_past p w past)) r
  ]

  rootless_each : (ps : List ℕ) (w : State (Item K V s)) → IsRootless w → IsRootless (rotated_each held_by ps w)
  rootless_each [] w r = r
  rootless_each (p ∷ ps) w r = rootless_each ps (participant_rotated held_by p w) (rootless_rotated p w r)

  -- where no slot is in use, none has a value
  unvalued : (w : State (Item K V s)) → IsPlace w → in_use w ≡ 0 → (j : ℕ) → value_at w j ≡ None
  unvalued w place none j = empty (value_at w j) (place.sound.filled j ∙ unused w.states j none)
    where
      empty : (o : Option (Item K V s)) → is_some o ≡ false → o ≡ None
      empty None e = refl
      empty (Some v) e = absurd (false≢true (sym e))

      unused : (ss : List Status) (k : ℕ) → sum_by usage ss ≡ 0 → is_used (get_or ss k status.Free) ≡ false
      unused [] k e = refl
      unused (x ∷ ss) zero e = not_used (is_used x) (omega (arith, e, sum_by-cons usage x ss))
        where
          bit : Bool → ℕ
          bit b = cond b 1 0

          not_used : (b : Bool) → bit b ≡ 0 → b ≡ false
          not_used true h = absurd (omega (arith, h))
          not_used false h = refl
      unused (x ∷ ss) (suc k) e = unused ss k (omega (arith, e, sum_by-cons usage x ss))

  leaves_none : (w w' : State (Item K V s)) → IsRootless w → AllSwept held_by w w' → IsUnused w'
  leaves_none w w' r swept =
      let end : IsRootless w' = subst (λ (x : State (Item K V s)). IsRootless x) (sym swept.now) (rootless_each swept.turns w r) in
      let none = none_left w' [] end.place end.counted (λ j. refl) (λ g. refl) end.plain end.flat swept.empty end.cells in
      (none, free_cells w'.cells end.cells, none_out w' [] end.counted (λ g. refl) (unvalued w' end.place none))

  pub sweeps_leave_none : SweepsLeaveNone K V s
  sweeps_leave_none = record { none = leaves_none }
