-- the notes of collectors, over every call
use Rattle.std.proofs.Common.{◌≡◌, ◌≢◌, ℕ, zero, suc, ◌+◌, ◌-◌, ◌<◌, ◌≤◌, ◌==◌, ◌&&◌, true, false, Option, None, Some, List, [], ◌∷◌, ◌++◌, length, get_or, set, refl, sym, ap, ◌∙◌, arith, length-set, subst, reverse, cond, get_or-set_other, get_or-set_same, leb, ltb, inl, inr, is_some, replicate}
use Rattle.std.specs.List.{sum_by, list_all}
use Rattle.std.proofs.lemmas.Bool.Decides.{nat_tests, eqb_tells}
use Rattle.std.proofs.lemmas.List.{length-append, length-reverse}
use Rattle.std.proofs.lemmas.List.Sums.{sum_by-set, sum_by-cons, sum_by-append}
use Rattle.sdd_table.specs.Groups.{less_owned, row_ended}
use Rattle.sdd_table.specs.Holding.{Hold, OwnedItem, SharedItem, OwnedIn, SharedIn, OwnerGroup}
use Rattle.sdd_table.specs.State.{State, ParticipantState, mark_of, named_by, behind_at, placed, status_at, value_at, cell_at, participant_at, local_at, with_status, with_cell, with_groups, with_local, waiting_as, retired, taken, vacated, weight, rotated_bags, bags_moved_on, raised, is_present, nobody, with_local_state, slot_freed, changing, recalled}
use Rattle.sdd_table.specs.Steps.{times, hit, given, given_all, released, released_each, released_as, disowned_as, owned_ended_as, shared_ended_as, due_reclaimed, due_reclaimed_as, held_in, reclaimed, participant_rotated, count_published, guard_opened, guard_closed, scanned, scans, closings_after, overdue, noted_reclaimed, left_behind, followed, followed_as, set_aside, enqueued, purged, purged_within, left_waiting, left_within, handed_over, handed_over_as, handed_within, IsTimely}
use Rattle.sdd_table.specs.Place.{Sound, IsPlace}
use Rattle.sdd_table.proofs.PrivateBagLemmas.{told_set, names, named_apart}
use Rattle.sdd_world.specs.Notes.{IsLinked, note_of, note_at, note_count, AreCollected, NotesRise, SameNotes, IsInOrder, NoneOverdue, CollectorsAreInOrder}
use Rattle.sdd_table.specs.declared.status.Status.{Status}
use Rattle.sdd_table.specs.declared.status.Status.TheVariants as status
use Rattle.sdd_table.specs.declared.status.LocalState.{LocalState}
use Rattle.sdd_table.specs.declared.status.Cell.{Cell}
use Rattle.sdd_table.specs.declared.status.Cell.TheVariants as cell
use Rattle.sdd_table.proofs.ListLemmas.{hit-same, hit-other, times-append}
use Rattle.sdd_table.proofs.SlotLemmas.{light_sum}
use Rattle.sdd_table.specs.Dropping.{Dropped, undone, undone_times}
use Rattle.sdd_table.proofs.DropLemmas.{calls_recalled}
use Rattle.sdd_table.proofs.BagInvariantLemmas.{gives_given, inside_by, due_waiting, reclaims_next, sound_turned}
use Rattle.sdd_table.proofs.PlaceLemmas.{place_begun}

abbrev note_from : Option (ℕ × ℕ) → Option ℕ
note_from None = None
note_from (Some m) = Some m.0

note_mark : (s : Status) → note_of s ≡ note_from (mark_of s)
note_mark status.Free = refl
note_mark status.Owned = refl
note_mark (status.Shared n) = refl
note_mark status.Raw = refl
note_mark (status.Collected n b) = refl
note_mark status.Retired = refl
note_mark status.Idle = refl
note_mark status.Deferred = refl

-- what has no note names nothing
no_mark : (s : Status) → note_of s ≡ None → mark_of s ≡ None
no_mark status.Free h = refl
no_mark status.Owned h = refl
no_mark (status.Shared n) h = refl
no_mark status.Raw h = refl
no_mark (status.Collected n b) h = absurd cc
no_mark status.Retired h = refl
no_mark status.Idle h = refl
no_mark status.Deferred h = refl

-- what has a note is of a private bag
noted_is : (s : Status) → 1 ≤ note_count s → (n : ℕ) × (b : ℕ) × (s ≡ status.Collected n b)
noted_is status.Free h = absurd (omega (arith, h))
noted_is status.Owned h = absurd (omega (arith, h))
noted_is (status.Shared n) h = absurd (omega (arith, h))
noted_is status.Raw h = absurd (omega (arith, h))
noted_is (status.Collected n b) h = (n, b, refl)
noted_is status.Retired h = absurd (omega (arith, h))
noted_is status.Idle h = absurd (omega (arith, h))
noted_is status.Deferred h = absurd (omega (arith, h))

-- a note comes
noted_up : (ss : List Status) (i j : ℕ) (s : Status) → i < length ss → note_count (get_or ss i status.Free) ≡ 0 → note_count s ≡ 1 → note_count (get_or (set ss i s) j status.Free) ≡ note_count (get_or ss j status.Free) + hit i j
noted_up ss i j s inside light heavy =
    elim (eqb_tells j i) [
      | inl t ↦
          let P : ℕ → Type 0 = λ k. note_count (get_or (set ss i s) k status.Free) ≡ note_count (get_or ss k status.Free) + hit i k in
          let here : P i = omega (arith, ap note_count (get_or-set_same ss i s status.Free inside), hit-same i, light, heavy) in
          subst P (sym t.1) here
      | inr t ↦ omega (arith, ap note_count (get_or-set_other ss i j s status.Free t.1), hit-other i j t.1)
    ]

-- a note goes
noted_down : (ss : List Status) (i j : ℕ) (s : Status) → i < length ss → note_count (get_or ss i status.Free) ≡ 1 → note_count s ≡ 0 → note_count (get_or (set ss i s) j status.Free) + hit i j ≡ note_count (get_or ss j status.Free)
noted_down ss i j s inside heavy light =
    elim (eqb_tells j i) [
      | inl t ↦
          let P : ℕ → Type 0 = λ k. note_count (get_or (set ss i s) k status.Free) + hit i k ≡ note_count (get_or ss k status.Free) in
          let here : P i = omega (arith, ap note_count (get_or-set_same ss i s status.Free inside), hit-same i, light, heavy) in
          subst P (sym t.1) here
      | inr t ↦ omega (arith, ap note_count (get_or-set_other ss i j s status.Free t.1), hit-other i j t.1)
    ]

noted-one : (s : Status) → note_count s ≤ 1
noted-one s = elim (is_some (note_of s)) as (λ b. cond b 1 0 ≤ 1) [ true ↦ omega arith | false ↦ omega arith ]

-- a slot of which a count was noted
noted_inside : (ss : List Status) (i : ℕ) → 1 ≤ note_count (get_or ss i status.Free) → i < length ss
noted_inside [] i h = absurd (omega arith)
noted_inside (s ∷ ss) zero h = omega arith
noted_inside (s ∷ ss) (suc i) h = let r = noted_inside ss i h in omega (arith, r)

vacated_mark : (s : Status) → weight s ≡ 1 → mark_of (vacated s) ≡ mark_of s
vacated_mark status.Free h = refl
vacated_mark status.Owned h = absurd (omega (arith, h))
vacated_mark (status.Shared n) h = absurd (omega (arith, h))
vacated_mark status.Raw h = absurd (omega (arith, h))
vacated_mark (status.Collected n b) h = absurd (omega (arith, h))
vacated_mark status.Retired h = refl
vacated_mark status.Idle h = refl
vacated_mark status.Deferred h = refl

-- what names a slot twice names no slot of which a count was noted
names_fit : (names : List ℕ) (ss : List Status) → ((j : ℕ) → times j names ≤ note_count (get_or ss j status.Free)) → length names ≤ sum_by note_count ss
names_fit [] ss h = omega arith
names_fit (i ∷ is) ss h =
    let ss' = set ss i status.Free in
    let mine : times i (i ∷ is) ≡ hit i i + times i is = sum_by-cons (λ k. hit k i) i is in
    let one : note_count (get_or ss i status.Free) ≡ 1 = omega (arith, h i, mine, hit-same i, noted-one (get_or ss i status.Free)) in
    let inside = noted_inside ss i (omega (arith, one)) in
    let each : (j : ℕ) → times j is ≤ note_count (get_or ss' j status.Free) = λ j.
    let whole : times j (i ∷ is) ≡ hit i j + times j is = sum_by-cons (λ k. hit k j) i is in
    omega (arith, h j, whole, noted_down ss i j status.Free inside one refl) in
    let less = sum_by-set note_count ss i status.Free status.Free inside in
    let rest = names_fit is ss' each in
    omega (arith, less, rest, one)

-- a noted count says whether it is overdue
late_as : (c n : ℕ) (s : Status) → note_of s ≡ Some n → overdue c s ≡ leb (n + 3) c
late_as c n status.Free e = cc
late_as c n status.Owned e = cc
late_as c n (status.Shared m) e = cc
late_as c n status.Raw e = cc
late_as c n (status.Collected m b) e = let same : m ≡ n = cc in ap (λ (k : ℕ). leb (k + 3) c) same
late_as c n status.Retired e = cc
late_as c n status.Idle e = cc
late_as c n status.Deferred e = cc

soon : (c n m : ℕ) → n ≤ m → leb (n + 3) c ≡ false → leb (m + 3) c ≡ false
soon c n m le h = grind (arith, nat_tests)

fresh_noted : (m n j : ℕ) → note_count (get_or (replicate m status.Free ++ replicate n status.Idle) j status.Free) ≡ 0
fresh_noted zero zero j = refl
fresh_noted zero (suc n) zero = refl
fresh_noted zero (suc n) (suc j) = fresh_noted zero n j
fresh_noted (suc m) n zero = refl
fresh_noted (suc m) n (suc j) = fresh_noted m n j

not_in : (i k : ℕ) (ks : List ℕ) → times i (k ∷ ks) ≡ 0 → (k ≢ i) × (times i ks ≡ 0)
not_in i k ks none =
    let whole : times i (k ∷ ks) ≡ hit k i + times i ks = sum_by-cons (λ x. hit x i) k ks in
    let far : k ≢ i = λ e. let P : ℕ → Type 0 = λ x. hit x i ≡ 0 in let z : P k = omega (arith, whole, none) in let y : P i = subst P e z in absurd (omega (arith, hit-same i, y)) in
    (far, omega (arith, whole, none))

-- what is named in two lists is named in both together
named_both : (j : ℕ) (mine other rest : List ℕ) → times j (other ++ (mine ++ rest)) ≡ times j (mine ++ (other ++ rest))
named_both j mine other rest =
    let a : times j (other ++ (mine ++ rest)) ≡ times j other + times j (mine ++ rest) = sum_by-append (λ k. hit k j) other (mine ++ rest) in
    let b : times j (mine ++ rest) ≡ times j mine + times j rest = sum_by-append (λ k. hit k j) mine rest in
    let c : times j (mine ++ (other ++ rest)) ≡ times j mine + times j (other ++ rest) = sum_by-append (λ k. hit k j) mine (other ++ rest) in
    let d : times j (other ++ rest) ≡ times j other + times j rest = sum_by-append (λ k. hit k j) other rest in
    omega (arith, a, b, c, d)

named_some : (j : ℕ) (other rest : List ℕ) → 1 ≤ times j other → 1 ≤ times j (other ++ rest)
named_some j other rest some = let d : times j (other ++ rest) ≡ times j other + times j rest = sum_by-append (λ k. hit k j) other rest in omega (arith, d, some)

module _ {T : Type 0} where
  abbrev mark_at : State T → ℕ → Option (ℕ × ℕ)
  mark_at w i = mark_of (status_at w i)

  -- the count is the same, and each note, with what it names
  record Quiet (w w' : State T) : Type 0 where
    count : w'.count ≡ w.count
    marks : (i : ℕ) → mark_at w' i ≡ mark_at w i

  quiet : (w w' : State T) → Quiet w w' → SameNotes w w'
  quiet w w' q = record {
    count = omega (arith, q.count);
    notes = λ i. note_mark (status_at w' i) ∙ ap note_from (q.marks i) ∙ sym (note_mark (status_at w i));
    behind = λ i. ap named_by (q.marks i);
  }

  same_refl : (w : State T) → Quiet w w
  same_refl w = record { count = refl; marks = λ i. refl }

  same_then : (u v w : State T) → Quiet u v → Quiet v w → Quiet u w
  same_then u v w a b = record { count = b.count ∙ a.count; marks = λ i. b.marks i ∙ a.marks i }

  same_status : (i : ℕ) (s : Status) (w : State T) → i < length w.states → mark_of s ≡ mark_at w i → Quiet w (with_status i s w)
  same_status i s w inside even = record { count = refl; marks = λ j. told_set mark_of w.states i j s inside even }

  same_waiting : (p i : ℕ) (s : Status) (w : State T) → i < length w.states → mark_of s ≡ mark_at w i → Quiet w (waiting_as s p i w)
  same_waiting p i s w inside even = record { count = refl; marks = λ j. told_set mark_of w.states i j s inside even }

  same_released_as : (w : State T) (p i : ℕ) (s : Status) → s ≡ status_at w i → Quiet w (released_as s p i w)
  same_released_as w p i status.Free e = same_refl w
  same_released_as w p i status.Owned e = same_refl w
  same_released_as w p i (status.Shared n) e =
      let inside = inside_by w.states i (status.Shared n) e (λ f. cc) in
      elim (leb n 1) as (λ b. Quiet w (cond b (retired p i w) (with_status i (status.Shared (n - 1)) w))) [ true ↦ same_waiting p i status.Retired w inside (ap mark_of e) | false ↦ same_status i (status.Shared (n - 1)) w inside (ap mark_of e) ]
  same_released_as w p i status.Raw e = same_refl w
  same_released_as w p i (status.Collected n b) e = same_refl w
  same_released_as w p i status.Retired e = same_refl w
  same_released_as w p i status.Idle e = same_refl w
  same_released_as w p i status.Deferred e = same_refl w

  same_disowned_as : (w : State T) (p i : ℕ) (s : Status) → s ≡ status_at w i → Quiet w (disowned_as s p i w)
  same_disowned_as w p i status.Free e = same_refl w
  same_disowned_as w p i status.Owned e = same_waiting p i status.Retired w (inside_by w.states i status.Owned e (λ f. cc)) (ap mark_of e)
  same_disowned_as w p i (status.Shared n) e = same_refl w
  same_disowned_as w p i status.Raw e = same_refl w
  same_disowned_as w p i (status.Collected n b) e = same_refl w
  same_disowned_as w p i status.Retired e = same_refl w
  same_disowned_as w p i status.Idle e = same_refl w
  same_disowned_as w p i status.Deferred e = same_refl w

  same_cell : (c : ℕ) (k : Cell) (w : State T) → Quiet w (with_cell c k w)
  same_cell c k w = record { count = refl; marks = λ i. refl }

  same_owned_ended_as : (w : State T) (p c : ℕ) (k : Cell) → Quiet w (owned_ended_as k p c w)
  same_owned_ended_as w p c cell.Free = same_refl w
  same_owned_ended_as w p c (cell.OfOwned None t) = same_cell c cell.Free w
  same_owned_ended_as w p c (cell.OfOwned (Some i) t) = let u : State T = with_cell c cell.Free w in same_then w u (disowned_as (status_at u i) p i u) (same_cell c cell.Free w) (same_disowned_as u p i (status_at u i) refl)
  same_owned_ended_as w p c (cell.OfShared o t) = same_refl w
  same_owned_ended_as w p c (cell.OfRaw o t) = same_refl w

  same_shared_ended_as : (w : State T) (p c : ℕ) (k : Cell) → Quiet w (shared_ended_as k p c w)
  same_shared_ended_as w p c cell.Free = same_refl w
  same_shared_ended_as w p c (cell.OfOwned o t) = same_refl w
  same_shared_ended_as w p c (cell.OfShared None t) = same_cell c cell.Free w
  same_shared_ended_as w p c (cell.OfShared (Some i) t) = let u : State T = with_cell c cell.Free w in same_then w u (released_as (status_at u i) p i u) (same_cell c cell.Free w) (same_released_as u p i (status_at u i) refl)
  same_shared_ended_as w p c (cell.OfRaw o t) = same_refl w

  same_each : (p : ℕ) (is : List ℕ) (w : State T) → Quiet w (released_each p is w)
  same_each p [] w = same_refl w
  same_each p (i ∷ is) w = same_then w (released p i w) _ (same_released_as w p i (status_at w i) refl) (same_each p is (released p i w))

  same_given : (p : ℕ) (h : Hold) (w : State T) → Quiet w (given p h w)
  same_given p (OwnedItem i) w = same_disowned_as w p i (status_at w i) refl
  same_given p (SharedItem i) w = same_released_as w p i (status_at w i) refl
  same_given p (OwnedIn c) w = same_owned_ended_as w p c (cell_at w c)
  same_given p (SharedIn c) w = same_shared_ended_as w p c (cell_at w c)
  same_given p (OwnerGroup g) w =
      let u : State T = with_groups (less_owned g w.groups) w in
      same_then w u _ (record { count = refl; marks = λ i. refl }) (same_each p (reverse (row_ended g w.groups)) u)

  same_all : (p : ℕ) (hs : List Hold) (w : State T) → Quiet w (given_all p hs w)
  same_all p [] w = same_refl w
  same_all p (h ∷ hs) w = same_then w (given p h w) (given_all p hs (given p h w)) (same_given p h w) (same_all p hs (given p h w))

  are_same : (all : List ℕ) (w w' : State T) → SameNotes w w' → AreCollected all w → AreCollected all w'
  are_same all w w' s h = λ j. h j ∙ ap (λ (o : Option ℕ). cond (is_some o) 1 0) (sym (s.notes j))

  rise_notes : (low : ℕ) (mine : List ℕ) (w w' : State T) → w.count ≤ w'.count → ((i : ℕ) → note_at w' i ≡ note_at w i) → NotesRise w low mine → NotesRise w' low mine
  rise_notes low [] w w' more same h = omega (arith, h, more)
  rise_notes low (i ∷ is) w w' more same h = (h.0, same i ∙ h.1, h.2, rise_notes h.0 is w w' more same h.3)

  rise_same : (low : ℕ) (mine : List ℕ) (w w' : State T) → SameNotes w w' → NotesRise w low mine → NotesRise w' low mine
  rise_same low mine w w' s h = rise_notes low mine w w' s.count s.notes h

  linked_same : (mine : List ℕ) (w w' : State T) → SameNotes w w' → IsLinked w mine → IsLinked w' mine
  linked_same [] w w' s h = tt
  linked_same (i ∷ []) w w' s h = tt
  linked_same (i ∷ j ∷ is) w w' s h = (s.behind i ∙ h.0, linked_same (j ∷ is) w w' s h.1)

  linked_rest : (i : ℕ) (is : List ℕ) (w : State T) → IsLinked w (i ∷ is) → IsLinked w is
  linked_rest i [] w h = tt
  linked_rest i (j ∷ is) w h = h.1

  -- what a place names is what the list says
  linked_left : (i : ℕ) (is : List ℕ) (w : State T) → IsLinked w (i ∷ is) → left_behind (behind_at w i) is ≡ is
  linked_left i [] w h = refl
  linked_left i (j ∷ []) w h = refl
  linked_left i (j ∷ k ∷ is) w h = ap (λ (n : ℕ). n ∷ k ∷ is) h.0

  handed_noted : (p i : ℕ) (w : State T) (s : Status) → note_count s ≡ 1 → handed_over_as s p i w ≡ retired p i w
  handed_noted p i w status.Free h = absurd (omega (arith, h))
  handed_noted p i w status.Owned h = absurd (omega (arith, h))
  handed_noted p i w (status.Shared n) h = absurd (omega (arith, h))
  handed_noted p i w status.Raw h = absurd (omega (arith, h))
  handed_noted p i w (status.Collected n b) h = refl
  handed_noted p i w status.Retired h = absurd (omega (arith, h))
  handed_noted p i w status.Idle h = absurd (omega (arith, h))
  handed_noted p i w status.Deferred h = absurd (omega (arith, h))

  has_room : (mine others : List ℕ) (i : ℕ) (w : State T) → AreCollected (mine ++ others) w → i < length w.states → note_at w i ≡ None → length mine < length w.states
  has_room mine others i w h inside none =
      let fit = names_fit (mine ++ others) w.states (λ j. omega (arith, h j)) in
      let free : note_count (status_at w i) ≡ 0 = ap (λ (o : Option ℕ). cond (is_some o) 1 0) none in
      let less = light_sum note_count noted-one w.states i status.Free inside free in
      omega (arith, fit, less, length-append mine others)

  -- what rises from n on rises from below too
  rise_low : (low n : ℕ) (mine : List ℕ) (w : State T) → low ≤ n → NotesRise w n mine → NotesRise w low mine
  rise_low low n [] w le h = omega (arith, le, h)
  rise_low low n (i ∷ is) w le h = (h.0, h.1, omega (arith, le, h.2), h.3)

  -- where slot i, which the collector doesn't name, changes alone
  rise_other : (low i : ℕ) (mine : List ℕ) (w w' : State T) → w'.count ≡ w.count → times i mine ≡ 0 → ((j : ℕ) → j ≢ i → status_at w' j ≡ status_at w j) → NotesRise w low mine → NotesRise w' low mine
  rise_other low i [] w w' same none others h = omega (arith, same, h)
  rise_other low i (k ∷ ks) w w' same none others h =
      let whole : times i (k ∷ ks) ≡ hit k i + times i ks = sum_by-cons (λ x. hit x i) k ks in
      let far : k ≢ i = λ e. let P : ℕ → Type 0 = λ x. hit x i ≡ 0 in let z : P k = omega (arith, whole, none) in let y : P i = subst P e z in absurd (omega (arith, hit-same i, y)) in
      (h.0, ap note_of (others k far) ∙ h.1, h.2, rise_other h.0 i ks w w' same (omega (arith, whole, none)) others h.3)

  linked_other : (i : ℕ) (mine : List ℕ) (w w' : State T) → times i mine ≡ 0 → ((j : ℕ) → j ≢ i → status_at w' j ≡ status_at w j) → IsLinked w mine → IsLinked w' mine
  linked_other i [] w w' none others h = tt
  linked_other i (k ∷ []) w w' none others h = tt
  linked_other i (k ∷ l ∷ ks) w w' none others h =
      let n = not_in i k (l ∷ ks) none in
      (ap (λ (s : Status). named_by (mark_of s)) (others k n.0) ∙ h.0, linked_other i (l ∷ ks) w w' n.1 others h.1)

  -- a place that isn't the last of a bag is used as before where that one names another
  named_other : (is : List ℕ) (i : ℕ) (w : State T) (k : ℕ) → times k is ≡ 0 → status_at (followed is i w) k ≡ status_at w k
  named_other [] i w k none = refl
  named_other (j ∷ []) i w k none = named_apart (status_at w j) j i w k (λ e. (not_in k j [] none).0 (sym e))
  named_other (j ∷ l ∷ is) i w k none = named_other (l ∷ is) i w k (not_in k j (l ∷ is) none).1

  -- where the last place names what comes in, each place names the next one
  linked_put : (mine : List ℕ) (i : ℕ) (s : Status) (w : State T) → i < length w.states → note_count (status_at w i) ≡ 0 → ((j : ℕ) → times j mine ≤ note_count (status_at w j)) → IsLinked w mine → IsLinked (with_status i s (followed mine i w)) (mine ++ i ∷ [])
  linked_put [] i s w inside free each h = tt
  linked_put (j ∷ []) i s w inside free each h =
      let v : State T = followed (j ∷ []) i w in
      let here : times j (j ∷ []) ≡ hit j j + times j [] = sum_by-cons (λ k. hit k j) j [] in
      let some : 1 ≤ note_count (status_at w j) = omega (arith, each j, here, hit-same j) in
      let n = noted_is (status_at w j) some in
      let far : j ≢ i = λ e. let P : ℕ → Type 0 = λ x. 1 ≤ note_count (status_at w x) in let y : P i = subst P e some in absurd (omega (arith, y, free)) in
      let to : status_at v j ≡ status.Collected n.0 i = ap (λ (t : Status). status_at (followed_as t j i w) j) n.2 ∙ get_or-set_same w.states j (status.Collected n.0 i) status.Free (noted_inside w.states j some) in
      (ap (λ (t : Status). named_by (mark_of t)) (get_or-set_other v.states i j s status.Free far ∙ to), tt)
  linked_put (j ∷ k ∷ is) i s w inside free each h =
      let v : State T = followed (k ∷ is) i w in
      let here : times j (j ∷ k ∷ is) ≡ hit j j + times j (k ∷ is) = sum_by-cons (λ x. hit x j) j (k ∷ is) in
      let some : 1 ≤ note_count (status_at w j) = omega (arith, each j, here, hit-same j) in
      let none : times j (k ∷ is) ≡ 0 = omega (arith, each j, here, hit-same j, noted-one (status_at w j)) in
      let far : j ≢ i = λ e. let P : ℕ → Type 0 = λ x. 1 ≤ note_count (status_at w x) in let y : P i = subst P e some in absurd (omega (arith, y, free)) in
      let less : (m : ℕ) → times m (k ∷ is) ≤ note_count (status_at w m) = λ m. let whole : times m (j ∷ k ∷ is) ≡ hit j m + times m (k ∷ is) = sum_by-cons (λ x. hit x m) j (k ∷ is) in omega (arith, whole, each m) in
      (ap (λ (t : Status). named_by (mark_of t)) (get_or-set_other v.states i j s status.Free far ∙ named_other (k ∷ is) i w j none) ∙ h.0, linked_put (k ∷ is) i s w inside free less h.1)

  -- where the places of a collector are noted as before
  rise_apart : (low : ℕ) (mine : List ℕ) (w w' : State T) → w'.count ≡ w.count → ((j : ℕ) → 1 ≤ times j mine → mark_at w' j ≡ mark_at w j) → NotesRise w low mine → NotesRise w' low mine
  rise_apart low [] w w' count same h = omega (arith, h, count)
  rise_apart low (i ∷ is) w w' count same h =
      let here : times i (i ∷ is) ≡ hit i i + times i is = sum_by-cons (λ k. hit k i) i is in
      let note = note_mark (status_at w' i) ∙ ap note_from (same i (omega (arith, here, hit-same i))) ∙ sym (note_mark (status_at w i)) in
      let rest : (j : ℕ) → 1 ≤ times j is → mark_at w' j ≡ mark_at w j = λ j some. let more : times j (i ∷ is) ≡ hit i j + times j is = sum_by-cons (λ k. hit k j) i is in same j (omega (arith, more, some)) in
      (h.0, note ∙ h.1, h.2, rise_apart h.0 is w w' count rest h.3)

  linked_apart : (mine : List ℕ) (w w' : State T) → ((j : ℕ) → 1 ≤ times j mine → mark_at w' j ≡ mark_at w j) → IsLinked w mine → IsLinked w' mine
  linked_apart [] w w' same h = tt
  linked_apart (i ∷ []) w w' same h = tt
  linked_apart (i ∷ k ∷ is) w w' same h =
      let here : times i (i ∷ k ∷ is) ≡ hit i i + times i (k ∷ is) = sum_by-cons (λ x. hit x i) i (k ∷ is) in
      let rest : (j : ℕ) → 1 ≤ times j (k ∷ is) → mark_at w' j ≡ mark_at w j = λ j some. let more : times j (i ∷ k ∷ is) ≡ hit i j + times j (k ∷ is) = sum_by-cons (λ x. hit x j) i (k ∷ is) in same j (omega (arith, more, some)) in
      (ap named_by (same i (omega (arith, here, hit-same i))) ∙ h.0, linked_apart (k ∷ is) w w' rest h.1)

  rise_push : (low i : ℕ) (mine : List ℕ) (w : State T) → note_at w i ≡ Some w.count → NotesRise w low mine → NotesRise w low (mine ++ i ∷ [])
  rise_push low i [] w e h = (w.count, e, h, omega arith)
  rise_push low i (k ∷ ks) w e h = (h.0, h.1, h.2, rise_push h.0 i ks w e h.3)

  -- a bag whose notes rise isn't overdue where its first place isn't
  timely_from : (low : ℕ) (mine : List ℕ) (w : State T) → leb (low + 3) w.count ≡ false → NotesRise w low mine → (j : ℕ) → 1 ≤ times j mine → overdue w.count (status_at w j) ≡ false
  timely_from low [] w early h j some = absurd (omega (arith, some))
  timely_from low (i ∷ is) w early h j some =
      let later : leb (h.0 + 3) w.count ≡ false = soon w.count low h.0 h.2 early in
      elim (eqb_tells j i) [
        | inl t ↦
            let P : ℕ → Type 0 = λ k. overdue w.count (status_at w k) ≡ false in
            let here : P i = late_as w.count h.0 (status_at w i) h.1 ∙ later in
            subst P (sym t.1) here
        | inr t ↦
            let whole : times j (i ∷ is) ≡ hit i j + times j is = sum_by-cons (λ k. hit k j) i is in
            timely_from h.0 is w later h.3 j (omega (arith, some, whole, hit-other i j t.1))
      ]

  timely_all : (mine : List ℕ) (w : State T) → IsTimely w mine → NotesRise w 0 mine → (j : ℕ) → 1 ≤ times j mine → overdue w.count (status_at w j) ≡ false
  timely_all [] w first h j some = absurd (omega (arith, some))
  timely_all (i ∷ is) w first h j some =
      let early : leb (h.0 + 3) w.count ≡ false = sym (late_as w.count h.0 (status_at w i) h.1) ∙ first in
      timely_from h.0 (i ∷ is) w early (h.0, h.1, omega arith, h.3) j some

module _ {T : Type 0} (holds : T → List Hold) where
  -- what purging leaves of a collector, of which nothing is overdue then
  record Purged (mine others : List ℕ) (w w' : State T) : Type 0 where
    count : w'.count ≡ w.count
    named : AreCollected (mine ++ others) w'
    rise : NotesRise w' 0 mine
    linked : IsLinked w' mine
    first : IsTimely w' mine
    apart : (j : ℕ) → 1 ≤ times j others → mark_at w' j ≡ mark_at w j

  purged_all : (p : ℕ) (mine others : List ℕ) (w : State T) → AreCollected (mine ++ others) w → NotesRise w 0 mine → IsLinked w mine → Purged (left_waiting holds p mine w) others w (purged holds p mine w)
  purged_all p [] others w named rise linked = record { count = refl; named = named; rise = rise; linked = tt; first = tt; apart = λ j some. refl }
  purged_all p (i ∷ is) others w named rise linked =
      let u : State T = slot_freed i w in
      let v : State T = noted_reclaimed holds p i w in
      let here : times i ((i ∷ is) ++ others) ≡ hit i i + times i (is ++ others) = sum_by-cons (λ k. hit k i) i (is ++ others) in
      let one : note_count (status_at w i) ≡ 1 = omega (arith, named i, here, hit-same i, noted-one (status_at w i)) in
      let inside = noted_inside w.states i (omega (arith, one)) in
      let split : times i (is ++ others) ≡ times i is + times i others = sum_by-append (λ k. hit k i) is others in
      let none : times i is ≡ 0 = omega (arith, named i, here, hit-same i, one, split) in
      let nu : AreCollected (is ++ others) u = λ j.
      let whole : times j ((i ∷ is) ++ others) ≡ hit i j + times j (is ++ others) = sum_by-cons (λ k. hit k j) i (is ++ others) in
      omega (arith, named j, whole, noted_down w.states i j status.Free inside one refl) in
      let apart : (j : ℕ) → j ≢ i → status_at u j ≡ status_at w j = λ j n. get_or-set_other w.states i j status.Free status.Free n in
      let ru : NotesRise u 0 is = rise_other 0 i is w u refl none apart (rise_low 0 rise.0 is w (omega arith) rise.3) in
      let lu : IsLinked u is = linked_other i is w u none apart (linked_rest i is w linked) in
      let absent : times i others ≡ 0 = omega (arith, named i, here, hit-same i, one, split) in
      let beyond : (j : ℕ) → 1 ≤ times j others → j ≢ i = λ j some e. let P : ℕ → Type 0 = λ k. 1 ≤ times k others in let y : P i = subst P e some in absurd (omega (arith, y, absent)) in
      let q = same_all p (held_in holds (value_at w i)) u in
      let s = quiet u v q in
      let rest = purged_all p is others v (are_same (is ++ others) u v s nu) (rise_same 0 is u v s ru) (linked_same is u v s lu) in
      let js = left_behind (behind_at w i) is in
      let same : js ≡ is = linked_left i is w linked in
      let next : Purged (left_within holds p (length is) js v) others v (purged_within holds p (length is) js v) = subst (λ (xs : List ℕ). Purged (left_within holds p (length is) xs v) others v (purged_within holds p (length is) xs v)) (sym same) rest in
      (elim (overdue w.count (status_at w i)) as (λ b. overdue w.count (status_at w i) ≡ b → Purged (cond b (left_within holds p (length is) js v) (i ∷ is)) others w (cond b (purged_within holds p (length is) js v) w)) [
        | true ↦ λ e. record { count = next.count ∙ q.count; named = next.named; rise = next.rise; linked = next.linked; first = next.first; apart = λ j some. next.apart j some ∙ q.marks j ∙ ap mark_of (apart j (beyond j some)) }
        | false ↦ λ e. record { count = refl; named = named; rise = rise; linked = linked; first = e; apart = λ j some. refl }
      ]) refl

  purges : (p : ℕ) (mine others : List ℕ) (w : State T) → IsInOrder mine others w → IsInOrder (left_waiting holds p mine w) others (purged holds p mine w) × NoneOverdue (left_waiting holds p mine w) (purged holds p mine w)
  purges p mine others w h =
      let x = purged_all p mine others w h.named h.rise h.linked in
      (record { named = x.named; rise = x.rise; linked = x.linked }, timely_all (left_waiting holds p mine w) (purged holds p mine w) x.first x.rise)

  collects : (p n i : ℕ) (mine others : List ℕ) (w : State T) → i < length w.states → note_at w i ≡ None → IsInOrder mine others w → IsInOrder (enqueued n mine i) others (set_aside p n mine i w)
  collects p n i mine others w inside none h =
      let s = status.Collected w.count 0 in
      let v : State T = followed mine i w in
      let u : State T = with_status i s v in
      let m = names mine i w in
      let there : i < length v.states = omega (arith, m.places, inside) in
      let free : note_count (status_at w i) ≡ 0 = ap (λ (o : Option ℕ). cond (is_some o) 1 0) none in
      let counts : (j : ℕ) → note_count (status_at v j) ≡ note_count (status_at w j) = λ j. m.told note_count (λ k b c. refl) j in
      let out : times i (mine ++ others) ≡ times i mine + times i others = sum_by-append (λ k. hit k i) mine others in
      let far : times i mine ≡ 0 = omega (arith, h.named i, free, out) in
      let mark : note_at u i ≡ Some u.count = ap note_of (get_or-set_same v.states i s status.Free there) ∙ ap (λ (k : ℕ). Some k) (sym m.count) in
      let each : (j : ℕ) → times j mine ≤ note_count (status_at w j) = λ j. let b : times j (mine ++ others) ≡ times j mine + times j others = sum_by-append (λ k. hit k j) mine others in omega (arith, b, h.named j) in
      let rise : NotesRise v 0 mine = rise_notes 0 mine w v (omega (arith, m.count)) (m.told note_of (λ k b c. refl)) h.rise in
      let whole : IsInOrder (mine ++ i ∷ []) others u = record {
        named = λ j.
            let a : times j ((mine ++ i ∷ []) ++ others) ≡ times j (mine ++ i ∷ []) + times j others = sum_by-append (λ k. hit k j) (mine ++ i ∷ []) others in
            let b : times j (mine ++ others) ≡ times j mine + times j others = sum_by-append (λ k. hit k j) mine others in
            omega (arith, h.named j, a, b, times-append j mine i, counts j, noted_up v.states i j s there (counts i ∙ free) refl);
        rise = rise_push 0 i mine u mark (rise_other 0 i mine v u refl far (λ j k. get_or-set_other v.states i j s status.Free k) rise);
        linked = linked_put mine i s w inside free each h.linked;
      } in
      let same = quiet w (retired p i w) (same_waiting p i status.Retired w inside (sym (no_mark (status_at w i) none))) in
      let full : IsInOrder mine others (retired p i w) = record { named = are_same (mine ++ others) w (retired p i w) same h.named; rise = rise_same 0 mine w (retired p i w) same h.rise; linked = linked_same mine w (retired p i w) same h.linked } in
      elim (ltb (length mine) n) as (λ b. IsInOrder (cond b (mine ++ i ∷ []) mine) others (cond b u (retired p i w))) [ true ↦ whole | false ↦ full ]

  -- what handing a collector over leaves of the others
  record Handed (others : List ℕ) (w w' : State T) : Type 0 where
    count : w'.count ≡ w.count
    named : AreCollected others w'
    apart : (j : ℕ) → 1 ≤ times j others → mark_at w' j ≡ mark_at w j

  hands_over : (p : ℕ) (mine others : List ℕ) (w : State T) → AreCollected (mine ++ others) w → IsLinked w mine → Handed others w (handed_over p mine w)
  hands_over p [] others w h linked = record { count = refl; named = h; apart = λ j some. refl }
  hands_over p (i ∷ is) others w h linked =
      let v : State T = retired p i w in
      let here : times i ((i ∷ is) ++ others) ≡ hit i i + times i (is ++ others) = sum_by-cons (λ k. hit k i) i (is ++ others) in
      let one : note_count (status_at w i) ≡ 1 = omega (arith, h i, here, hit-same i, noted-one (status_at w i)) in
      let inside = noted_inside w.states i (omega (arith, one)) in
      let split : times i (is ++ others) ≡ times i is + times i others = sum_by-append (λ k. hit k i) is others in
      let none : times i is ≡ 0 = omega (arith, h i, here, hit-same i, one, split) in
      let absent : times i others ≡ 0 = omega (arith, h i, here, hit-same i, one, split) in
      let beyond : (j : ℕ) → 1 ≤ times j others → j ≢ i = λ j some e. let P : ℕ → Type 0 = λ k. 1 ≤ times k others in let y : P i = subst P e some in absurd (omega (arith, y, absent)) in
      let next : AreCollected (is ++ others) v = λ j.
      let whole : times j ((i ∷ is) ++ others) ≡ hit i j + times j (is ++ others) = sum_by-cons (λ k. hit k j) i (is ++ others) in
      omega (arith, h j, whole, noted_down w.states i j status.Retired inside one refl) in
      let other : (j : ℕ) → j ≢ i → status_at v j ≡ status_at w j = λ j k. get_or-set_other w.states i j status.Retired status.Free k in
      let lv : IsLinked v is = linked_other i is w v none other (linked_rest i is w linked) in
      let to = hands_over p is others v next lv in
      let whole : Handed others w (handed_over p is v) = record { count = to.count; named = to.named; apart = λ j some. to.apart j some ∙ ap mark_of (other j (beyond j some)) } in
      let on : Handed others w (handed_within p (length is) (left_behind (behind_at w i) is) v) = subst (λ (xs : List ℕ). Handed others w (handed_within p (length is) xs v)) (sym (linked_left i is w linked)) whole in
      subst (λ (x : State T). Handed others w (handed_within p (length is) (left_behind (behind_at w i) is) x)) (sym (handed_noted p i w (status_at w i) one)) on

  -- a collector whose places are noted as before is in order as before
  stays_in_order : (mine other rest : List ℕ) (w w' : State T) → w'.count ≡ w.count → AreCollected (mine ++ (other ++ rest)) w' → ((j : ℕ) → 1 ≤ times j (other ++ rest) → mark_at w' j ≡ mark_at w j) → NotesRise w 0 other → IsLinked w other → IsInOrder other (mine ++ rest) w'
  stays_in_order mine other rest w w' count named apart rise linked =
      let same : (j : ℕ) → 1 ≤ times j other → mark_at w' j ≡ mark_at w j = λ j some. apart j (named_some j other rest some) in
      record {
        named = λ j. named_both j mine other rest ∙ named j;
        rise = rise_apart 0 other w w' count same rise;
        linked = linked_apart other w w' same linked;
      }

  purges_beside : (p : ℕ) (mine other rest : List ℕ) (w : State T) → IsInOrder mine (other ++ rest) w → IsInOrder other (mine ++ rest) w → IsInOrder other (left_waiting holds p mine w ++ rest) (purged holds p mine w)
  purges_beside p mine other rest w h o =
      let x = purged_all p mine (other ++ rest) w h.named h.rise h.linked in
      stays_in_order (left_waiting holds p mine w) other rest w (purged holds p mine w) x.count x.named x.apart o.rise o.linked

  hands_beside : (p : ℕ) (mine other rest : List ℕ) (w : State T) → IsInOrder mine (other ++ rest) w → IsInOrder other (mine ++ rest) w → IsInOrder other rest (handed_over p mine w)
  hands_beside p mine other rest w h o =
      let x = hands_over p mine (other ++ rest) w h.named h.linked in
      stays_in_order [] other rest w (handed_over p mine w) x.count x.named x.apart o.rise o.linked

  collects_beside : (p n i : ℕ) (mine other rest : List ℕ) (w : State T) → i < length w.states → note_at w i ≡ None → IsInOrder mine (other ++ rest) w → IsInOrder other (mine ++ rest) w → IsInOrder other (enqueued n mine i ++ rest) (set_aside p n mine i w)
  collects_beside p n i mine other rest w inside none h o =
      let s = status.Collected w.count 0 in
      let v : State T = followed mine i w in
      let m = names mine i w in
      let x = collects p n i mine (other ++ rest) w inside none h in
      let apart : (j : ℕ) → 1 ≤ times j (other ++ rest) → mark_at (set_aside p n mine i w) j ≡ mark_at w j = λ j some.
      let free : note_count (status_at w i) ≡ 0 = ap (λ (k : Option ℕ). cond (is_some k) 1 0) none in
      let out : times j (mine ++ (other ++ rest)) ≡ times j mine + times j (other ++ rest) = sum_by-append (λ k. hit k j) mine (other ++ rest) in
      let one : 1 ≤ note_count (status_at w j) = omega (arith, h.named j, out, some) in
      let absent : times j mine ≡ 0 = omega (arith, h.named j, out, some, noted-one (status_at w j)) in
      let far : j ≢ i = λ e. let P : ℕ → Type 0 = λ k. 1 ≤ note_count (status_at w k) in let y : P i = subst P e one in absurd (omega (arith, y, free)) in
      let whole : mark_at (with_status i s v) j ≡ mark_at w j = ap mark_of (get_or-set_other v.states i j s status.Free far ∙ named_other mine i w j absent) in
      let full : mark_at (retired p i w) j ≡ mark_at w j = ap mark_of (get_or-set_other w.states i j status.Retired status.Free far) in
      elim (ltb (length mine) n) as (λ b. mark_at (cond b (with_status i s v) (retired p i w)) j ≡ mark_at w j) [ true ↦ whole | false ↦ full ] in
      let count : (set_aside p n mine i w).count ≡ w.count = elim (ltb (length mine) n) as (λ b. (cond b (with_status i s v) (retired p i w)).count ≡ w.count) [ true ↦ m.count | false ↦ refl ] in
      stays_in_order (enqueued n mine i) other rest w (set_aside p n mine i w) count x.named apart o.rise o.linked

  same_next : (p i : ℕ) (is : List ℕ) (w : State T) → Sound w → p < length w.participants → (participant_at w p).due ≡ i ∷ is → Quiet w (due_reclaimed holds p w)
  same_next p i is w sound known was =
      let d = due_waiting w p i is sound known was in
      let u : State T = taken p i is w in
      let first : Quiet w u = record { count = refl; marks = λ j. told_set mark_of w.states i j (vacated (status_at w i)) d.0 (vacated_mark (status_at w i) d.1) } in
      let whole : Quiet w (due_reclaimed_as holds p (i ∷ is) w) = same_then w u (given_all p (held_in holds (value_at w i)) u) first (same_all p (held_in holds (value_at w i)) u) in
      subst (λ (xs : List ℕ). Quiet w (due_reclaimed_as holds p xs w)) (sym was) whole

  same_reclaimed : (p n : ℕ) (w : State T) (due : List ℕ) → due ≡ (participant_at w p).due → length due ≡ n → Sound w → p < length w.participants → Quiet w (reclaimed holds p n w)
  same_reclaimed p zero w due e size sound known = same_refl w
  same_reclaimed p (suc n) w [] e size sound known = absurd (omega arith)
  same_reclaimed p (suc n) w (i ∷ is) e size sound known =
      let r = reclaims_next holds w p i is sound known (sym e) in
      let v : State T = due_reclaimed holds p w in
      same_then w v (reclaimed holds p n v) (same_next p i is w sound known (sym e)) (same_reclaimed p n v is (sym r.due) (omega (arith, size)) r.sound (omega (arith, r.known, known)))

  same_rotated : (p : ℕ) (w : State T) → IsPlace w → p < length w.participants → Quiet w (participant_rotated holds p w)
  same_rotated p w place known =
      let m = participant_at w p in
      let u : State T = rotated_bags p w in
      let at : participant_at u p ≡ bags_moved_on m = get_or-set_same w.participants p (bags_moved_on m) nobody known in
      let due : (participant_at u p).due ≡ reverse m.oldest = ap (λ (m : ParticipantState). m.due) at in
      let q = same_reclaimed p (length m.oldest) u (participant_at u p).due refl (ap length due ∙ length-reverse m.oldest) (sound_turned w p place.sound known (place.idle p)) (omega (arith, known, length-set w.participants p (bags_moved_on m))) in
      record { count = q.count; marks = q.marks }

  same_opened : (p : ℕ) (w : State T) → IsPlace w → p < length w.participants → SameNotes w (guard_opened holds p w)
  same_opened p w place known =
      let m = local_at w p in
      let b : State T = count_published p w in
      let n : State T = with_local p (record m { nesting = m.nesting + 1 }) w in
      let kb : p < length b.participants = omega (arith, known, length-set w.participants p (with_local_state (record m { nesting = 1; published = w.count; previous = w.count; accelerated = false }) (participant_at w p))) in
      let q = same_rotated p b (place_begun w p place known) kb in
      let turns : SameNotes w (participant_rotated holds p b) = quiet w (participant_rotated holds p b) (record { count = q.count; marks = q.marks }) in
      let plain : (k : LocalState) → SameNotes w (with_local p k w) = λ k. record { count = omega arith; notes = λ i. refl; behind = λ i. refl } in
      let outer : SameNotes w (cond (m.previous == w.count) b (participant_rotated holds p b)) = elim (m.previous == w.count) as (λ c. SameNotes w (cond c b (participant_rotated holds p b))) [ true ↦ plain (record m { nesting = 1; published = w.count; previous = w.count; accelerated = false }) | false ↦ turns ] in
      elim (m.nesting == 0) as (λ c. SameNotes w (cond c (cond (m.previous == w.count) b (participant_rotated holds p b)) n)) [ true ↦ outer | false ↦ plain (record m { nesting = m.nesting + 1 }) ]

  same_closed : (p : ℕ) (w : State T) → SameNotes w (guard_closed p w)
  same_closed p w =
      let m = local_at w p in
      let k1 : LocalState = record m { nesting = 0; closings = 0 } in
      let k2 : LocalState = record m { nesting = 0; closings = closings_after m } in
      let plain : (k : LocalState) → SameNotes w (with_local p k w) = λ k. record { count = omega arith; notes = λ i. refl; behind = λ i. refl } in
      let up : SameNotes w (with_local p k1 (raised w)) = record { count = omega arith; notes = λ i. refl; behind = λ i. refl } in
      let yes : SameNotes w (with_local p k1 (scanned w)) = elim (list_all (is_present w.count) w.participants && ltb w.count 18446744073709551615) as (λ c. SameNotes w (with_local p k1 (cond c (raised w) w))) [ true ↦ up | false ↦ plain k1 ] in
      let outer : SameNotes w (cond (scans m) (with_local p k1 (scanned w)) (with_local p k2 w)) = elim (scans m) as (λ c. SameNotes w (cond c (with_local p k1 (scanned w)) (with_local p k2 w))) [ true ↦ yes | false ↦ plain k2 ] in
      elim (m.nesting == 1) as (λ c. SameNotes w (cond c (cond (scans m) (with_local p k1 (scanned w)) (with_local p k2 w)) (with_local p (record m { nesting = m.nesting - 1 }) w))) [ true ↦ outer | false ↦ plain (record m { nesting = m.nesting - 1 }) ]

  -- as far as dropping has come
  record Still (p : ℕ) (w v : State T) : Type 0 where
    known : p < length v.participants
    sound : Sound v
    idle : (participant_at v p).due ≡ []
    quiet : Quiet w v

  still_next : (p : ℕ) (w v : State T) → Still p w v → Still p w (undone holds p v)
  still_next p w v s =
      let r : State T = changing p recalled v in
      let c = calls_recalled v p s.sound s.known s.idle in
      let first : Quiet w r = record { count = s.quiet.count; marks = s.quiet.marks } in
      elim c.due [
        | inl e ↦
            let same : Still p w r = record { known = c.known; sound = c.sound; idle = e; quiet = first } in
            subst (λ (is : List ℕ). Still p w (due_reclaimed_as holds p is r)) (sym e) same
        | inr e ↦
            let x = reclaims_next holds r p e.0 [] c.sound c.known e.1 in
            record { known = omega (arith, x.known, c.known); sound = x.sound; idle = x.due; quiet = same_then w r (due_reclaimed holds p r) first (same_next p e.0 [] r c.sound c.known e.1) }
      ]

  still_all : (n p : ℕ) (w v : State T) → Still p w v → Still p w (undone_times holds p n v)
  still_all zero p w v s = s
  still_all (suc n) p w v s = still_next p w (undone_times holds p n v) (still_all n p w v s)

  same_dropped : (h : Hold) (w w' : State T) → IsPlace w → Dropped holds h w w' → SameNotes w w'
  same_dropped h w w' place d =
      let g = gives_given w 0 h place.sound place.some in
      let start : Still 0 w (given 0 h w) = record { known = omega (arith, g.known, place.some); sound = g.sound; idle = g.due ∙ place.idle 0; quiet = same_given 0 h w } in
      let end = (still_all d.turns 0 w (given 0 h w) start).quiet in
      let there : SameNotes w (with_local 0 (local_at w 0) (undone_times holds 0 d.turns (given 0 h w))) = quiet w (with_local 0 (local_at w 0) (undone_times holds 0 d.turns (given 0 h w))) (record { count = end.count; marks = end.marks }) in
      subst (λ (s : State T). SameNotes w s) (sym d.now) there

  pub collectors_are_in_order : CollectorsAreInOrder holds
  collectors_are_in_order = record {
    fresh = λ n j. sym (fresh_noted n.slots n.jobs j);
    placed = λ i v s w free none. quiet w (placed i v s w) (record { count = refl; marks = λ j. told_set mark_of w.states i j s free.0 (no_mark s none ∙ sym (ap mark_of free.1)) });
    written = λ i v w. record { count = omega arith; notes = λ j. refl; behind = λ j. refl };
    used = λ i s w inside old new. quiet w (with_status i s w) (same_status i s w inside (no_mark s new ∙ sym (no_mark (status_at w i) old)));
    celled = λ c k w. quiet w (with_cell c k w) (same_cell c k w);
    given = λ p h w. quiet w (given p h w) (same_given p h w);
    dropped = same_dropped;
    deferred = λ p i w idle. quiet w (waiting_as status.Deferred p i w) (same_waiting p i status.Deferred w idle.0 (sym (ap mark_of idle.1)));
    opened = same_opened;
    closed = same_closed;
    named = are_same;
    rise = rise_same;
    linked = linked_same;
    room = has_room;
    collected = collects;
    purged = purges;
    handed = λ p mine others w h. (hands_over p mine others w h.named h.linked).named;
    collected_beside = collects_beside;
    purged_beside = purges_beside;
    handed_beside = hands_beside;
  }
