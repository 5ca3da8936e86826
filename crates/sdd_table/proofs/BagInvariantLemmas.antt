-- what each step of a participant leaves: lengths, other participants, times, and that a place which waits is in one bag
use Rattle.std.proofs.Common.{◌≡◌, ◌≢◌, ℕ, zero, suc, ◌+◌, ◌-◌, ◌<◌, ◌≤◌, true, false, Option, None, Some, List, [], ◌∷◌, length, get_or, set, take, drop, ◌++◌, refl, sym, ap, ◌∙◌, arith, length-set, subst, reverse, cond, get_or-set_other, get_or-set_same, leb, inl, inr, is_some}
use Rattle.std.specs.List.{sum_by}
use Rattle.std.proofs.lemmas.List.Sums.{sum_by-set, sum_by-cons, sum_by-append, get_or-le-sum_by}
use Rattle.std.proofs.lemmas.Bool.{false≢true}
use Rattle.std.proofs.lemmas.Bool.Decides.{eqb_tells}
use Rattle.std.proofs.lemmas.List.Sorted.{IsPermutation-reverse, sum_by-IsPermutation}
use Rattle.std.proofs.lemmas.List.{nil_from_length, take-append-drop}
use Rattle.sdd_table.specs.Groups.{GroupState, less_owned, row_ended}
use Rattle.sdd_table.specs.Holding.{Hold, OwnedItem, SharedItem, OwnedIn, SharedIn, OwnerGroup}
use Rattle.sdd_table.specs.State.{State, ParticipantState, put_participant, recalled, retired, waiting_as, nobody, status_at, value_at, participant_at, cell_at, left_due, is_used, taken, weight, bags_moved_on, rotated_bags, with_status, with_groups, with_cell, with_local, vacated, occupied}
use Rattle.sdd_table.specs.Steps.{times, hit, released_as, disowned_as, owned_ended_as, shared_ended_as, given, given_all, released, released_each, due_reclaimed_as, due_reclaimed, reclaimed, held_in}
use Rattle.sdd_table.specs.Place.{Sound, held_times}
use Rattle.sdd_table.specs.declared.status.Status.{Status}
use Rattle.sdd_table.specs.declared.status.Status.TheVariants as status
use Rattle.sdd_table.specs.declared.status.Cell.{Cell}
use Rattle.sdd_table.specs.declared.status.Cell.TheVariants as cell
use Rattle.sdd_plain.specs.declared.local_state.LocalState.{LocalState}
use Rattle.sdd_table.proofs.ListLemmas.{hit-same, hit-other, times-append}

pub heavy_inside : (ss : List Status) (i : ℕ) → 1 ≤ weight (get_or ss i status.Free) → i < length ss
heavy_inside [] i h = absurd (omega arith)
heavy_inside (s ∷ ss) zero h = omega arith
heavy_inside (s ∷ ss) (suc i) h = let r = heavy_inside ss i h in omega (arith, r)

pub weight-at_most : (s : Status) → weight s ≤ 1
weight-at_most status.Free = omega arith
weight-at_most status.Owned = omega arith
weight-at_most (status.Shared n) = omega arith
weight-at_most status.Raw = omega arith
weight-at_most (status.Collected n b) = omega arith
weight-at_most status.Retired = omega arith
weight-at_most status.Idle = omega arith
weight-at_most status.Deferred = omega arith

pub weight_up : (ss : List Status) (i j : ℕ) (s : Status) → i < length ss → weight (get_or ss i status.Free) ≡ 0 → weight s ≡ 1 → weight (get_or (set ss i s) j status.Free) ≡ weight (get_or ss j status.Free) + hit i j
weight_up ss i j s inside light heavy =
    elim (eqb_tells j i) [
      | inl t ↦
          let at : get_or (set ss i s) i status.Free ≡ s = get_or-set_same ss i s status.Free inside in
          let P : ℕ → Type 0 = λ k. weight (get_or (set ss i s) k status.Free) ≡ weight (get_or ss k status.Free) + hit i k in
          let here : P i = omega (arith, ap weight at, hit-same i, light, heavy) in
          subst P (sym t.1) here
      | inr t ↦ omega (arith, ap weight (get_or-set_other ss i j s status.Free t.1), hit-other i j t.1)
    ]

pub weight_down : (ss : List Status) (i j : ℕ) (s : Status) → i < length ss → weight (get_or ss i status.Free) ≡ 1 → weight s ≡ 0 → weight (get_or (set ss i s) j status.Free) + hit i j ≡ weight (get_or ss j status.Free)
weight_down ss i j s inside heavy light =
    elim (eqb_tells j i) [
      | inl t ↦
          let at : get_or (set ss i s) i status.Free ≡ s = get_or-set_same ss i s status.Free inside in
          let P : ℕ → Type 0 = λ k. weight (get_or (set ss i s) k status.Free) + hit i k ≡ weight (get_or ss k status.Free) in
          let here : P i = omega (arith, ap weight at, hit-same i, light, heavy) in
          subst P (sym t.1) here
      | inr t ↦ omega (arith, ap weight (get_or-set_other ss i j s status.Free t.1), hit-other i j t.1)
    ]

pub weight_same : (ss : List Status) (i j : ℕ) (s : Status) → i < length ss → weight s ≡ weight (get_or ss i status.Free) → weight (get_or (set ss i s) j status.Free) ≡ weight (get_or ss j status.Free)
weight_same ss i j s inside even =
    elim (eqb_tells j i) [
      | inl t ↦
          let P : ℕ → Type 0 = λ k. weight (get_or (set ss i s) k status.Free) ≡ weight (get_or ss k status.Free) in
          let here : P i = ap weight (get_or-set_same ss i s status.Free inside) ∙ even in
          subst P (sym t.1) here
      | inr t ↦ ap weight (get_or-set_other ss i j s status.Free t.1)
    ]

-- another use of a used slot
pub used_same : (ss : List Status) (i j : ℕ) (s : Status) → i < length ss → is_used s ≡ is_used (get_or ss i status.Free) → is_used (get_or (set ss i s) j status.Free) ≡ is_used (get_or ss j status.Free)
used_same ss i j s inside even =
    elim (eqb_tells j i) [
      | inl t ↦
          let P : ℕ → Type 0 = λ k. is_used (get_or (set ss i s) k status.Free) ≡ is_used (get_or ss k status.Free) in
          let here : P i = ap is_used (get_or-set_same ss i s status.Free inside) ∙ even in
          subst P (sym t.1) here
      | inr t ↦ ap is_used (get_or-set_other ss i j s status.Free t.1)
    ]

-- a note of the count is in a state only if it was there before
pub noted_set : (ss : List Status) (i j n b : ℕ) (s : Status) → i < length ss → ((m c : ℕ) → s ≢ status.Collected m c) → get_or (set ss i s) j status.Free ≡ status.Collected n b → get_or ss j status.Free ≡ status.Collected n b
noted_set ss i j n b s inside new e =
    elim (eqb_tells j i) [
      | inl t ↦
          let P : ℕ → Type 0 = λ k. get_or (set ss i s) k status.Free ≡ status.Collected n b in
          let here : P i = subst P t.1 e in
          absurd (new n b (sym (get_or-set_same ss i s status.Free inside) ∙ here))
      | inr t ↦ sym (get_or-set_other ss i j s status.Free t.1) ∙ e
    ]

pub gone_at : {T : Type 0} (vs : List (Option T)) (i : ℕ) → get_or (set vs i None) i None ≡ None
gone_at [] i = refl
gone_at (v ∷ vs) zero = refl
gone_at (v ∷ vs) (suc i) = gone_at vs i

pub vacated-light : (s : Status) → weight (vacated s) ≡ 0
vacated-light status.Free = refl
vacated-light status.Owned = refl
vacated-light (status.Shared n) = refl
vacated-light status.Raw = refl
vacated-light (status.Collected n b) = refl
vacated-light status.Retired = refl
vacated-light status.Idle = refl
vacated-light status.Deferred = refl

pub vacated-unused : (s : Status) → is_used (vacated s) ≡ false
vacated-unused status.Free = refl
vacated-unused status.Owned = refl
vacated-unused (status.Shared n) = refl
vacated-unused status.Raw = refl
vacated-unused (status.Collected n b) = refl
vacated-unused status.Retired = refl
vacated-unused status.Idle = refl
vacated-unused status.Deferred = refl

pub vacated-new : (s : Status) (m c : ℕ) → vacated s ≢ status.Collected m c
vacated-new status.Free m c e = cc
vacated-new status.Owned m c e = cc
vacated-new (status.Shared n) m c e = cc
vacated-new status.Raw m c e = cc
vacated-new (status.Collected n b) m c e = cc
vacated-new status.Retired m c e = cc
vacated-new status.Idle m c e = cc
vacated-new status.Deferred m c e = cc

pub used-occupied : (s : Status) → is_used s ≡ true → occupied s ≡ 1
used-occupied status.Free h = absurd (false≢true h)
used-occupied status.Owned h = refl
used-occupied (status.Shared n) h = refl
used-occupied status.Raw h = refl
used-occupied (status.Collected n b) h = refl
used-occupied status.Retired h = refl
used-occupied status.Idle h = absurd (false≢true h)
used-occupied status.Deferred h = absurd (false≢true h)

pub heavy-occupied : (s : Status) → weight s ≡ 1 → occupied s ≡ 1
heavy-occupied status.Free h = absurd (omega (arith, h))
heavy-occupied status.Owned h = absurd (omega (arith, h))
heavy-occupied (status.Shared n) h = absurd (omega (arith, h))
heavy-occupied status.Raw h = absurd (omega (arith, h))
heavy-occupied (status.Collected n b) h = absurd (omega (arith, h))
heavy-occupied status.Retired h = refl
heavy-occupied status.Idle h = absurd (omega (arith, h))
heavy-occupied status.Deferred h = refl

pub vacated-empty : (s : Status) → occupied (vacated s) ≡ 0
vacated-empty status.Free = refl
vacated-empty status.Owned = refl
vacated-empty (status.Shared n) = refl
vacated-empty status.Raw = refl
vacated-empty (status.Collected n b) = refl
vacated-empty status.Retired = refl
vacated-empty status.Idle = refl
vacated-empty status.Deferred = refl

-- how often a place waits where participant p changes
pub times_set : (ms : List ParticipantState) (p j : ℕ) (m : ParticipantState) → p < length ms → sum_by (held_times j) (set ms p m) + held_times j (get_or ms p nobody) ≡ sum_by (held_times j) ms + held_times j m
times_set ms p j m known = sum_by-set (held_times j) ms p m nobody known

pub times_put : (i j : ℕ) (m : ParticipantState) → held_times j (put_participant i m) ≡ held_times j m + hit i j
times_put i j m = omega (arith, times-append j m.current i)

pub times_left : (i j : ℕ) (is : List ℕ) (m : ParticipantState) → m.due ≡ i ∷ is → held_times j (left_due is m) + hit i j ≡ held_times j m
times_left i j is m was =
    let e : times j m.due ≡ times j (i ∷ is) = ap (times j) was in
    let f : times j (i ∷ is) ≡ hit i j + times j is = sum_by-cons (λ k. hit k j) i is in
    omega (arith, e, f)

pub times_reversed : (j : ℕ) (xs : List ℕ) → times j (reverse xs) ≡ times j xs
times_reversed j xs = sum_by-IsPermutation (λ k. hit k j) xs (reverse xs) (IsPermutation-reverse xs)

pub times_turned : (j : ℕ) (m : ParticipantState) → m.due ≡ [] → held_times j (bags_moved_on m) ≡ held_times j m
times_turned j m none =
    let e : times j m.due ≡ times j [] = ap (times j) none in
    omega (arith, e, times_reversed j m.oldest)

pub times_recalled : (j : ℕ) (m : ParticipantState) → held_times j (recalled m) ≡ held_times j m
times_recalled j m =
    let n = length m.current - 1 in
    let parts : times j (take n m.current ++ drop n m.current) ≡ times j (take n m.current) + times j (drop n m.current) = sum_by-append (λ k. hit k j) (take n m.current) (drop n m.current) in
    let whole : times j (take n m.current ++ drop n m.current) ≡ times j m.current = ap (times j) (take-append-drop n m.current) in
    let dues : times j (drop n m.current ++ m.due) ≡ times j (drop n m.current) + times j m.due = sum_by-append (λ k. hit k j) (drop n m.current) m.due in
    omega (arith, parts, whole, dues)

pub sound_waiting : {T : Type 0} (w : State T) (p i : ℕ) (s : Status) → Sound w → p < length w.participants → i < length w.states → weight (status_at w i) ≡ 0 → weight s ≡ 1 → is_used s ≡ is_used (status_at w i) → Sound (waiting_as s p i w)
sound_waiting w p i s h known inside light heavy even = record {
  sizes = h.sizes ∙ sym (length-set w.states i s);
  once = λ j. omega (arith, h.once j, times_set w.participants p j (put_participant i (participant_at w p)) known, times_put i j (participant_at w p), weight_up w.states i j s inside light heavy);
  filled = λ j. h.filled j ∙ sym (used_same w.states i j s inside even);
}

pub sound_taken : {T : Type 0} (w : State T) (p i : ℕ) (is : List ℕ) → Sound w → p < length w.participants → i < length w.states → weight (status_at w i) ≡ 1 → (participant_at w p).due ≡ i ∷ is → Sound (taken p i is w)
sound_taken {T} w p i is h known inside here was =
    let s = vacated (status_at w i) in
    record {
      sizes = length-set w.values i None ∙ h.sizes ∙ sym (length-set w.states i s);
      once = λ j. omega (arith, h.once j, times_set w.participants p j (left_due is (participant_at w p)) known, times_left i j is (participant_at w p) was, weight_down w.states i j s inside here (vacated-light (status_at w i)));
      filled = λ j. elim (eqb_tells j i) [
        | inl t ↦
            let P : ℕ → Type 0 = λ k. is_some (get_or (set w.values i None) k None) ≡ is_used (get_or (set w.states i s) k status.Free) in
            let at : is_used (get_or (set w.states i s) i status.Free) ≡ false = ap is_used (get_or-set_same w.states i s status.Free inside) ∙ vacated-unused (status_at w i) in
            let here : P i = ap is_some (gone_at w.values i) ∙ sym at in
            subst P (sym t.1) here
        | inr t ↦ ap is_some (get_or-set_other w.values i j None None t.1) ∙ h.filled j ∙ sym (ap is_used (get_or-set_other w.states i j s status.Free t.1))
      ];
    }

pub sound_turned : {T : Type 0} (w : State T) (p : ℕ) → Sound w → p < length w.participants → (participant_at w p).due ≡ [] → Sound (rotated_bags p w)
sound_turned w p h known none = record {
  sizes = h.sizes;
  once = λ j. omega (arith, h.once j, times_set w.participants p j (bags_moved_on (participant_at w p)) known, times_turned j (participant_at w p) none);
  filled = h.filled;
}

pub sound_local : {T : Type 0} (w : State T) (p : ℕ) (k : LocalState) → Sound w → p < length w.participants → Sound (with_local p k w)
sound_local w p k h known = record {
  sizes = h.sizes;
  once = λ j. omega (arith, h.once j, times_set w.participants p j (record (participant_at w p) { local = k }) known);
  filled = h.filled;
}

pub sound_status : {T : Type 0} (w : State T) (i : ℕ) (s : Status) → Sound w → i < length w.states → weight s ≡ weight (status_at w i) → is_used s ≡ is_used (status_at w i) → Sound (with_status i s w)
sound_status w i s h inside even same = record {
  sizes = h.sizes ∙ sym (length-set w.states i s);
  once = λ j. h.once j ∙ sym (weight_same w.states i j s inside even);
  filled = λ j. h.filled j ∙ sym (used_same w.states i j s inside same);
}

-- a place in a bag waits
pub bag_waits : {T : Type 0} (w : State T) (p i : ℕ) → Sound w → p < length w.participants → held_times i (participant_at w p) ≤ weight (status_at w i)
bag_waits w p i h known = omega (arith, get_or-le-sum_by (held_times i) w.participants p nobody known, h.once i)

-- what is due waits
pub due_waiting : {T : Type 0} (w : State T) (p i : ℕ) (is : List ℕ) → Sound w → p < length w.participants → (participant_at w p).due ≡ i ∷ is → (i < length w.states) × (weight (status_at w i) ≡ 1)
due_waiting w p i is h known was =
    let part = bag_waits w p i h known in
    let left = times_left i i is (participant_at w p) was in
    let heavy : 1 ≤ weight (status_at w i) = omega (arith, part, left, hit-same i) in
    (heavy_inside w.states i heavy, omega (arith, heavy, weight-at_most (status_at w i)))

-- what a participant's releases and reclaims leave of it
pub record Calm : Type 0 where
  pub prior : List ℕ
  pub oldest : List ℕ
  pub nesting : ℕ
  pub published : ℕ
  pub previous : ℕ

abbrev pub calm : ParticipantState → Calm
calm m = record { prior = m.prior; oldest = m.oldest; nesting = m.local.nesting; published = m.local.published; previous = m.local.previous }

-- what giving owners back leaves
pub record Gives {T : Type 0} (p : ℕ) (w w' : State T) : Type 0 where
  pub count : w'.count ≡ w.count
  pub values : w'.values ≡ w.values
  pub places : length w'.states ≡ length w.states
  pub cells : length w'.cells ≡ length w.cells
  pub known : length w'.participants ≡ length w.participants
  pub due : (participant_at w' p).due ≡ (participant_at w p).due
  pub calm : calm (participant_at w' p) ≡ calm (participant_at w p)
  pub others : (k : ℕ) → k ≢ p → participant_at w' k ≡ participant_at w k
  pub noted : (i n b : ℕ) → status_at w' i ≡ status.Collected n b → status_at w i ≡ status.Collected n b
  pub occupied : sum_by occupied w'.states ≡ sum_by occupied w.states
  pub sound : Sound w'

-- the same, where a job may have come too
pub record Leaves {T : Type 0} (p : ℕ) (w w' : State T) : Type 0 where
  pub count : w'.count ≡ w.count
  pub values : w'.values ≡ w.values
  pub places : length w'.states ≡ length w.states
  pub cells : length w'.cells ≡ length w.cells
  pub known : length w'.participants ≡ length w.participants
  pub due : (participant_at w' p).due ≡ (participant_at w p).due
  pub calm : calm (participant_at w' p) ≡ calm (participant_at w p)
  pub others : (k : ℕ) → k ≢ p → participant_at w' k ≡ participant_at w k
  pub noted : (i n b : ℕ) → status_at w' i ≡ status.Collected n b → status_at w i ≡ status.Collected n b
  pub sound : Sound w'

pub leaves : {T : Type 0} (p : ℕ) (w w' : State T) → Gives p w w' → Leaves p w w'
leaves p w w' g = record { count = g.count; values = g.values; places = g.places; cells = g.cells; known = g.known; due = g.due; calm = g.calm; others = g.others; noted = g.noted; sound = g.sound }

pub leaves_refl : {T : Type 0} (p : ℕ) (w : State T) → Sound w → Leaves p w w
leaves_refl p w h = record { count = refl; values = refl; places = refl; cells = refl; known = refl; due = refl; calm = refl; others = λ k n. refl; noted = λ i n f e. e; sound = h }

pub leaves_then : {T : Type 0} (p : ℕ) (u v w : State T) → Leaves p u v → Leaves p v w → Leaves p u w
leaves_then p u v w a b = record {
  count = b.count ∙ a.count;
  values = b.values ∙ a.values;
  places = b.places ∙ a.places;
  cells = b.cells ∙ a.cells;
  known = b.known ∙ a.known;
  due = b.due ∙ a.due;
  calm = b.calm ∙ a.calm;
  others = λ k n. b.others k n ∙ a.others k n;
  noted = λ i n f e. a.noted i n f (b.noted i n f e);
  sound = b.sound;
}

-- what the participants keep of it
pub record Calms {T : Type 0} (p : ℕ) (w w' : State T) : Type 0 where
  pub count : w'.count ≡ w.count
  pub known : length w'.participants ≡ length w.participants
  pub due : (participant_at w' p).due ≡ (participant_at w p).due
  pub calm : calm (participant_at w' p) ≡ calm (participant_at w p)
  pub others : (k : ℕ) → k ≢ p → participant_at w' k ≡ participant_at w k
  pub sound : Sound w'

pub calms : {T : Type 0} (p : ℕ) (w w' : State T) → Leaves p w w' → Calms p w w'
calms p w w' g = record { count = g.count; known = g.known; due = g.due; calm = g.calm; others = g.others; sound = g.sound }

pub gives_refl : {T : Type 0} (p : ℕ) (w : State T) → Sound w → Gives p w w
gives_refl p w h = record { count = refl; values = refl; places = refl; cells = refl; known = refl; due = refl; calm = refl; others = λ k n. refl; noted = λ i n f e. e; occupied = refl; sound = h }

pub gives_then : {T : Type 0} (p : ℕ) (u v w : State T) → Gives p u v → Gives p v w → Gives p u w
gives_then p u v w a b = record {
  count = b.count ∙ a.count;
  values = b.values ∙ a.values;
  places = b.places ∙ a.places;
  cells = b.cells ∙ a.cells;
  known = b.known ∙ a.known;
  due = b.due ∙ a.due;
  calm = b.calm ∙ a.calm;
  others = λ k n. b.others k n ∙ a.others k n;
  noted = λ i n f e. a.noted i n f (b.noted i n f e);
  occupied = b.occupied ∙ a.occupied;
  sound = b.sound;
}

pub gives_retired : {T : Type 0} (w : State T) (p i : ℕ) → Sound w → p < length w.participants → i < length w.states → weight (status_at w i) ≡ 0 → is_used (status_at w i) ≡ true → Gives p w (retired p i w)
gives_retired w p i h known inside light used =
    let at : participant_at (retired p i w) p ≡ put_participant i (participant_at w p) = get_or-set_same w.participants p (put_participant i (participant_at w p)) nobody known in
    record {
      count = refl;
      values = refl;
      places = length-set w.states i status.Retired;
      cells = refl;
      known = length-set w.participants p (put_participant i (participant_at w p));
      due = ap (λ (m : ParticipantState). m.due) at;
      calm = ap calm at;
      others = λ k n. get_or-set_other w.participants p k (put_participant i (participant_at w p)) nobody n;
      noted = λ j n b e. noted_set w.states i j n b status.Retired inside (λ m c f. cc) e;
      occupied = omega (arith, sum_by-set occupied w.states i status.Retired status.Free inside, used-occupied _ used);
      sound = sound_waiting w p i status.Retired h known inside light refl (sym used);
    }

pub gives_status : {T : Type 0} (w : State T) (p i : ℕ) (s : Status) → Sound w → i < length w.states → weight (status_at w i) ≡ 0 → weight s ≡ 0 → is_used (status_at w i) ≡ true → is_used s ≡ true → ((m b : ℕ) → s ≢ status.Collected m b) → Gives p w (with_status i s w)
gives_status w p i s h inside light even used same new = record {
  count = refl;
  values = refl;
  places = length-set w.states i s;
  cells = refl;
  known = refl;
  due = refl;
  calm = refl;
  others = λ k n. refl;
  noted = λ j n b e. noted_set w.states i j n b s inside new e;
  occupied = omega (arith, sum_by-set occupied w.states i s status.Free inside, used-occupied _ used, used-occupied s same);
  sound = sound_status w i s h inside (even ∙ sym light) (same ∙ sym used);
}

-- a slot that isn't free is one of the place's
pub inside_by : (ss : List Status) (i : ℕ) (s : Status) → s ≡ get_or ss i status.Free → s ≢ status.Free → i < length ss
inside_by [] i s e h = absurd (h e)
inside_by (x ∷ ss) zero s e h = omega arith
inside_by (x ∷ ss) (suc i) s e h = let r = inside_by ss i s e h in omega (arith, r)

pub gives_released_as : {T : Type 0} (w : State T) (p i : ℕ) (s : Status) → s ≡ status_at w i → Sound w → p < length w.participants → Gives p w (released_as s p i w)
gives_released_as w p i status.Free e h known = gives_refl p w h
gives_released_as w p i status.Owned e h known = gives_refl p w h
gives_released_as w p i (status.Shared n) e h known =
    let inside = inside_by w.states i (status.Shared n) e (λ f. cc) in
    let light : weight (status_at w i) ≡ 0 = ap weight (sym e) in
    let used : is_used (status_at w i) ≡ true = ap is_used (sym e) in
    let last = gives_retired w p i h known inside light used in
    let more : Gives p w (with_status i (status.Shared (n - 1)) w) = gives_status w p i (status.Shared (n - 1)) h inside light refl used refl (λ m c f. cc) in
    elim (leb n 1) as (λ b. Gives p w (cond b (retired p i w) (with_status i (status.Shared (n - 1)) w))) [ true ↦ last | false ↦ more ]
gives_released_as w p i status.Raw e h known = gives_refl p w h
gives_released_as w p i (status.Collected n b) e h known = gives_refl p w h
gives_released_as w p i status.Retired e h known = gives_refl p w h
gives_released_as w p i status.Idle e h known = gives_refl p w h
gives_released_as w p i status.Deferred e h known = gives_refl p w h

pub gives_disowned_as : {T : Type 0} (w : State T) (p i : ℕ) (s : Status) → s ≡ status_at w i → Sound w → p < length w.participants → Gives p w (disowned_as s p i w)
gives_disowned_as w p i status.Free e h known = gives_refl p w h
gives_disowned_as w p i status.Owned e h known = gives_retired w p i h known (inside_by w.states i status.Owned e (λ f. cc)) (ap weight (sym e)) (ap is_used (sym e))
gives_disowned_as w p i (status.Shared n) e h known = gives_refl p w h
gives_disowned_as w p i status.Raw e h known = gives_refl p w h
gives_disowned_as w p i (status.Collected n b) e h known = gives_refl p w h
gives_disowned_as w p i status.Retired e h known = gives_refl p w h
gives_disowned_as w p i status.Idle e h known = gives_refl p w h
gives_disowned_as w p i status.Deferred e h known = gives_refl p w h

pub gives_cell : {T : Type 0} (w : State T) (p c : ℕ) (k : Cell) → Sound w → Gives p w (with_cell c k w)
gives_cell w p c k h = record { count = refl; values = refl; places = refl; cells = length-set w.cells c k; known = refl; due = refl; calm = refl; others = λ k n. refl; noted = λ i n f e. e; occupied = refl; sound = record { sizes = h.sizes; once = h.once; filled = h.filled } }

pub gives_owned_ended_as : {T : Type 0} (w : State T) (p c : ℕ) (k : Cell) → Sound w → p < length w.participants → Gives p w (owned_ended_as k p c w)
gives_owned_ended_as w p c cell.Free h known = gives_refl p w h
gives_owned_ended_as w p c (cell.OfOwned None t) h known = gives_cell w p c cell.Free h
gives_owned_ended_as w p c (cell.OfOwned (Some i) t) h known =
    let first = gives_cell w p c cell.Free h in
    gives_then p w (with_cell c cell.Free w) _ first (gives_disowned_as (with_cell c cell.Free w) p i _ refl first.sound known)
gives_owned_ended_as w p c (cell.OfShared o t) h known = gives_refl p w h
gives_owned_ended_as w p c (cell.OfRaw o t) h known = gives_refl p w h

pub gives_shared_ended_as : {T : Type 0} (w : State T) (p c : ℕ) (k : Cell) → Sound w → p < length w.participants → Gives p w (shared_ended_as k p c w)
gives_shared_ended_as w p c cell.Free h known = gives_refl p w h
gives_shared_ended_as w p c (cell.OfOwned o t) h known = gives_refl p w h
gives_shared_ended_as w p c (cell.OfShared None t) h known = gives_cell w p c cell.Free h
gives_shared_ended_as w p c (cell.OfShared (Some i) t) h known =
    let first = gives_cell w p c cell.Free h in
    gives_then p w (with_cell c cell.Free w) _ first (gives_released_as (with_cell c cell.Free w) p i _ refl first.sound known)
gives_shared_ended_as w p c (cell.OfRaw o t) h known = gives_refl p w h

-- as many participants are known as before
released_known_as : {T : Type 0} (w : State T) (p i : ℕ) (s : Status) → length (released_as s p i w).participants ≡ length w.participants
released_known_as w p i status.Free = refl
released_known_as w p i status.Owned = refl
released_known_as {T} w p i (status.Shared n) = elim (leb n 1) as (λ b. length (cond b (retired p i w) (with_status i (status.Shared (n - 1)) w)).participants ≡ length w.participants) [ true ↦ length-set w.participants p (put_participant i (participant_at w p)) | false ↦ refl ]
released_known_as w p i status.Raw = refl
released_known_as w p i (status.Collected n b) = refl
released_known_as w p i status.Retired = refl
released_known_as w p i status.Idle = refl
released_known_as w p i status.Deferred = refl

pub released_known : {T : Type 0} (w : State T) (p i : ℕ) → length (released p i w).participants ≡ length w.participants
released_known w p i = released_known_as w p i (status_at w i)

disowned_known_as : {T : Type 0} (w : State T) (p i : ℕ) (s : Status) → length (disowned_as s p i w).participants ≡ length w.participants
disowned_known_as w p i status.Free = refl
disowned_known_as w p i status.Owned = length-set w.participants p (put_participant i (participant_at w p))
disowned_known_as w p i (status.Shared n) = refl
disowned_known_as w p i status.Raw = refl
disowned_known_as w p i (status.Collected n b) = refl
disowned_known_as w p i status.Retired = refl
disowned_known_as w p i status.Idle = refl
disowned_known_as w p i status.Deferred = refl

owned_ended_known_as : {T : Type 0} (w : State T) (p c : ℕ) (k : Cell) → length (owned_ended_as k p c w).participants ≡ length w.participants
owned_ended_known_as w p c cell.Free = refl
owned_ended_known_as w p c (cell.OfOwned None t) = refl
owned_ended_known_as w p c (cell.OfOwned (Some i) t) = disowned_known_as (with_cell c cell.Free w) p i (status_at w i)
owned_ended_known_as w p c (cell.OfShared o t) = refl
owned_ended_known_as w p c (cell.OfRaw o t) = refl

shared_ended_known_as : {T : Type 0} (w : State T) (p c : ℕ) (k : Cell) → length (shared_ended_as k p c w).participants ≡ length w.participants
shared_ended_known_as w p c cell.Free = refl
shared_ended_known_as w p c (cell.OfOwned o t) = refl
shared_ended_known_as w p c (cell.OfShared None t) = refl
shared_ended_known_as w p c (cell.OfShared (Some i) t) = released_known_as (with_cell c cell.Free w) p i (status_at w i)
shared_ended_known_as w p c (cell.OfRaw o t) = refl

released_each_known : {T : Type 0} (w : State T) (p : ℕ) (is : List ℕ) → length (released_each p is w).participants ≡ length w.participants
released_each_known w p [] = refl
released_each_known w p (i ∷ is) = released_each_known (released p i w) p is ∙ released_known w p i

pub given_known : {T : Type 0} (w : State T) (p : ℕ) (h : Hold) → length (given p h w).participants ≡ length w.participants
given_known w p (OwnedItem i) = disowned_known_as w p i (status_at w i)
given_known w p (SharedItem i) = released_known w p i
given_known w p (OwnedIn c) = owned_ended_known_as w p c (cell_at w c)
given_known w p (SharedIn c) = shared_ended_known_as w p c (cell_at w c)
given_known w p (OwnerGroup g) = released_each_known (with_groups (less_owned g w.groups) w) p (reverse (row_ended g w.groups))

pub gives_groups : {T : Type 0} (w : State T) (p : ℕ) (gs : List GroupState) → Sound w → Gives p w (with_groups gs w)
gives_groups w p gs h = record { count = refl; values = refl; places = refl; cells = refl; known = refl; due = refl; calm = refl; others = λ k n. refl; noted = λ i n f e. e; occupied = refl; sound = record { sizes = h.sizes; once = h.once; filled = h.filled } }

pub gives_released_each : {T : Type 0} (w : State T) (p : ℕ) (is : List ℕ) → Sound w → p < length w.participants → Gives p w (released_each p is w)
gives_released_each w p [] h known = gives_refl p w h
gives_released_each w p (i ∷ is) h known =
    let first = gives_released_as w p i _ refl h known in
    gives_then p w (released p i w) _ first (gives_released_each (released p i w) p is first.sound (omega (arith, known, first.known)))

pub gives_given : {T : Type 0} (w : State T) (p : ℕ) (h : Hold) → Sound w → p < length w.participants → Gives p w (given p h w)
gives_given w p (OwnedItem i) h known = gives_disowned_as w p i _ refl h known
gives_given w p (SharedItem i) h known = gives_released_as w p i _ refl h known
gives_given w p (OwnedIn c) h known = gives_owned_ended_as w p c _ h known
gives_given w p (SharedIn c) h known = gives_shared_ended_as w p c _ h known
gives_given w p (OwnerGroup g) h known =
    let first = gives_groups w p (less_owned g w.groups) h in
    gives_then p w (with_groups (less_owned g w.groups) w) _ first (gives_released_each (with_groups (less_owned g w.groups) w) p (reverse (row_ended g w.groups)) first.sound known)

pub gives_all : {T : Type 0} (w : State T) (p : ℕ) (hs : List Hold) → Sound w → p < length w.participants → Gives p w (given_all p hs w)
gives_all w p [] h known = gives_refl p w h
gives_all w p (x ∷ hs) h known =
    let first = gives_given w p x h known in
    let still : p < length (given p x w).participants = omega (arith, first.known) in
    gives_then p w (given p x w) _ first (gives_all (given p x w) p hs first.sound still)

-- what reclaiming the next place leaves
pub record Reclaims {T : Type 0} (p i : ℕ) (is : List ℕ) (w w' : State T) : Type 0 where
  pub count : w'.count ≡ w.count
  pub stays : (j : ℕ) → j ≢ i → value_at w' j ≡ value_at w j
  pub gone : value_at w' i ≡ None
  pub places : length w'.states ≡ length w.states
  pub cells : length w'.cells ≡ length w.cells
  pub known : length w'.participants ≡ length w.participants
  pub due : (participant_at w' p).due ≡ is
  pub calm : calm (participant_at w' p) ≡ calm (participant_at w p)
  pub others : (k : ℕ) → k ≢ p → participant_at w' k ≡ participant_at w k
  pub noted : (i n b : ℕ) → status_at w' i ≡ status.Collected n b → status_at w i ≡ status.Collected n b
  pub occupied : sum_by occupied w'.states + 1 ≡ sum_by occupied w.states
  pub sound : Sound w'

pub reclaims_next : {T : Type 0} (holds : T → List Hold) (w : State T) (p i : ℕ) (is : List ℕ) → Sound w → p < length w.participants → (participant_at w p).due ≡ i ∷ is → Reclaims p i is w (due_reclaimed holds p w)
reclaims_next {T} holds w p i is h known was =
    let r = due_waiting w p i is h known was in
    let s = vacated (status_at w i) in
    let u = taken p i is w in
    let su = sound_taken w p i is h known r.0 r.1 was in
    let at : participant_at u p ≡ left_due is (participant_at w p) = get_or-set_same w.participants p (left_due is (participant_at w p)) nobody known in
    let size : length u.participants ≡ length w.participants = length-set w.participants p (left_due is (participant_at w p)) in
    let gu = gives_all u p (held_in holds (value_at w i)) su (omega (arith, size)) in
    let whole : Reclaims p i is w (due_reclaimed_as holds p (i ∷ is) w) = record {
      count = gu.count;
      stays = λ j n. ap (λ (vs : List (Option T)). get_or vs j None) gu.values ∙ get_or-set_other w.values i j None None n;
      gone = ap (λ (vs : List (Option T)). get_or vs i None) gu.values ∙ gone_at w.values i;
      places = gu.places ∙ length-set w.states i s;
      cells = gu.cells;
      known = gu.known ∙ size;
      due = gu.due ∙ ap (λ (m : ParticipantState). m.due) at;
      calm = gu.calm ∙ ap calm at;
      others = λ k n. gu.others k n ∙ get_or-set_other w.participants p k (left_due is (participant_at w p)) nobody n;
      noted = λ j n b e. noted_set w.states i j n b s r.0 (vacated-new (status_at w i)) (gu.noted j n b e);
      occupied = let same = gu.occupied in omega (arith, same, sum_by-set occupied w.states i s status.Free r.0, heavy-occupied _ r.1, vacated-empty (status_at w i));
      sound = gu.sound;
    } in
    subst (λ (xs : List ℕ). Reclaims p i is w (due_reclaimed_as holds p xs w)) (sym was) whole

-- what reclaiming all that is due leaves
pub record RunsOut {T : Type 0} (p : ℕ) (w w' : State T) : Type 0 where
  pub count : w'.count ≡ w.count
  pub stays : (j : ℕ) → times j (participant_at w p).due ≡ 0 → value_at w' j ≡ value_at w j
  pub places : length w'.states ≡ length w.states
  pub cells : length w'.cells ≡ length w.cells
  pub known : length w'.participants ≡ length w.participants
  pub due : (participant_at w' p).due ≡ []
  pub calm : calm (participant_at w' p) ≡ calm (participant_at w p)
  pub others : (k : ℕ) → k ≢ p → participant_at w' k ≡ participant_at w k
  pub noted : (i n b : ℕ) → status_at w' i ≡ status.Collected n b → status_at w i ≡ status.Collected n b
  pub occupied : sum_by occupied w'.states + length (participant_at w p).due ≡ sum_by occupied w.states
  pub sound : Sound w'

pub runs_out : {T : Type 0} (holds : T → List Hold) (p n : ℕ) (w : State T) (due : List ℕ) → due ≡ (participant_at w p).due → length due ≡ n → Sound w → p < length w.participants → RunsOut p w (reclaimed holds p n w)
runs_out holds p zero w due e size h known = record { count = refl; stays = λ j none. refl; places = refl; cells = refl; known = refl; due = sym e ∙ nil_from_length due size; calm = refl; others = λ k n. refl; noted = λ i n f e. e; occupied = omega (arith, ap length e, size); sound = h }
runs_out holds p (suc n) w [] e size h known = absurd (omega arith)
runs_out holds p (suc n) w (i ∷ is) e size h known =
    let r = reclaims_next holds w p i is h known (sym e) in
    let u = due_reclaimed holds p w in
    let less : length is ≡ n = omega (arith, size) in
    let o = runs_out holds p n u is (sym r.due) less r.sound (omega (arith, r.known)) in
    record {
      count = o.count ∙ r.count;
      stays = λ j none.
          let all : times j (i ∷ is) ≡ 0 = ap (times j) e ∙ none in
          let split : times j (i ∷ is) ≡ hit i j + times j is = sum_by-cons (λ k. hit k j) i is in
          let left : times j (participant_at u p).due ≡ 0 = ap (times j) r.due ∙ omega (arith, all, split) in
          let other : j ≢ i = λ q. let P : ℕ → Type 0 = λ k. hit i k ≡ 0 in let z : hit i j ≡ 0 = omega (arith, split, all) in let y : hit i i ≡ 0 = subst P q z in absurd (omega (arith, hit-same i, y)) in
          o.stays j left ∙ r.stays j other;
      places = o.places ∙ r.places;
      cells = o.cells ∙ r.cells;
      known = o.known ∙ r.known;
      due = o.due;
      calm = o.calm ∙ r.calm;
      others = λ k n. o.others k n ∙ r.others k n;
      noted = λ j m b f. r.noted j m b (o.noted j m b f);
      occupied = omega (arith, o.occupied, r.occupied, ap length e, ap length r.due);
      sound = o.sound;
    }
