-- what dropping an item in place does to the store
use Rattle.std.proofs.Common.{◌≡◌, ◌≢◌, ℕ, suc, ◌+◌, ◌-◌, ◌<◌, ◌≤◌, true, false, List, [], ◌∷◌, ◌++◌, length, take, drop, reverse, get_or, refl, sym, ap, ◌∙◌, arith, length-set, subst, cond, get_or-set_same, get_or-set_other, inl, inr, ◌⊎◌, leb, Some, None, Option, is_some}
use Rattle.std.proofs.lemmas.Bool.{false≢true}
use Rattle.std.specs.List.{sum_by}
use Rattle.std.proofs.Math.Seq.{take-append-add}
use Rattle.std.proofs.lemmas.List.{ext_get_or, append_assoc, append-nil, nil_from_length, length-append, length-drop, drop_more}
use Rattle.std.proofs.lemmas.Bool.Decides.{eqb_tells}
use Rattle.sdd_table.specs.Groups.{less_owned, row_ended}
use Rattle.sdd_table.specs.Holding.{Hold, OwnedItem, SharedItem, OwnedIn, SharedIn, OwnerGroup}
use Rattle.sdd_table.specs.State.{State, ParticipantState, participant_at, nobody, changing, recalled, with_local_state, local_at, with_local, with_groups, with_cell, with_status, status_at, value_at, cell_at, put_participant, retired, taken, left_due, occupied, weight}
use Rattle.sdd_table.specs.Steps.{given, given_all, released, released_each, released_as, disowned_as, owned_ended_as, shared_ended_as, due_reclaimed, due_reclaimed_as, held_in}
use Rattle.sdd_table.specs.Dropping.{undone, undone_times, Dropped}
use Rattle.sdd_table.specs.Place.{Sound, IsPlace}
use Rattle.sdd_table.specs.declared.status.Status.{Status}
use Rattle.sdd_table.specs.declared.status.Status.TheVariants as status
use Rattle.sdd_table.specs.declared.status.Cell.{Cell}
use Rattle.sdd_table.specs.declared.status.Cell.TheVariants as cell
use Rattle.sdd_plain.specs.declared.local_state.LocalState.{LocalState}
use Rattle.sdd_table.proofs.BagInvariantLemmas.{times_recalled, Calm, calm, reclaims_next, due_waiting, sound_taken, gives_given, gives_groups, gives_released_as, times_set, sound_local}

-- what giving owners back adds to the current bag of p
abbrev pub Grows : {T : Type 0} → ℕ → State T → State T → Type 0
Grows p w w' = (xs : List ℕ) × ((participant_at w' p).current ≡ (participant_at w p).current ++ xs)

grows_same : {T : Type 0} (p : ℕ) (w w' : State T) → (participant_at w' p).current ≡ (participant_at w p).current → Grows p w w'
grows_same p w w' e = ([], e ∙ sym (append-nil _))

grows_then : {T : Type 0} (p : ℕ) (u v w : State T) → Grows p u v → Grows p v w → Grows p u w
grows_then p u v w a b = (a.0 ++ b.0, b.1 ∙ ap (λ (xs : List ℕ). xs ++ b.0) a.1 ∙ append_assoc (participant_at u p).current a.0 b.0)

grows_retired : {T : Type 0} (w : State T) (p i : ℕ) → p < length w.participants → Grows p w (retired p i w)
grows_retired w p i known = (i ∷ [], ap (λ (m : ParticipantState). m.current) (get_or-set_same w.participants p (put_participant i (participant_at w p)) nobody known))

grows_released_as : {T : Type 0} (w : State T) (p i : ℕ) (s : Status) → p < length w.participants → Grows p w (released_as s p i w)
grows_released_as w p i status.Free known = grows_same p w w refl
grows_released_as w p i status.Owned known = grows_same p w w refl
grows_released_as w p i (status.Shared n) known =
    elim (leb n 1) as (λ b. Grows p w (cond b (retired p i w) (with_status i (status.Shared (n - 1)) w))) [ true ↦ grows_retired w p i known | false ↦ grows_same p w (with_status i (status.Shared (n - 1)) w) refl ]
grows_released_as w p i status.Raw known = grows_same p w w refl
grows_released_as w p i (status.Collected n b) known = grows_same p w w refl
grows_released_as w p i status.Retired known = grows_same p w w refl
grows_released_as w p i status.Idle known = grows_same p w w refl
grows_released_as w p i status.Deferred known = grows_same p w w refl

grows_disowned_as : {T : Type 0} (w : State T) (p i : ℕ) (s : Status) → p < length w.participants → Grows p w (disowned_as s p i w)
grows_disowned_as w p i status.Free known = grows_same p w w refl
grows_disowned_as w p i status.Owned known = grows_retired w p i known
grows_disowned_as w p i (status.Shared n) known = grows_same p w w refl
grows_disowned_as w p i status.Raw known = grows_same p w w refl
grows_disowned_as w p i (status.Collected n b) known = grows_same p w w refl
grows_disowned_as w p i status.Retired known = grows_same p w w refl
grows_disowned_as w p i status.Idle known = grows_same p w w refl
grows_disowned_as w p i status.Deferred known = grows_same p w w refl

grows_owned_ended_as : {T : Type 0} (w : State T) (p c : ℕ) (k : Cell) → p < length w.participants → Grows p w (owned_ended_as k p c w)
grows_owned_ended_as w p c cell.Free known = grows_same p w w refl
grows_owned_ended_as w p c (cell.OfOwned None t) known = grows_same p w (with_cell c cell.Free w) refl
grows_owned_ended_as w p c (cell.OfOwned (Some i) t) known = grows_disowned_as (with_cell c cell.Free w) p i _ known
grows_owned_ended_as w p c (cell.OfShared o t) known = grows_same p w w refl
grows_owned_ended_as w p c (cell.OfRaw o t) known = grows_same p w w refl

grows_shared_ended_as : {T : Type 0} (w : State T) (p c : ℕ) (k : Cell) → p < length w.participants → Grows p w (shared_ended_as k p c w)
grows_shared_ended_as w p c cell.Free known = grows_same p w w refl
grows_shared_ended_as w p c (cell.OfOwned o t) known = grows_same p w w refl
grows_shared_ended_as w p c (cell.OfShared None t) known = grows_same p w (with_cell c cell.Free w) refl
grows_shared_ended_as w p c (cell.OfShared (Some i) t) known = grows_released_as (with_cell c cell.Free w) p i (status_at (with_cell c cell.Free w) i) known
grows_shared_ended_as w p c (cell.OfRaw o t) known = grows_same p w w refl

grows_released_each : {T : Type 0} (w : State T) (p : ℕ) (is : List ℕ) → Sound w → p < length w.participants → Grows p w (released_each p is w)
grows_released_each w p [] sound known = grows_same p w w refl
grows_released_each w p (i ∷ is) sound known =
    let g = gives_released_as w p i (status_at w i) refl sound known in
    grows_then p w (released p i w) (released_each p is (released p i w)) (grows_released_as w p i (status_at w i) known) (grows_released_each (released p i w) p is g.sound (omega (arith, known, g.known)))

grows_given : {T : Type 0} (w : State T) (p : ℕ) (h : Hold) → Sound w → p < length w.participants → Grows p w (given p h w)
grows_given w p (OwnedItem i) sound known = grows_disowned_as w p i (status_at w i) known
grows_given w p (SharedItem i) sound known = grows_released_as w p i (status_at w i) known
grows_given w p (OwnedIn c) sound known = grows_owned_ended_as w p c (cell_at w c) known
grows_given w p (SharedIn c) sound known = grows_shared_ended_as w p c (cell_at w c) known
grows_given w p (OwnerGroup g) sound known = grows_released_each (with_groups (less_owned g w.groups) w) p (reverse (row_ended g w.groups)) (gives_groups w p (less_owned g w.groups) sound).sound known

grows_all : {T : Type 0} (w : State T) (p : ℕ) (hs : List Hold) → Sound w → p < length w.participants → Grows p w (given_all p hs w)
grows_all w p [] sound known = grows_same p w w refl
grows_all w p (h ∷ hs) sound known =
    let g = gives_given w p h sound known in
    grows_then p w (given p h w) (given_all p hs (given p h w)) (grows_given w p h sound known) (grows_all (given p h w) p hs g.sound (omega (arith, known, g.known)))

-- the place that came last is due, and in the same bags as often
sound_recalled : {T : Type 0} (w : State T) (p : ℕ) → Sound w → p < length w.participants → Sound (changing p recalled w)
sound_recalled w p h known = record {
  sizes = h.sizes;
  once = λ j. omega (arith, h.once j, times_set w.participants p j (recalled (participant_at w p)) known, times_recalled j (participant_at w p));
  filled = h.filled;
}

-- what is due then waits
pub recalled_waits : {T : Type 0} (w v : State T) (p : ℕ) → v ≡ changing p recalled w → Sound w → p < length w.participants → (i : ℕ) (is : List ℕ) → (participant_at v p).due ≡ i ∷ is → (i < length v.states) × (weight (status_at v i) ≡ 1)
recalled_waits {T} w v p e h known i is was =
    let sound : Sound v = subst (λ (x : State T). Sound x) (sym e) (sound_recalled w p h known) in
    let size : length v.participants ≡ length w.participants = ap (λ (x : State T). length x.participants) e ∙ length-set w.participants p (recalled (participant_at w p)) in
    due_waiting v p i is sound (omega (arith, size, known)) was

-- the last place of a bag that has one
last_place : (xs : List ℕ) → 1 ≤ length xs → (i : ℕ) × (drop (length xs - 1) xs ≡ i ∷ [])
last_place xs some =
    let n = length xs - 1 in
    let rest : drop (n + 1) xs ≡ [] = nil_from_length (drop (n + 1) xs) (omega (arith, length-drop (n + 1) xs, some)) in
    (get_or xs n 0, drop_more xs n 0 (omega (arith, some)) ∙ ap (λ (ys : List ℕ). get_or xs n 0 ∷ ys) rest)

-- a bag without its last place, where that isn't one of those that were kept
all_but_last : (kept more : List ℕ) → 1 ≤ length more → take (length (kept ++ more) - 1) (kept ++ more) ≡ kept ++ take (length more - 1) more
all_but_last kept more some =
    let size : length (kept ++ more) - 1 ≡ length kept + (length more - 1) = omega (arith, length-append kept more, some) in
    ap (λ (n : ℕ). take n (kept ++ more)) size ∙ take-append-add kept more (length more - 1)

-- what is due of a bag after its last place is called
last_or_none : (xs : List ℕ) → (drop (length xs - 1) xs ≡ []) ⊎ ((i : ℕ) × (drop (length xs - 1) xs ≡ i ∷ []))
last_or_none [] = inl refl
last_or_none (x ∷ xs) = inr (last_place (x ∷ xs) (omega arith))

-- what is due where nothing was
pub record Calls {T : Type 0} (p : ℕ) (w : State T) : Type 0 where
  pub known : p < length w.participants
  pub sound : Sound w
  pub due : ((participant_at w p).due ≡ []) ⊎ ((i : ℕ) × ((participant_at w p).due ≡ i ∷ []))

pub calls_recalled : {T : Type 0} (w : State T) (p : ℕ) → Sound w → p < length w.participants → (participant_at w p).due ≡ [] → Calls p (changing p recalled w)
calls_recalled {T} w p h known idle =
    let r : State T = changing p recalled w in
    let c = (participant_at w p).current in
    let at : participant_at r p ≡ recalled (participant_at w p) = get_or-set_same w.participants p (recalled (participant_at w p)) nobody known in
    let is : (participant_at r p).due ≡ drop (length c - 1) c = ap (λ (m : ParticipantState). m.due) at ∙ ap (λ (ds : List ℕ). drop (length c - 1) c ++ ds) idle ∙ append-nil _ in
    record {
      known = omega (arith, known, length-set w.participants p (recalled (participant_at w p)));
      sound = sound_recalled w p h known;
      due = elim (last_or_none c) [ inl e ↦ inl (is ∙ e) | inr e ↦ inr (e.0, is ∙ e.1) ];
    }

grows_next : {T : Type 0} (holds : T → List Hold) (w : State T) (p i : ℕ) (is : List ℕ) → Sound w → p < length w.participants → (participant_at w p).due ≡ i ∷ is → Grows p w (due_reclaimed holds p w)
grows_next {T} holds w p i is h known was =
    let r = due_waiting w p i is h known was in
    let u : State T = taken p i is w in
    let at : participant_at u p ≡ left_due is (participant_at w p) = get_or-set_same w.participants p (left_due is (participant_at w p)) nobody known in
    let size : length u.participants ≡ length w.participants = length-set w.participants p (left_due is (participant_at w p)) in
    let all = grows_all u p (held_in holds (value_at w i)) (sound_taken w p i is h known r.0 r.1 was) (omega (arith, known, size)) in
    let whole : Grows p w (due_reclaimed_as holds p (i ∷ is) w) = grows_then p w u (given_all p (held_in holds (value_at w i)) u) (grows_same p w u (ap (λ (m : ParticipantState). m.current) at)) all in
    subst (λ (xs : List ℕ). Grows p w (due_reclaimed_as holds p xs w)) (sym was) whole

-- as far as the reclaiming of what an owner left has come
pub record Undoing {T : Type 0} (holds : T → List Hold) (p : ℕ) (h : Hold) (w v : State T) : Type 0 where
  pub known : p < length v.participants
  pub size : length v.participants ≡ length w.participants
  pub sound : Sound v
  pub idle : (participant_at v p).due ≡ []
  pub count : v.count ≡ w.count
  pub places : length v.states ≡ length w.states
  pub cells : length v.cells ≡ length w.cells
  pub kept : (j : ℕ) → (value_at v j ≡ value_at w j) ⊎ (value_at v j ≡ None)
  pub calm : calm (participant_at v p) ≡ calm (participant_at w p)
  pub others : (k : ℕ) → k ≢ p → participant_at v k ≡ participant_at w k
  pub turns : ℕ
  pub now : v ≡ undone_times holds p turns (given p h w)
  pub more : List ℕ
  pub current : (participant_at v p).current ≡ (participant_at w p).current ++ more

pub undoing_start : {T : Type 0} (holds : T → List Hold) (p : ℕ) (h : Hold) (w v : State T) → v ≡ given p h w → Sound w → p < length w.participants → (participant_at w p).due ≡ [] → Undoing holds p h w v
undoing_start {T} holds p h w v e sound known idle =
    let g = gives_given w p h sound known in
    let grown = grows_given w p h sound known in
    let start : Undoing holds p h w (given p h w) = record {
      known = omega (arith, g.known, known);
      size = g.known;
      sound = g.sound;
      idle = g.due ∙ idle;
      count = g.count;
      places = g.places;
      cells = g.cells;
      kept = λ j. inl (ap (λ (vs : List (Option T)). get_or vs j None) g.values);
      calm = g.calm;
      others = g.others;
      turns = 0;
      now = refl;
      more = grown.0;
      current = grown.1;
    } in
    subst (λ (x : State T). Undoing holds p h w x) (sym e) start

pub undoing_next : {T : Type 0} (holds : T → List Hold) (p : ℕ) (h : Hold) (w v v' : State T) → Undoing holds p h w v → length (participant_at w p).current < length (participant_at v p).current → v' ≡ undone holds p v → (sum_by occupied v'.states < sum_by occupied v.states) × Undoing holds p h w v'
undoing_next {T} holds p h w v v' u longer e =
    let c = (participant_at v p).current in
    let r : State T = changing p recalled v in
    let at : participant_at r p ≡ recalled (participant_at v p) = get_or-set_same v.participants p (recalled (participant_at v p)) nobody u.known in
    let size : length r.participants ≡ length v.participants = length-set v.participants p (recalled (participant_at v p)) in
    let last = last_place c (omega (arith, longer)) in
    let due : (participant_at r p).due ≡ last.0 ∷ [] = ap (λ (m : ParticipantState). m.due) at ∙ ap (λ (ds : List ℕ). drop (length c - 1) c ++ ds) u.idle ∙ append-nil _ ∙ last.1 in
    let sr = sound_recalled v p u.sound u.known in
    let kr : p < length r.participants = omega (arith, size, u.known) in
    let x = reclaims_next holds r p last.0 [] sr kr due in
    let grown = grows_next holds r p last.0 [] sr kr due in
    let some : 1 ≤ length u.more = omega (arith, longer, ap length u.current, length-append (participant_at w p).current u.more) in
    let cut : (participant_at r p).current ≡ (participant_at w p).current ++ take (length u.more - 1) u.more = ap (λ (m : ParticipantState). m.current) at ∙ ap (λ (ys : List ℕ). take (length ys - 1) ys) u.current ∙ all_but_last (participant_at w p).current u.more some in
    let next : Undoing holds p h w (undone holds p v) = record {
      known = omega (arith, x.known, kr);
      size = x.known ∙ size ∙ u.size;
      sound = x.sound;
      idle = x.due;
      count = x.count ∙ u.count;
      places = x.places ∙ u.places;
      cells = x.cells ∙ u.cells;
      kept = λ j. elim (eqb_tells j last.0) [
        | inl t ↦ let P : ℕ → Type 0 = λ k. (value_at (undone holds p v) k ≡ value_at w k) ⊎ (value_at (undone holds p v) k ≡ None) in let here : P last.0 = inr x.gone in subst P (sym t.1) here
        | inr t ↦ elim (u.kept j) [ inl e ↦ inl (x.stays j t.1 ∙ e) | inr e ↦ inr (x.stays j t.1 ∙ e) ]
      ];
      calm = x.calm ∙ ap calm at ∙ u.calm;
      others = λ k n. x.others k n ∙ get_or-set_other v.participants p k (recalled (participant_at v p)) nobody n ∙ u.others k n;
      turns = suc u.turns;
      now = ap (λ (s : State T). undone holds p s) u.now;
      more = take (length u.more - 1) u.more ++ grown.0;
      current = grown.1 ∙ ap (λ (ys : List ℕ). ys ++ grown.0) cut ∙ append_assoc (participant_at w p).current (take (length u.more - 1) u.more) grown.0;
    } in
    let less : sum_by occupied (undone holds p v).states < sum_by occupied v.states = omega (arith, x.occupied) in
    subst (λ (s : State T). (sum_by occupied s.states < sum_by occupied v.states) × Undoing holds p h w s) (sym e) (less, next)

same_participant : (a b : ParticipantState) → a.local ≡ b.local → a.current ≡ b.current → a.prior ≡ b.prior → a.oldest ≡ b.oldest → a.due ≡ b.due → a ≡ b
same_participant a b e f g h i =
    ap (λ (x : LocalState). record a { local = x }) e ∙ ap (λ (x : List ℕ). record a { local = b.local; current = x }) f ∙ ap (λ (x : List ℕ). record a { local = b.local; current = b.current; prior = x }) g
    ∙ ap (λ (x : List ℕ). record a { local = b.local; current = b.current; prior = b.prior; oldest = x }) h ∙ ap (λ (x : List ℕ). record b { due = x }) i

-- where nothing more waits, only the items and cells have changed
pub record Undone {T : Type 0} (holds : T → List Hold) (h : Hold) (w w' : State T) : Type 0 where
  pub dropped : Dropped holds h w w'
  pub place : IsPlace w'

pub undoing_end : {T : Type 0} (holds : T → List Hold) (h : Hold) (w v v' w' : State T) (m : LocalState) → IsPlace w → Undoing holds 0 h w v → length (participant_at v 0).current ≤ length (participant_at w 0).current → v' ≡ v → m ≡ local_at w 0 → w' ≡ with_local 0 m v' → Undone holds h w w'
undoing_end {T} holds h w v v' w' m place u short f k to =
    let e : w' ≡ with_local 0 (local_at w 0) v = to ∙ ap (λ (n : LocalState). with_local 0 n v') k ∙ ap (λ (s : State T). with_local 0 (local_at w 0) s) f in
    let x : State T = with_local 0 (local_at w 0) v in
    let at : participant_at x 0 ≡ with_local_state (local_at w 0) (participant_at v 0) = get_or-set_same v.participants 0 (with_local_state (local_at w 0) (participant_at v 0)) nobody u.known in
    let none : u.more ≡ [] = nil_from_length u.more (omega (arith, short, ap length u.current, length-append (participant_at w 0).current u.more)) in
    let bag : (participant_at v 0).current ≡ (participant_at w 0).current = u.current ∙ ap (λ (ys : List ℕ). (participant_at w 0).current ++ ys) none ∙ append-nil _ in
    let mine : participant_at x 0 ≡ participant_at w 0 = at ∙ same_participant (with_local_state (local_at w 0) (participant_at v 0)) (participant_at w 0) refl bag (ap (λ (k : Calm). k.prior) u.calm) (ap (λ (k : Calm). k.oldest) u.calm) (u.idle ∙ sym (place.idle 0)) in
    let size : length x.participants ≡ length w.participants = length-set v.participants 0 (with_local_state (local_at w 0) (participant_at v 0)) ∙ u.size in
    let each : (k : ℕ) → participant_at x k ≡ participant_at w k = λ k. elim (eqb_tells k 0) [
      | inl t ↦ let P : ℕ → Type 0 = λ j. participant_at x j ≡ participant_at w j in subst P (sym t.1) mine
      | inr t ↦ get_or-set_other v.participants 0 k (with_local_state (local_at w 0) (participant_at v 0)) nobody t.1 ∙ u.others k t.1
    ] in
    let all : x.participants ≡ w.participants = ext_get_or nobody x.participants w.participants size (λ i lt. each i) in
    let whole : Undone holds h w x = record {
      dropped = record {
        turns = u.turns;
        now = ap (λ (s : State T). with_local 0 (local_at w 0) s) u.now;
        participants = all;
        count = u.count;
        states = u.places;
        cells = u.cells;
        kept = λ j used. elim (u.kept j) [ inl s ↦ s | inr s ↦ absurd (false≢true (sym (ap is_some s) ∙ u.sound.filled j ∙ used)) ];
      };
      place = record {
        sound = sound_local v 0 (local_at w 0) u.sound u.known;
        some = omega (arith, size, place.some);
        idle = λ k. ap (λ (m : ParticipantState). m.due) (each k) ∙ place.idle k;
        past = λ k. omega (arith, ap (λ (m : ParticipantState). m.local.previous) (each k), place.past k, u.count);
        began = λ k o. omega (arith, ap (λ (m : ParticipantState). m.local.published) (each k), place.began k (omega (arith, o, ap (λ (m : ParticipantState). m.local.nesting) (each k))), u.count);
        near = λ k o. omega (arith, ap (λ (m : ParticipantState). m.local.published) (each k), place.near k (omega (arith, o, ap (λ (m : ParticipantState). m.local.nesting) (each k))), u.count);
      };
    } in
    subst (λ (s : State T). Undone holds h w s) (sym e) whole
