-- what each call leaves alone
use Rattle.std.proofs.Common.{◌≡◌, ◌≢◌, ℕ, ◌+◌, ◌-◌, ◌<◌, ◌≤◌, ◌==◌, ◌&&◌, Bool, true, false, Option, None, Some, List, [], ◌∷◌, length, get_or, set, refl, sym, ap, ◌∙◌, arith, length-set, subst, cond, get_or-set_same, get_or-set_other, inl, inr, is_some, ltb}
use Rattle.std.specs.List.{list_all, sum_by}
use Rattle.std.proofs.lemmas.Bool.{false≢true}
use Rattle.std.proofs.lemmas.Bool.Decides.{eqb_tells}
use Rattle.sdd_table.specs.Holding.{Hold}
use Rattle.sdd_table.specs.State.{State, ParticipantState, mark_of, nobody, status_at, value_at, participant_at, local_at, is_used, weight, with_local, with_local_state, with_status, placed, with_cell, raised, is_present}
use Rattle.sdd_table.specs.Steps.{times, count_published, participant_rotated, guard_opened, guard_closed, scanned, scans, closings_after}
use Rattle.sdd_table.specs.Place.{AddsOwners, Sound, IsPlace, IsOpen, IsShared, IsOwnedCell, IsSharedCell, IsRawCell, held_times}
use Rattle.sdd_table.specs.declared.tag.Tag.{Tag}
use Rattle.sdd_table.specs.declared.status.Cell.TheVariants as cell
use Rattle.sdd_table.specs.Frame.{has_owner, IsLive, Protects, Frame, OnlyParticipant, SameNesting, IsRun, last_of}
use Rattle.sdd_table.specs.declared.status.Status.{Status}
use Rattle.sdd_table.specs.declared.status.Status.TheVariants as status
use Rattle.sdd_table.specs.declared.status.LocalState.{LocalState}
use Rattle.sdd_table.proofs.BagInvariantLemmas.{Gives, Leaves, leaves, Calms, calms, Calm, bag_waits, weight_same}
use Rattle.sdd_table.proofs.KeepingLemmas.{adds_at, adds_only, adds_places}
use Rattle.sdd_table.proofs.SlotLemmas.{at_most}
use Rattle.sdd_table.proofs.PlaceLemmas.{calm_at, place_leaves, rotates, place_begun}

pub keeps_refl : {T : Type 0} (w : State T) → Frame w w
keeps_refl w = record { states = refl; cells = refl; participants = refl; lives = λ i l. refl; protects = λ q i o o' h. (refl, h) }

-- the same of equal states
pub kept : {T : Type 0} (w v x y : State T) → w ≡ v → x ≡ y → Frame w y → Frame v x
kept {T} w v x y e f h = subst (λ (s : State T). Frame s x) e (subst (λ (s : State T). Frame w s) (sym f) h)

pub only_of : {T : Type 0} (p : ℕ) (w v x y : State T) → w ≡ v → x ≡ y → OnlyParticipant p w y → OnlyParticipant p v x
only_of {T} p w v x y e f h = subst (λ (s : State T). OnlyParticipant p s x) e (subst (λ (s : State T). OnlyParticipant p w s) (sym f) h)

pub is_place : {T : Type 0} (x y : State T) → x ≡ y → IsPlace y → IsPlace x
is_place {T} x y f h = subst (λ (s : State T). IsPlace s) (sym f) h

pub keeps_leaves : {T : Type 0} (p : ℕ) (w w' : State T) → Sound w → Leaves p w w' → Frame w w'
keeps_leaves {T} p w w' h g =
    let same : (i : ℕ) → value_at w' i ≡ value_at w i = λ i. ap (λ (vs : List (Option T)). get_or vs i None) g.values in
    record {
      states = g.places;
      cells = g.cells;
      participants = g.known;
      lives = λ i l. same i;
      protects = λ q i o o' k.
          let published = ap (λ (c : Calm). c.published) (calm_at p w w' (calms p w w' g) q) in (
            same i,
            record {
              used = sym (g.sound.filled i) ∙ ap is_some (same i) ∙ h.filled i ∙ k.used;
              prior = λ j some.
                  let c = calm_at p w w' (calms p w w' g) j in
                  let bag = ap (λ (c : Calm). times i c.prior) c in
                  let previous = ap (λ (c : Calm). c.previous) c in
                  omega (arith, published, previous, k.prior j (omega (arith, some, bag)));
              oldest = λ j some.
                  let c = calm_at p w w' (calms p w w' g) j in
                  let bag = ap (λ (c : Calm). times i c.oldest) c in
                  let previous = ap (λ (c : Calm). c.previous) c in
                  omega (arith, published, previous, k.oldest j (omega (arith, some, bag)));
              noted = λ n b e. omega (arith, published, k.noted n b (g.noted i n b e));
            },
          );
    }

-- what leaves a participant calm leaves its guards
pub nests_calms : {T : Type 0} (p : ℕ) (w v x y : State T) → w ≡ v → x ≡ y → Calms p w y → (q : ℕ) → (local_at x q).nesting ≡ (local_at v q).nesting
nests_calms {T} p w v x y e f g q = ap (λ (s : State T). (local_at s q).nesting) f ∙ ap (λ (c : Calm). c.nesting) (calm_at p w y g q) ∙ ap (λ (s : State T). (local_at s q).nesting) e

-- what a call of participant p keeps of a place
pub record Keeps {T : Type 0} (p : ℕ) (w w' : State T) : Type 0 where
  pub place : IsPlace w'
  pub frame : Frame w w'
  pub only : OnlyParticipant p w w'
  pub nests : SameNesting w w'

-- so of the place that is seen, where w is seen as u
pub keeps_seen : {T : Type 0} (p : ℕ) (u w x y : State T) → w ≡ u → x ≡ y → IsPlace w → p < length u.participants → (p < length w.participants → Leaves p w y) → Keeps p u x
keeps_seen {T} p u w x y e f h known does =
    let g : Leaves p w y = does (subst (λ (s : State T). p < length s.participants) (sym e) known) in
    record {
      place = is_place x y f (place_leaves w y p h g);
      frame = kept w u x y e f (keeps_leaves p w y h.sound g);
      only = only_of p w u x y e f g.others;
      nests = nests_calms p w u x y e f (calms p w y g);
    }

pub keeps_gives : {T : Type 0} (p : ℕ) (w w' : State T) → Sound w → Gives p w w' → Frame w w'
keeps_gives p w w' h g = keeps_leaves p w w' h (leaves p w w' g)

-- the local state of p is another: an open guard publishes the same, and what was found before doesn't fall
pub keeps_local : {T : Type 0} (w : State T) (p : ℕ) (k : LocalState) → p < length w.participants → (IsOpen w p → k.published ≡ (local_at w p).published) → (local_at w p).previous ≤ k.previous → Frame w (with_local p k w)
keeps_local {T} w p k known same rises =
    let w' : State T = with_local p k w in
    let at : participant_at w' p ≡ with_local_state k (participant_at w p) = get_or-set_same w.participants p (with_local_state k (participant_at w p)) nobody known in
    let other : (j : ℕ) → j ≢ p → participant_at w' j ≡ participant_at w j = λ j n. get_or-set_other w.participants p j (with_local_state k (participant_at w p)) nobody n in
    record {
      states = refl;
      cells = refl;
      participants = length-set w.participants p (with_local_state k (participant_at w p));
      lives = λ i l. refl;
      protects = λ q i o o' h.
          let published : (local_at w' q).published ≡ (local_at w q).published = elim (eqb_tells q p) [
            | inl t ↦ let P : ℕ → Type 0 = λ j. IsOpen w j → (local_at w' j).published ≡ (local_at w j).published in let here : P p = λ x. ap (λ (m : ParticipantState). m.local.published) at ∙ same x in subst P (sym t.1) here o
            | inr t ↦ ap (λ (m : ParticipantState). m.local.published) (other q t.1)
          ] in (
            refl,
            record {
              used = h.used;
              prior = λ j some. elim (eqb_tells j p) [
                | inl t ↦
                    let P : ℕ → Type 0 = λ x. 1 ≤ times i (participant_at w' x).prior → (local_at w' q).published ≤ (local_at w' x).previous in
                    let here : P p = λ s. let bag = ap (λ (m : ParticipantState). times i m.prior) at in let previous = ap (λ (m : ParticipantState). m.local.previous) at in omega (arith, published, previous, rises, h.prior p (omega (arith, s, bag))) in
                    subst P (sym t.1) here some
                | inr t ↦ let bag = ap (λ (m : ParticipantState). times i m.prior) (other j t.1) in let previous = ap (λ (m : ParticipantState). m.local.previous) (other j t.1) in omega (arith, published, previous, h.prior j (omega (arith, some, bag)))
              ];
              oldest = λ j some. elim (eqb_tells j p) [
                | inl t ↦
                    let P : ℕ → Type 0 = λ x. 1 ≤ times i (participant_at w' x).oldest → (local_at w' q).published < (local_at w' x).previous in
                    let here : P p = λ s. let bag = ap (λ (m : ParticipantState). times i m.oldest) at in let previous = ap (λ (m : ParticipantState). m.local.previous) at in omega (arith, published, previous, rises, h.oldest p (omega (arith, s, bag))) in
                    subst P (sym t.1) here some
                | inr t ↦ let bag = ap (λ (m : ParticipantState). times i m.oldest) (other j t.1) in let previous = ap (λ (m : ParticipantState). m.local.previous) (other j t.1) in omega (arith, published, previous, h.oldest j (omega (arith, some, bag)))
              ];
              noted = λ n b e. omega (arith, published, h.noted n b e);
            },
          );
    }

pub only_local : {T : Type 0} (w : State T) (p : ℕ) (k : LocalState) → OnlyParticipant p w (with_local p k w)
only_local w p k = λ j n. get_or-set_other w.participants p j (with_local_state k (participant_at w p)) nobody n

-- a live item is in no bag
pub live_light : (s : Status) → has_owner s ≡ true → weight s ≡ 0
live_light status.Free h = refl
live_light status.Owned h = refl
live_light (status.Shared n) h = refl
live_light status.Raw h = refl
live_light (status.Collected n b) h = refl
live_light status.Retired h = absurd (false≢true h)
live_light status.Idle h = refl
live_light status.Deferred h = absurd (false≢true h)

pub live_used : (s : Status) → has_owner s ≡ true → is_used s ≡ true
live_used status.Free h = h
live_used status.Owned h = refl
live_used (status.Shared n) h = refl
live_used status.Raw h = refl
live_used (status.Collected n b) h = refl
live_used status.Retired h = refl
live_used status.Idle h = h
live_used status.Deferred h = h

-- an outermost opening that rotates
pub keeps_turned : {T : Type 0} (holds : T → List Hold) (w : State T) (p : ℕ) → IsPlace w → p < length w.participants → (local_at w p).nesting ≡ 0 → (local_at w p).previous ≢ w.count → Frame w (participant_rotated holds p (count_published p w)) × OnlyParticipant p w (participant_rotated holds p (count_published p w))
keeps_turned {T} holds w p h known closed' differs =
    let k : LocalState = record (local_at w p) { nesting = 1; published = w.count; previous = w.count; accelerated = false } in
    let b : State T = count_published p w in
    let hb = place_begun w p h known in
    let atb : participant_at b p ≡ with_local_state k (participant_at w p) = get_or-set_same w.participants p (with_local_state k (participant_at w p)) nobody known in
    let otherb : (j : ℕ) → j ≢ p → participant_at b j ≡ participant_at w j = λ j n. get_or-set_other w.participants p j (with_local_state k (participant_at w p)) nobody n in
    let sizeb : length b.participants ≡ length w.participants = length-set w.participants p (with_local_state k (participant_at w p)) in
    let r = rotates holds b p hb (omega (arith, sizeb)) in
    let w' : State T = participant_rotated holds p b in
    let other : (j : ℕ) → j ≢ p → participant_at w' j ≡ participant_at w j = λ j n. r.others j n ∙ otherb j n in
    let behind : (local_at w p).previous < w.count = omega (arith, h.past p, differs) in
    let previous : (local_at w' p).previous ≡ w.count = r.previous ∙ ap (λ (m : ParticipantState). m.local.previous) atb in
    let prior : (i : ℕ) → times i (participant_at w' p).prior ≡ times i (participant_at w p).current = λ i. ap (times i) (r.prior ∙ ap (λ (m : ParticipantState). m.current) atb) in
    let oldest : (i : ℕ) → times i (participant_at w' p).oldest ≡ times i (participant_at w p).prior = λ i. ap (times i) (r.oldest ∙ ap (λ (m : ParticipantState). m.prior) atb) in
    let stays : (i : ℕ) → times i (participant_at w p).oldest ≡ 0 → value_at w' i ≡ value_at w i = λ i none. r.stays i (ap (λ (m : ParticipantState). times i m.oldest) atb ∙ none) in (
      record {
        states = r.places;
        cells = r.cells;
        participants = r.known ∙ sizeb;
        lives = λ i l. stays i (let bag = bag_waits w p i h.sound known in let light = live_light (status_at w i) l in omega (arith, bag, light));
        protects = λ q i o o' g.
            let apart : q ≢ p = λ e. let P : ℕ → Type 0 = λ j. 0 < (local_at w j).nesting in let x : P p = subst P e o in absurd (omega (arith, x, closed')) in
            let published = ap (λ (m : ParticipantState). m.local.published) (other q apart) in
            let out : times i (participant_at w p).oldest ≡ 0 = elim (eqb_tells (times i (participant_at w p).oldest) 0) [
              | inl t ↦ t.1
              | inr t ↦ absurd (omega (arith, g.oldest p (omega (arith, t.1)), behind, h.near q o))
            ] in (
              stays i out,
              record {
                used = sym (r.place.sound.filled i) ∙ ap is_some (stays i out) ∙ h.sound.filled i ∙ g.used;
                prior = λ j some. elim (eqb_tells j p) [
                  | inl t ↦
                      let P : ℕ → Type 0 = λ x. (local_at w' q).published ≤ (local_at w' x).previous in
                      let here : P p = omega (arith, published, previous, h.began q o) in
                      subst P (sym t.1) here
                  | inr t ↦ let bag = ap (λ (m : ParticipantState). times i m.prior) (other j t.1) in let before = ap (λ (m : ParticipantState). m.local.previous) (other j t.1) in omega (arith, published, before, g.prior j (omega (arith, some, bag)))
                ];
                oldest = λ j some. elim (eqb_tells j p) [
                  | inl t ↦
                      let P : ℕ → Type 0 = λ x. 1 ≤ times i (participant_at w' x).oldest → (local_at w' q).published < (local_at w' x).previous in
                      let here : P p = λ s. omega (arith, published, previous, behind, g.prior p (omega (arith, s, oldest i))) in
                      subst P (sym t.1) here some
                  | inr t ↦ let bag = ap (λ (m : ParticipantState). times i m.oldest) (other j t.1) in let before = ap (λ (m : ParticipantState). m.local.previous) (other j t.1) in omega (arith, published, before, g.oldest j (omega (arith, some, bag)))
                ];
                noted = λ n b e. omega (arith, published, g.noted n b (r.noted i n b e));
              },
            );
      },
      other,
    )

pub keeps_opened : {T : Type 0} (holds : T → List Hold) (w : State T) (p : ℕ) → IsPlace w → p < length w.participants → Frame w (guard_opened holds p w) × OnlyParticipant p w (guard_opened holds p w)
keeps_opened {T} holds w p h known =
    let m = local_at w p in
    let b : State T = count_published p w in
    let n : State T = with_local p (record m { nesting = m.nesting + 1 }) w in
    let G : State T → Type 0 = λ x. Frame w x × OnlyParticipant p w x in
    elim (eqb_tells m.nesting 0) [
      | inl t ↦ subst (λ (c : Bool). G (cond c (cond (m.previous == w.count) b (participant_rotated holds p b)) n)) (sym t.0)
          (elim (eqb_tells m.previous w.count) [
            | inl s ↦ subst (λ (c : Bool). G (cond c b (participant_rotated holds p b))) (sym s.0) (keeps_local w p _ known (λ o. absurd (omega (arith, o, t.1))) (h.past p), only_local w p _)
            | inr s ↦ subst (λ (c : Bool). G (cond c b (participant_rotated holds p b))) (sym s.0) (keeps_turned holds w p h known t.1 s.1)
          ])
      | inr t ↦ subst (λ (c : Bool). G (cond c (cond (m.previous == w.count) b (participant_rotated holds p b)) n)) (sym t.0) (keeps_local w p _ known (λ o. refl) (omega arith), only_local w p _)
    ]

pub keeps_closed : {T : Type 0} (w : State T) (p : ℕ) → p < length w.participants → Frame w (guard_closed p w) × OnlyParticipant p w (guard_closed p w)
keeps_closed {T} w p known =
    let m = local_at w p in
    let G : State T → Type 0 = λ x. Frame w x × OnlyParticipant p w x in
    let by : (k : LocalState) → k.published ≡ m.published → k.previous ≡ m.previous → G (with_local p k w) = λ k e f. (keeps_local w p k known (λ o. e) (omega (arith, f)), only_local w p k) in
    let up : (k : LocalState) → G (with_local p k w) → G (with_local p k (raised w)) = λ k g. (record { states = g.0.states; cells = g.0.cells; participants = g.0.participants; lives = g.0.lives; protects = λ q i o o' h. let x = g.0.protects q i o o' h in (x.0, record { used = x.1.used; prior = x.1.prior; oldest = x.1.oldest; noted = x.1.noted }) }, g.1) in
    let k1 : LocalState = record m { nesting = 0; closings = 0 } in
    let k2 : LocalState = record m { nesting = 0; closings = closings_after m } in
    let k3 : LocalState = record m { nesting = m.nesting - 1 } in
    let yes : G (with_local p k1 (scanned w)) = elim (list_all (is_present w.count) w.participants && ltb w.count 18446744073709551615) as (λ c. G (with_local p k1 (cond c (raised w) w))) [ true ↦ up k1 (by k1 refl refl) | false ↦ by k1 refl refl ] in
    let outer : G (cond (scans m) (with_local p k1 (scanned w)) (with_local p k2 w)) = elim (scans m) as (λ c. G (cond c (with_local p k1 (scanned w)) (with_local p k2 w))) [ true ↦ yes | false ↦ by k2 refl refl ] in
    elim (m.nesting == 1) as (λ c. G (cond c (cond (scans m) (with_local p k1 (scanned w)) (with_local p k2 w)) (with_local p k3 w))) [ true ↦ outer | false ↦ by k3 refl refl ]

-- an item in a slot that was free
pub place_placed : {T : Type 0} (w : State T) (i : ℕ) (v : T) (s : Status) → IsPlace w → i < length w.states → status_at w i ≡ status.Free → weight s ≡ 0 → is_used s ≡ true → IsPlace (placed i v s w)
place_placed {T} w i v s h inside was light used =
    let within : i < length w.values = omega (arith, h.sound.sizes, inside) in
    record {
      sound = record {
        sizes = length-set w.values i (Some v) ∙ h.sound.sizes ∙ sym (length-set w.states i s);
        once = λ j. h.sound.once j ∙ sym (weight_same w.states i j s inside (light ∙ sym (ap weight was)));
        filled = λ j. elim (eqb_tells j i) [
          | inl t ↦
              let P : ℕ → Type 0 = λ k. is_some (get_or (set w.values i (Some v)) k None) ≡ is_used (get_or (set w.states i s) k status.Free) in
              let here : P i = ap is_some (get_or-set_same w.values i (Some v) None within) ∙ sym (ap is_used (get_or-set_same w.states i s status.Free inside) ∙ used) in
              subst P (sym t.1) here
          | inr t ↦ ap is_some (get_or-set_other w.values i j (Some v) None t.1) ∙ h.sound.filled j ∙ sym (ap is_used (get_or-set_other w.states i j s status.Free t.1))
        ];
      };
      some = h.some;
      idle = h.idle;
      past = h.past;
      began = h.began;
      near = h.near;
    }

pub keeps_placed : {T : Type 0} (w : State T) (i : ℕ) (v : T) (s : Status) → status_at w i ≡ status.Free → Frame w (placed i v s w)
keeps_placed {T} w i v s was =
    let far : (j : ℕ) → is_used (status_at w j) ≡ true → j ≢ i = λ j u e. let P : ℕ → Type 0 = λ k. is_used (status_at w k) ≡ true in let x : P i = subst P e u in false≢true (sym (ap is_used was) ∙ x) in
    record {
      states = length-set w.states i s;
      cells = refl;
      participants = refl;
      lives = λ j l. get_or-set_other w.values i j (Some v) None (far j (live_used (status_at w j) l));
      protects = λ q j o o' h.
          let n = far j h.used in
          let same = get_or-set_other w.states i j s status.Free n in
          (get_or-set_other w.values i j (Some v) None n, record { used = ap is_used same ∙ h.used; prior = h.prior; oldest = h.oldest; noted = λ m b e. h.noted m b (sym same ∙ e) });
    }

-- the bags of one participant are among those of all
pub held_within : {T : Type 0} (w : State T) (k i : ℕ) → held_times i (participant_at w k) ≤ sum_by (held_times i) w.participants
held_within w k i = at_most (held_times i) w.participants k nobody (omega arith)

-- a live item is in no bag, and no count is noted of it
pub owned_protected : {T : Type 0} (w : State T) (q i : ℕ) → IsPlace w → IsLive w i → Protects w q i
owned_protected w q i h live =
    let light = live_light (status_at w i) live in
    let out : (k : ℕ) → held_times i (participant_at w k) ≡ 0 = λ k. omega (arith, held_within w k i, h.sound.once i, light) in
    record {
      used = live_used (status_at w i) live;
      prior = λ k some. absurd (omega (arith, some, out k));
      oldest = λ k some. absurd (omega (arith, some, out k));
      noted = λ n b e. absurd (false≢true (sym (ap has_owner e) ∙ live));
    }

pub stays_until_closed : {T : Type 0} (q i : ℕ) (w : State T) (later : List (State T)) → IsOpen w q → Protects w q i → IsRun q w later → value_at (last_of w later) i ≡ value_at w i
stays_until_closed q i w [] opens h run = refl
stays_until_closed q i w (v ∷ vs) opens h run = let s = run.0.protects q i opens run.1 h in stays_until_closed q i v vs run.1 s.1 run.2 ∙ s.0

-- what was opened is open
pub opened_open : {T : Type 0} (holds : T → List Hold) (w : State T) (p : ℕ) → IsPlace w → p < length w.participants → IsOpen (guard_opened holds p w) p
opened_open {T} holds w p h known =
    let m = local_at w p in
    let k : LocalState = record m { nesting = 1; published = w.count; previous = w.count; accelerated = false } in
    let b : State T = count_published p w in
    let n : State T = with_local p (record m { nesting = m.nesting + 1 }) w in
    let kb : p < length b.participants = omega (arith, length-set w.participants p (with_local_state k (participant_at w p))) in
    let atb : (local_at b p).nesting ≡ 1 = ap (λ (m : ParticipantState). m.local.nesting) (get_or-set_same w.participants p (with_local_state k (participant_at w p)) nobody known) in
    let atn : (local_at n p).nesting ≡ m.nesting + 1 = ap (λ (m : ParticipantState). m.local.nesting) (get_or-set_same w.participants p (with_local_state (record m { nesting = m.nesting + 1 }) (participant_at w p)) nobody known) in
    let first : IsOpen b p = omega (arith, atb) in
    let third : IsOpen (participant_rotated holds p b) p = let r = (rotates holds b p (place_begun w p h known) kb).nesting in omega (arith, r, atb) in
    let outer : IsOpen (cond (m.previous == w.count) b (participant_rotated holds p b)) p = elim (m.previous == w.count) as (λ c. IsOpen (cond c b (participant_rotated holds p b)) p) [ true ↦ first | false ↦ third ] in
    elim (m.nesting == 0) as (λ c. IsOpen (cond c (cond (m.previous == w.count) b (participant_rotated holds p b)) n) p) [ true ↦ outer | false ↦ omega (arith, atn) ]

-- a local state that leaves the nesting leaves it of all
pub nests_local : {T : Type 0} (w : State T) (p : ℕ) (k : LocalState) → p < length w.participants → k.nesting ≡ (local_at w p).nesting → (q : ℕ) → (local_at (with_local p k w) q).nesting ≡ (local_at w q).nesting
nests_local {T} w p k known same q = elim (eqb_tells q p) [
  | inl t ↦ let P : ℕ → Type 0 = λ j. (local_at (with_local p k w) j).nesting ≡ (local_at w j).nesting in let here : P p = ap (λ (m : ParticipantState). m.local.nesting) (get_or-set_same w.participants p (with_local_state k (participant_at w p)) nobody known) ∙ same in subst P (sym t.1) here
  | inr t ↦ ap (λ (m : ParticipantState). m.local.nesting) (get_or-set_other w.participants p q (with_local_state k (participant_at w p)) nobody t.1)
]

-- what was made is there
pub shared_placed : {T : Type 0} (w w' : State T) (i : ℕ) (v : T) → i < length w.states → w' ≡ placed i v (status.Shared 1) w → IsShared w' i
shared_placed {T} w w' i v inside e = subst (λ (x : State T). IsShared x i) (sym e) (record { inside = omega (arith, length-set w.states i (status.Shared 1), inside); owners = 1; is = get_or-set_same w.states i (status.Shared 1) status.Free inside })

pub shared_more : {T : Type 0} (w w' : State T) (i n : ℕ) → i < length w.states → w' ≡ with_status i (status.Shared n) w → IsShared w' i
shared_more {T} w w' i n inside e = subst (λ (x : State T). IsShared x i) (sym e) (record { inside = omega (arith, length-set w.states i (status.Shared n), inside); owners = n; is = get_or-set_same w.states i (status.Shared n) status.Free inside })

pub owned_cell_used : {T : Type 0} (w w' : State T) (c : ℕ) (o : Option ℕ) (t : Tag) → c < length w.cells → w' ≡ with_cell c (cell.OfOwned o t) w → IsOwnedCell w' c
owned_cell_used {T} w w' c o t inside e = subst (λ (x : State T). IsOwnedCell x c) (sym e) (record { inside = omega (arith, length-set w.cells c (cell.OfOwned o t), inside); item = o; tag = t; is = get_or-set_same w.cells c (cell.OfOwned o t) cell.Free inside })

pub shared_cell_used : {T : Type 0} (w w' : State T) (c : ℕ) (o : Option ℕ) (t : Tag) → c < length w.cells → w' ≡ with_cell c (cell.OfShared o t) w → IsSharedCell w' c
shared_cell_used {T} w w' c o t inside e = subst (λ (x : State T). IsSharedCell x c) (sym e) (record { inside = omega (arith, length-set w.cells c (cell.OfShared o t), inside); item = o; tag = t; is = get_or-set_same w.cells c (cell.OfShared o t) cell.Free inside })

pub raw_cell_used : {T : Type 0} (w w' : State T) (c : ℕ) (o : Option ℕ) (t : Tag) → c < length w.cells → w' ≡ with_cell c (cell.OfRaw o t) w → IsRawCell w' c
raw_cell_used {T} w w' c o t inside e = subst (λ (x : State T). IsRawCell x c) (sym e) (record { inside = omega (arith, length-set w.cells c (cell.OfRaw o t), inside); item = o; tag = t; is = get_or-set_same w.cells c (cell.OfRaw o t) cell.Free inside })

abbrev collected_by : Option (ℕ × ℕ) → Status
collected_by None = status.Free
collected_by (Some m) = status.Collected m.0 m.1

marked : (s : Status) (n b : ℕ) → mark_of s ≡ Some (n, b) → s ≡ status.Collected n b
marked status.Free n b e = absurd (cc)
marked status.Owned n b e = absurd (cc)
marked (status.Shared k) n b e = absurd (cc)
marked status.Raw n b e = absurd (cc)
marked (status.Collected m c) n b e = ap collected_by e
marked status.Retired n b e = absurd (cc)
marked status.Idle n b e = absurd (cc)
marked status.Deferred n b e = absurd (cc)

-- items have more owners
pub keeps_added : {T : Type 0} (is : List ℕ) (w w' : State T) → AddsOwners is w w' → Frame w w'
keeps_added {T} is w w' h =
    let v : State T = record w { states = w'.states } in
    let used = adds_at is_used (λ n. refl) is w w' h in
    let marks = adds_at mark_of (λ n. refl) is w w' h in
    let frame : Frame w v = record {
      states = adds_places is w w' h;
      cells = refl;
      participants = refl;
      lives = λ i l. refl;
      protects = λ q i o o' k. (refl, record { used = used i ∙ k.used; prior = k.prior; oldest = k.oldest; noted = λ n b e. k.noted n b (marked (status_at w i) n b (sym (marks i) ∙ ap mark_of e)) });
    } in
    subst (Frame w) (sym (adds_only is w w' h)) frame

pub place_added : {T : Type 0} (is : List ℕ) (w w' : State T) → AddsOwners is w w' → IsPlace w → IsPlace w'
place_added {T} is w w' h p =
    let place : IsPlace (record w { states = w'.states }) = record {
      sound = record {
        sizes = p.sound.sizes ∙ sym (adds_places is w w' h);
        once = λ j. p.sound.once j ∙ sym (adds_at weight (λ n. refl) is w w' h j);
        filled = λ j. p.sound.filled j ∙ sym (adds_at is_used (λ n. refl) is w w' h j);
      };
      some = p.some;
      idle = p.idle;
      past = p.past;
      began = p.began;
      near = p.near;
    } in
    is_place w' (record w { states = w'.states }) (adds_only is w w' h) place
