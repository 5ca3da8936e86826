-- each call leaves a place of one thread
use Rattle.std.proofs.Common.{◌≡◌, ◌≢◌, ℕ, zero, suc, ◌+◌, ◌-◌, ◌<◌, ◌≤◌, ◌==◌, ◌&&◌, Bool, true, false, List, [], ◌∷◌, ◌++◌, length, get_or, refl, sym, ap, ◌∙◌, arith, length-set, subst, reverse, cond, get_or-set_same, get_or-set_other, inl, inr, not, None, ltb, replicate, is_some}
use Rattle.std.specs.List.{list_all, sum_by}
use Rattle.std.proofs.lemmas.Bool.{false≢true}
use Rattle.std.proofs.lemmas.Bool.Decides.{eqb_tells, nat_tests}
use Rattle.std.proofs.lemmas.List.{length-reverse, length-replicate, length-append}
use Rattle.std.proofs.lemmas.List.Folds.{sum_by-replicate}
use Rattle.sdd_table.specs.Holding.{Hold}
use Rattle.sdd_table.specs.State.{State, ParticipantState, participant_at, nobody, bags_moved_on, rotated_bags, with_local, with_local_state, weight, status_at, value_at, is_used, local_at, raised, is_present, fresh, occupied}
use Rattle.sdd_table.specs.Steps.{times, reclaimed, participant_rotated, count_published, guard_opened, guard_closed, scanned, bags_empty, scans, closings_after}
use Rattle.sdd_table.specs.Place.{IsPlace, IsOpen, held_times}
use Rattle.sdd_plain.specs.declared.sizes.Sizes.{Sizes}
use Rattle.sdd_table.specs.declared.status.Status.TheVariants as status
use Rattle.sdd_plain.specs.declared.local_state.LocalState.{LocalState}
use Rattle.sdd_table.proofs.BagInvariantLemmas.{sound_turned, sound_local, times_reversed, Gives, Leaves, leaves, Calms, calms, Calm, calm, runs_out}

-- what giving leaves of every participant
pub calm_at : {T : Type 0} (p : ℕ) (w w' : State T) → Calms p w w' → (k : ℕ) → calm (participant_at w' k) ≡ calm (participant_at w k)
calm_at p w w' g k =
    elim (eqb_tells k p) [
      | inl t ↦ let P : ℕ → Type 0 = λ j. calm (participant_at w' j) ≡ calm (participant_at w j) in let here : P p = g.calm in subst P (sym t.1) here
      | inr t ↦ ap calm (g.others k t.1)
    ]

pub place_calms : {T : Type 0} (w w' : State T) (p : ℕ) → IsPlace w → Calms p w w' → IsPlace w'
place_calms w w' p h g = record {
  sound = g.sound;
  some = omega (arith, g.known, h.some);
  idle = λ k. elim (eqb_tells k p) [
    | inl t ↦ let P : ℕ → Type 0 = λ j. (participant_at w' j).due ≡ [] in let here : P p = g.due ∙ h.idle p in subst P (sym t.1) here
    | inr t ↦ ap (λ (m : ParticipantState). m.due) (g.others k t.1) ∙ h.idle k
  ];
  past = λ k. let same = ap (λ (c : Calm). c.previous) (calm_at p w w' g k) in omega (arith, same, h.past k, g.count);
  began = λ k o.
      let same = ap (λ (c : Calm). c.published) (calm_at p w w' g k) in
      let open' = ap (λ (c : Calm). c.nesting) (calm_at p w w' g k) in
      omega (arith, same, h.began k (omega (arith, o, open')), g.count);
  near = λ k o.
      let same = ap (λ (c : Calm). c.published) (calm_at p w w' g k) in
      let open' = ap (λ (c : Calm). c.nesting) (calm_at p w w' g k) in
      omega (arith, same, h.near k (omega (arith, o, open')), g.count);
}

pub place_leaves : {T : Type 0} (w w' : State T) (p : ℕ) → IsPlace w → Leaves p w w' → IsPlace w'
place_leaves w w' p h g = place_calms w w' p h (calms p w w' g)

pub place_by : {T : Type 0} (w w' : State T) (p : ℕ) → IsPlace w → Gives p w w' → IsPlace w'
place_by w w' p h g = place_leaves w w' p h (leaves p w w' g)

-- the local state of p is another, which keeps the order of counts
pub record Fits {T : Type 0} (w : State T) (k : LocalState) : Type 0 where
  pub past : k.previous ≤ w.count
  pub began : 0 < k.nesting → k.published ≤ w.count
  pub near : 0 < k.nesting → w.count ≤ k.published + 1

pub place_local : {T : Type 0} (w : State T) (p : ℕ) (k : LocalState) → IsPlace w → p < length w.participants → Fits w k → IsPlace (with_local p k w)
place_local {T} w p k h known f =
    let w' : State T = with_local p k w in
    let at : participant_at w' p ≡ with_local_state k (participant_at w p) = get_or-set_same w.participants p (with_local_state k (participant_at w p)) nobody known in
    let other : (j : ℕ) → j ≢ p → participant_at w' j ≡ participant_at w j = λ j n. get_or-set_other w.participants p j (with_local_state k (participant_at w p)) nobody n in
    record {
      sound = sound_local w p k h.sound known;
      some = omega (arith, h.some, length-set w.participants p (with_local_state k (participant_at w p)));
      idle = λ j. elim (eqb_tells j p) [
        | inl t ↦ let P : ℕ → Type 0 = λ i. (participant_at w' i).due ≡ [] in let here : P p = ap (λ (m : ParticipantState). m.due) at ∙ h.idle p in subst P (sym t.1) here
        | inr t ↦ ap (λ (m : ParticipantState). m.due) (other j t.1) ∙ h.idle j
      ];
      past = λ j. elim (eqb_tells j p) [
        | inl t ↦ let P : ℕ → Type 0 = λ i. (local_at w' i).previous ≤ w.count in let here : P p = subst (λ (m : ParticipantState). m.local.previous ≤ w.count) (sym at) f.past in subst P (sym t.1) here
        | inr t ↦ subst (λ (m : ParticipantState). m.local.previous ≤ w.count) (sym (other j t.1)) (h.past j)
      ];
      began = λ j. elim (eqb_tells j p) [
        | inl t ↦ let P : ℕ → Type 0 = λ i. IsOpen w' i → (local_at w' i).published ≤ w.count in let here : P p = subst (λ (m : ParticipantState). 0 < m.local.nesting → m.local.published ≤ w.count) (sym at) f.began in subst P (sym t.1) here
        | inr t ↦ subst (λ (m : ParticipantState). 0 < m.local.nesting → m.local.published ≤ w.count) (sym (other j t.1)) (h.began j)
      ];
      near = λ j. elim (eqb_tells j p) [
        | inl t ↦ let P : ℕ → Type 0 = λ i. IsOpen w' i → w.count ≤ (local_at w' i).published + 1 in let here : P p = subst (λ (m : ParticipantState). 0 < m.local.nesting → w.count ≤ m.local.published + 1) (sym at) f.near in subst P (sym t.1) here
        | inr t ↦ subst (λ (m : ParticipantState). 0 < m.local.nesting → w.count ≤ m.local.published + 1) (sym (other j t.1)) (h.near j)
      ];
    }

-- what a rotation of p leaves
pub record Rotates {T : Type 0} (p : ℕ) (w w' : State T) : Type 0 where
  pub count : w'.count ≡ w.count
  pub stays : (j : ℕ) → times j (participant_at w p).oldest ≡ 0 → value_at w' j ≡ value_at w j
  pub places : length w'.states ≡ length w.states
  pub cells : length w'.cells ≡ length w.cells
  pub known : length w'.participants ≡ length w.participants
  pub prior : (participant_at w' p).prior ≡ (participant_at w p).current
  pub oldest : (participant_at w' p).oldest ≡ (participant_at w p).prior
  pub nesting : (local_at w' p).nesting ≡ (local_at w p).nesting
  pub published : (local_at w' p).published ≡ (local_at w p).published
  pub previous : (local_at w' p).previous ≡ (local_at w p).previous
  pub others : (k : ℕ) → k ≢ p → participant_at w' k ≡ participant_at w k
  pub noted : (i n b : ℕ) → status_at w' i ≡ status.Collected n b → status_at w i ≡ status.Collected n b
  pub occupied : sum_by occupied w'.states + length (participant_at w p).oldest ≡ sum_by occupied w.states
  pub current : (participant_at w p).oldest ≡ [] → (participant_at w' p).current ≡ []
  pub place : IsPlace w'

pub rotates : {T : Type 0} (holds : T → List Hold) (w : State T) (p : ℕ) → IsPlace w → p < length w.participants → Rotates p w (participant_rotated holds p w)
rotates {T} holds w p h known =
    let m = participant_at w p in
    let u : State T = rotated_bags p w in
    let sizeu : length u.participants ≡ length w.participants = length-set w.participants p (bags_moved_on m) in
    let at : participant_at u p ≡ bags_moved_on m = get_or-set_same w.participants p (bags_moved_on m) nobody known in
    let due : (participant_at u p).due ≡ reverse m.oldest = ap (λ (m : ParticipantState). m.due) at in
    let o = runs_out holds p (length m.oldest) u (participant_at u p).due refl (ap length due ∙ length-reverse m.oldest) (sound_turned w p h.sound known (h.idle p)) (omega (arith, sizeu)) in
    let r : State T = reclaimed holds p (length m.oldest) u in
    let othersr : (k : ℕ) → k ≢ p → participant_at r k ≡ participant_at w k = λ k n. o.others k n ∙ get_or-set_other w.participants p k (bags_moved_on m) nobody n in
    let calmr : calm (participant_at r p) ≡ calm (bags_moved_on m) = o.calm ∙ ap calm at in
    let nestingr : (local_at r p).nesting ≡ (local_at w p).nesting = ap (λ (c : Calm). c.nesting) calmr in
    let publishedr : (local_at r p).published ≡ (local_at w p).published = ap (λ (c : Calm). c.published) calmr in
    let previousr : (local_at r p).previous ≡ (local_at w p).previous = ap (λ (c : Calm). c.previous) calmr in
    let knownr : p < length r.participants = omega (arith, o.known, sizeu) in
    let placer : IsPlace r = record {
      sound = o.sound;
      some = omega (arith, h.some, o.known, sizeu);
      idle = λ k. elim (eqb_tells k p) [
        | inl t ↦ let P : ℕ → Type 0 = λ j. (participant_at r j).due ≡ [] in let here : P p = o.due in subst P (sym t.1) here
        | inr t ↦ ap (λ (m : ParticipantState). m.due) (othersr k t.1) ∙ h.idle k
      ];
      past = λ k. elim (eqb_tells k p) [
        | inl t ↦ let P : ℕ → Type 0 = λ j. (local_at r j).previous ≤ r.count in let here : P p = omega (arith, previousr, h.past p, o.count) in subst P (sym t.1) here
        | inr t ↦ let same = ap (λ (m : ParticipantState). m.local.previous) (othersr k t.1) in omega (arith, same, h.past k, o.count)
      ];
      began = λ k open'. elim (eqb_tells k p) [
        | inl t ↦ let P : ℕ → Type 0 = λ j. IsOpen r j → (local_at r j).published ≤ r.count in let here : P p = λ x. omega (arith, publishedr, h.began p (omega (arith, x, nestingr)), o.count) in subst P (sym t.1) here open'
        | inr t ↦ let same = ap (λ (m : ParticipantState). m.local.published) (othersr k t.1) in let nest = ap (λ (m : ParticipantState). m.local.nesting) (othersr k t.1) in omega (arith, same, h.began k (omega (arith, open', nest)), o.count)
      ];
      near = λ k open'. elim (eqb_tells k p) [
        | inl t ↦ let P : ℕ → Type 0 = λ j. IsOpen r j → r.count ≤ (local_at r j).published + 1 in let here : P p = λ x. omega (arith, publishedr, h.near p (omega (arith, x, nestingr)), o.count) in subst P (sym t.1) here open'
        | inr t ↦ let same = ap (λ (m : ParticipantState). m.local.published) (othersr k t.1) in let nest = ap (λ (m : ParticipantState). m.local.nesting) (othersr k t.1) in omega (arith, same, h.near k (omega (arith, open', nest)), o.count)
      ];
    } in
    let mark : LocalState = record (local_at r p) { garbage = (local_at r p).garbage && not (bags_empty (participant_at r p)) } in
    let x : State T = with_local p mark r in
    let atx : participant_at x p ≡ with_local_state mark (participant_at r p) = get_or-set_same r.participants p (with_local_state mark (participant_at r p)) nobody knownr in
    record {
      count = o.count;
      stays = λ j none. o.stays j (ap (times j) due ∙ times_reversed j m.oldest ∙ none);
      places = o.places;
      cells = o.cells;
      known = length-set r.participants p (with_local_state mark (participant_at r p)) ∙ o.known ∙ sizeu;
      prior = ap (λ (m : ParticipantState). m.prior) atx ∙ ap (λ (c : Calm). c.prior) calmr;
      oldest = ap (λ (m : ParticipantState). m.oldest) atx ∙ ap (λ (c : Calm). c.oldest) calmr;
      nesting = ap (λ (m : ParticipantState). m.local.nesting) atx ∙ nestingr;
      published = ap (λ (m : ParticipantState). m.local.published) atx ∙ publishedr;
      previous = ap (λ (m : ParticipantState). m.local.previous) atx ∙ previousr;
      others = λ k n. get_or-set_other r.participants p k (with_local_state mark (participant_at r p)) nobody n ∙ othersr k n;
      noted = o.noted;
      occupied = omega (arith, o.occupied, ap length due, length-reverse m.oldest);
      current = λ e. ap (λ (m : ParticipantState). m.current) atx ∙ ap (λ (xs : List ℕ). (participant_at (reclaimed holds p (length xs) u) p).current) e ∙ ap (λ (m : ParticipantState). m.current) at;
      place = place_local r p mark placer knownr (record { past = placer.past p; began = placer.began p; near = placer.near p });
    }

pub place_begun : {T : Type 0} (w : State T) (p : ℕ) → IsPlace w → p < length w.participants → IsPlace (count_published p w)
place_begun w p h known = place_local w p (record (local_at w p) { nesting = 1; published = w.count; previous = w.count; accelerated = false }) h known (record { past = omega arith; began = λ o. omega arith; near = λ o. omega arith })

pub place_opened : {T : Type 0} (holds : T → List Hold) (w : State T) (p : ℕ) → IsPlace w → p < length w.participants → IsPlace (guard_opened holds p w)
place_opened {T} holds w p h known =
    let b : State T = count_published p w in
    let n : State T = with_local p (record (local_at w p) { nesting = (local_at w p).nesting + 1 }) w in
    let first : IsPlace b = place_begun w p h known in
    let kb : p < length b.participants = omega (arith, length-set w.participants p (with_local_state (record (local_at w p) { nesting = 1; published = w.count; previous = w.count; accelerated = false }) (participant_at w p))) in
    let third : IsPlace (participant_rotated holds p b) = (rotates holds b p first kb).place in
    elim (eqb_tells (local_at w p).nesting 0) [
      | inl t ↦ subst (λ (c : Bool). IsPlace (cond c (cond ((local_at w p).previous == w.count) b (participant_rotated holds p b)) n)) (sym t.0)
          (elim ((local_at w p).previous == w.count) as (λ c. IsPlace (cond c b (participant_rotated holds p b))) [ true ↦ first | false ↦ third ])
      | inr t ↦ subst (λ (c : Bool). IsPlace (cond c (cond ((local_at w p).previous == w.count) b (participant_rotated holds p b)) n)) (sym t.0)
          (let some : 0 < (local_at w p).nesting = omega (arith, t.1) in
          place_local w p _ h known (record { past = h.past p; began = λ o. h.began p some; near = λ o. h.near p some }))
    ]

pub first_one : (a b : Bool) → (a && b) ≡ true → a ≡ true
first_one true b e = refl
first_one false b e = e

pub rest_one : (a b : Bool) → (a && b) ≡ true → b ≡ true
rest_one true b e = e
rest_one false b e = absurd (false≢true e)

pub present_one : (n : ℕ) (m : ParticipantState) (b : Bool) → (is_present n m && b) ≡ true → 0 < m.local.nesting → m.local.published ≡ n
present_one n m b e o = let t : is_present n m ≡ true = first_one _ _ e in grind (arith, nat_tests)

pub scanned-count : {T : Type 0} (w : State T) → w.count ≤ (scanned w).count
scanned-count w = elim (list_all (is_present w.count) w.participants && ltb w.count 18446744073709551615) as (λ c. w.count ≤ (cond c (raised w) w).count) [ true ↦ omega arith | false ↦ omega arith ]

-- every open guard published the count
pub all_present : (n : ℕ) (ms : List ParticipantState) (k : ℕ) → list_all (is_present n) ms ≡ true → 0 < (get_or ms k nobody).local.nesting → (get_or ms k nobody).local.published ≡ n
all_present n [] k h o = absurd (omega (arith, o))
all_present n (m ∷ ms) zero h o = present_one n m (list_all (is_present n) ms) h o
all_present n (m ∷ ms) (suc k) h o = all_present n ms k (rest_one (is_present n m) (list_all (is_present n) ms) h) o

pub scanned-known : {T : Type 0} (w : State T) → length (scanned w).participants ≡ length w.participants
scanned-known w = elim (list_all (is_present w.count) w.participants && ltb w.count 18446744073709551615) as (λ c. length (cond c (raised w) w).participants ≡ length w.participants) [ true ↦ refl | false ↦ refl ]

pub place_scanned : {T : Type 0} (w : State T) → IsPlace w → IsPlace (scanned w)
place_scanned {T} w h =
    (elim (list_all (is_present w.count) w.participants && ltb w.count 18446744073709551615) as (λ c. (list_all (is_present w.count) w.participants && ltb w.count 18446744073709551615) ≡ c → IsPlace (cond c (raised w) w)) [
      | true ↦ λ e.
          let all : list_all (is_present w.count) w.participants ≡ true = first_one _ _ e in
          record {
            sound = record { sizes = h.sound.sizes; once = h.sound.once; filled = h.sound.filled };
            some = h.some;
            idle = h.idle;
            past = λ k. omega (arith, h.past k);
            began = λ k o. omega (arith, h.began k o);
            near = λ k o. omega (arith, all_present w.count w.participants k all o);
          }
      | false ↦ λ e. h
    ]) refl

pub place_closed : {T : Type 0} (w : State T) (p : ℕ) → IsPlace w → p < length w.participants → IsOpen w p → IsPlace (guard_closed p w)
place_closed {T} w p h known opens =
    let m = local_at w p in
    let s : State T = scanned w in
    let hs = place_scanned w h in
    let ks : p < length s.participants = omega (arith, scanned-known w) in
    let quiet : (x : State T) (k : LocalState) → k.nesting ≡ 0 → k.previous ≤ x.count → Fits x k = λ x k none less. record { past = less; began = λ o. absurd (omega (arith, o, none)); near = λ o. absurd (omega (arith, o, none)) } in
    let yes : IsPlace (with_local p (record m { nesting = 0; closings = 0 }) s) = place_local s p _ hs ks (quiet s (record m { nesting = 0; closings = 0 }) refl (let a = h.past p in let b = scanned-count w in omega (arith, a, b))) in
    let no : IsPlace (with_local p (record m { nesting = 0; closings = closings_after m }) w) = place_local w p _ h known (quiet w (record m { nesting = 0; closings = closings_after m }) refl (h.past p)) in
    let inner : IsPlace (with_local p (record m { nesting = m.nesting - 1 }) w) = place_local w p _ h known (record { past = h.past p; began = λ o. h.began p opens; near = λ o. h.near p opens }) in
    let outer : IsPlace (cond (scans m) (with_local p (record m { nesting = 0; closings = 0 }) s) (with_local p (record m { nesting = 0; closings = closings_after m }) w)) = elim (scans m) as (λ c. IsPlace (cond c (with_local p (record m { nesting = 0; closings = 0 }) s) (with_local p (record m { nesting = 0; closings = closings_after m }) w))) [ true ↦ yes | false ↦ no ] in
    elim (m.nesting == 1) as (λ c. IsPlace (cond c (cond (scans m) (with_local p (record m { nesting = 0; closings = 0 }) s) (with_local p (record m { nesting = 0; closings = closings_after m }) w)) (with_local p (record m { nesting = m.nesting - 1 }) w))) [ true ↦ outer | false ↦ inner ]

pub get_or-replicate_default : {X : Type 0} (n k : ℕ) (x : X) → get_or (replicate n x) k x ≡ x
get_or-replicate_default zero k x = refl
get_or-replicate_default (suc n) zero x = refl
get_or-replicate_default (suc n) (suc k) x = get_or-replicate_default n k x

-- a place that never had a use
pub fresh_status : (m n j : ℕ) → (weight (get_or (replicate m status.Free ++ replicate n status.Idle) j status.Free) ≡ 0) × (is_used (get_or (replicate m status.Free ++ replicate n status.Idle) j status.Free) ≡ false)
fresh_status zero zero j = (refl, refl)
fresh_status zero (suc n) zero = (refl, refl)
fresh_status zero (suc n) (suc j) = fresh_status zero n j
fresh_status (suc m) n zero = (refl, refl)
fresh_status (suc m) n (suc j) = fresh_status m n j

pub place_fresh : {T : Type 0} (n : Sizes) (w : State T) → 1 ≤ n.participants → w ≡ fresh n → IsPlace w
place_fresh {T} n w some e =
    let u : State T = fresh n in
    let who : (k : ℕ) → participant_at u k ≡ nobody = λ k. get_or-replicate_default n.participants k nobody in
    let closed' : (k : ℕ) → (local_at u k).nesting ≡ 0 = λ k. ap (λ (m : ParticipantState). m.local.nesting) (who k) in
    let whole : IsPlace u = record {
      sound = record {
        sizes = length-replicate (n.slots + n.jobs) None ∙ sym (length-append (replicate n.slots status.Free) (replicate n.jobs status.Idle) ∙ omega (arith, length-replicate n.slots status.Free, length-replicate n.jobs status.Idle));
        once = λ j. sum_by-replicate (held_times j) n.participants nobody ∙ omega arith ∙ sym (fresh_status n.slots n.jobs j).0;
        filled = λ j. ap is_some (get_or-replicate_default (n.slots + n.jobs) j None) ∙ sym (fresh_status n.slots n.jobs j).1;
      };
      some = omega (arith, some, length-replicate n.participants nobody);
      idle = λ k. ap (λ (m : ParticipantState). m.due) (who k);
      past = λ k. let same = ap (λ (m : ParticipantState). m.local.previous) (who k) in omega (arith, same);
      began = λ k o. absurd (omega (arith, closed' k, o));
      near = λ k o. absurd (omega (arith, closed' k, o));
    } in
    subst (λ (x : State T). IsPlace x) (sym e) whole
