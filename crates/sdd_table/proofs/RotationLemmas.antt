-- the loop of a rotation
use Rattle.std.proofs.Common.{◌≡◌, ℕ, suc, ◌+◌, ◌<◌, List, [], length, refl, sym, ap, ◌∙◌, arith, length-set, subst}
use Rattle.sdd_table.specs.Holding.{Hold}
use Rattle.sdd_table.specs.State.{State, participant_at, bags_moved_on, rotated_bags}
use Rattle.sdd_table.specs.Steps.{reclaimed, due_reclaimed, IsNext}
use Rattle.sdd_table.specs.Place.{Sound}
use Rattle.sdd_table.proofs.BagInvariantLemmas.{sound_turned, reclaims_next}

-- the rest of the work leads where all of it did
pub record Turning {T : Type 0} (holds : T → List Hold) (p : ℕ) (w v : State T) : Type 0 where
  pub known : p < length v.participants
  pub sound : Sound v
  pub same : reclaimed holds p (length (participant_at v p).due) v ≡ reclaimed holds p (length (participant_at w p).due) w

pub turning_start : {T : Type 0} (holds : T → List Hold) (p : ℕ) (w v : State T) → v ≡ rotated_bags p w → Sound w → p < length w.participants → (participant_at w p).due ≡ [] → Turning holds p v v
turning_start {T} holds p w v e h known idle =
    let u = rotated_bags p w in
    let size : length u.participants ≡ length w.participants = length-set w.participants p (bags_moved_on (participant_at w p)) in
    let start : Turning holds p u u = record { known = omega (arith, size); sound = sound_turned w p h known idle; same = refl } in
    subst (λ (x : State T). Turning holds p x x) (sym e) start

pub turning_next : {T : Type 0} (holds : T → List Hold) (p : ℕ) (w v v' : State T) → Turning holds p w v → IsNext holds p v v' → (length (participant_at v' p).due < length (participant_at v p).due) × Turning holds p w v'
turning_next {T} holds p w v v' t n =
    let r = reclaims_next holds v p n.place n.rest t.sound t.known n.was in
    let u = due_reclaimed holds p v in
    let more : length (participant_at v p).due ≡ length (participant_at u p).due + 1 = ap length n.was ∙ omega (arith, ap length r.due) in
    let size : length (participant_at v p).due ≡ suc (length (participant_at u p).due) = omega (arith, more) in
    let step : reclaimed holds p (length (participant_at u p).due) u ≡ reclaimed holds p (length (participant_at v p).due) v = ap (λ (k : ℕ). reclaimed holds p k v) (sym size) in
    let next : Turning holds p w u = record { known = omega (arith, r.known, t.known); sound = r.sound; same = step ∙ t.same } in
    let less : length (participant_at u p).due < length (participant_at v p).due = omega (arith, more) in
    subst (λ (x : State T). (length (participant_at x p).due < length (participant_at v p).due) × Turning holds p w x) (sym n.now) (less, next)
