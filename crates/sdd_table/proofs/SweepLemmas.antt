-- rotations until nothing waits
use Rattle.std.proofs.Common.{◌≡◌, ℕ, zero, suc, ◌+◌, ◌*◌, ◌<◌, ◌≤◌, ◌&&◌, true, false, List, [], ◌∷◌, ◌++◌, length, refl, sym, ap, ◌∙◌, arith, subst, cond, replicate, inl, inr, ◌⊎◌}
use Rattle.std.specs.List.{sum_by}
use Rattle.std.proofs.lemmas.Bool.{false≢true}
use Rattle.std.proofs.lemmas.Bool.Decides.{eqb_tells}
use Rattle.sdd_table.specs.Holding.{Hold}
use Rattle.sdd_table.specs.State.{State, ParticipantState, participant_at, occupied}
use Rattle.sdd_table.specs.Steps.{participant_rotated, rotated_each, is_nil, bags_empty, Swept}
use Rattle.sdd_table.specs.Place.{IsPlace}
use Rattle.sdd_table.specs.Frame.{OnlyParticipant}
use Rattle.sdd_table.proofs.ListLemmas.{replicate-push}
use Rattle.sdd_table.proofs.PlaceLemmas.{Rotates, rotates}

-- how many rotations empty the bags, where nothing is added
abbrev pub rank_of : List ℕ → List ℕ → List ℕ → ℕ
rank_of a b c = cond (is_nil a) (cond (is_nil b) (cond (is_nil c) 0 1) 2) 3

abbrev pub rank : ParticipantState → ℕ
rank m = rank_of m.current m.prior m.oldest

-- what falls with each rotation
abbrev pub left : {T : Type 0} → State T → ℕ → ℕ
left w p = 4 * sum_by occupied w.states + rank (participant_at w p)

rank-three : (a b c : List ℕ) → rank_of a b c ≤ 3
rank-three [] [] [] = omega arith
rank-three [] [] (x ∷ c) = omega arith
rank-three [] (x ∷ b) c = omega arith
rank-three (x ∷ a) b c = omega arith

-- where the oldest bag is empty, the others move on
rank-falls : (a b : List ℕ) → (is_nil a && (is_nil b && is_nil [])) ≡ false → rank_of [] a b < rank_of a b []
rank-falls [] [] h = absurd (false≢true (sym h))
rank-falls [] (x ∷ b) h = omega arith
rank-falls (x ∷ a) [] h = omega arith
rank-falls (x ∷ a) (y ∷ b) h = omega arith

falls_by : (a b c a' b' c' : List ℕ) (n n' : ℕ) → (is_nil a && (is_nil b && is_nil c)) ≡ false → b' ≡ a → c' ≡ b → n' + length c ≡ n → (c ≡ [] → a' ≡ []) → 4 * n' + rank_of a' b' c' < 4 * n + rank_of a b c
falls_by a b [] a' b' c' n n' some e f less none =
    let r = rank-falls a b some in
    let same : rank_of a' b' c' ≡ rank_of [] a b = ap (λ (x : List ℕ). rank_of x b' c') (none refl) ∙ ap (λ (x : List ℕ). rank_of [] x c') e ∙ ap (λ (x : List ℕ). rank_of [] a x) f in
    omega (arith, r, same, less)
falls_by a b (x ∷ c) a' b' c' n n' some e f less none = omega (arith, less, rank-three a' b' c')

pub falls : {T : Type 0} (w w' : State T) (p : ℕ) → Rotates p w w' → bags_empty (participant_at w p) ≡ false → left w' p < left w p
falls w w' p r some = falls_by (participant_at w p).current (participant_at w p).prior (participant_at w p).oldest (participant_at w' p).current (participant_at w' p).prior (participant_at w' p).oldest _ _ some r.prior r.oldest r.occupied r.current

-- one rotation more
pub each-push : {T : Type 0} (holds : T → List Hold) (ps : List ℕ) (p : ℕ) (w : State T) → rotated_each holds (ps ++ p ∷ []) w ≡ participant_rotated holds p (rotated_each holds ps w)
each-push holds [] p w = refl
each-push holds (q ∷ ps) p w = each-push holds ps p (participant_rotated holds q w)

pub each-append : {T : Type 0} (holds : T → List Hold) (ps qs : List ℕ) (w : State T) → rotated_each holds (ps ++ qs) w ≡ rotated_each holds qs (rotated_each holds ps w)
each-append holds [] qs w = refl
each-append holds (p ∷ ps) qs w = each-append holds ps qs (participant_rotated holds p w)

-- as far as the loop has come
pub record Sweeping {T : Type 0} (holds : T → List Hold) (p : ℕ) (w v : State T) : Type 0 where
  pub participant : p < length v.participants
  pub place : IsPlace v
  pub turns : ℕ
  pub now : v ≡ rotated_each holds (replicate turns p) w
  pub known : length v.participants ≡ length w.participants
  pub only : OnlyParticipant p w v

pub sweeping_start : {T : Type 0} (holds : T → List Hold) (p : ℕ) (w : State T) → p < length w.participants → IsPlace w → Sweeping holds p w w
sweeping_start holds p w participant place = record { participant = participant; place = place; turns = 0; now = refl; known = refl; only = λ k n. refl }

pub sweeping_next : {T : Type 0} (holds : T → List Hold) (p : ℕ) (w v v' : State T) → Sweeping holds p w v → v' ≡ participant_rotated holds p v → bags_empty (participant_at v p) ≡ false → (left v' p < left v p) × Sweeping holds p w v'
sweeping_next {T} holds p w v v' h e some =
    let r = rotates holds v p h.place h.participant in
    let u : State T = participant_rotated holds p v in
    let next : Sweeping holds p w u = record {
      participant = omega (arith, r.known, h.participant);
      place = r.place;
      turns = h.turns + 1;
      now = ap (λ (x : State T). participant_rotated holds p x) h.now ∙ sym (each-push holds (replicate h.turns p) p w) ∙ ap (λ (ps : List ℕ). rotated_each holds ps w) (sym (replicate-push h.turns p));
      known = r.known ∙ h.known;
      only = λ k n. r.others k n ∙ h.only k n;
    } in
    subst (λ (x : State T). (left x p < left v p) × Sweeping holds p w x) (sym e) (falls v u p r some, next)

-- as far as the loop over the participants has come
pub record SweepingAll {T : Type 0} (holds : T → List Hold) (p : ℕ) (w v : State T) : Type 0 where
  pub place : IsPlace v
  pub turns : List ℕ
  pub now : v ≡ rotated_each holds turns w
  pub known : length v.participants ≡ length w.participants
  pub empty : (k : ℕ) → k < p → bags_empty (participant_at v k) ≡ true

pub sweeping_all_start : {T : Type 0} (holds : T → List Hold) (w : State T) → IsPlace w → SweepingAll holds 0 w w
sweeping_all_start holds w h = record { place = h; turns = []; now = refl; known = refl; empty = λ k lt. absurd (omega (arith, lt)) }

pub sweeping_all_next : {T : Type 0} (holds : T → List Hold) (p : ℕ) (w v v' : State T) → SweepingAll holds p w v → IsPlace v' → Swept holds p v v' → length v'.participants ≡ length v.participants → OnlyParticipant p v v' → SweepingAll holds (p + 1) w v'
sweeping_all_next {T} holds p w v v' h place s known only = record {
  place = place;
  turns = h.turns ++ replicate s.turns p;
  now = s.now ∙ ap (λ (x : State T). rotated_each holds (replicate s.turns p) x) h.now ∙ sym (each-append holds h.turns (replicate s.turns p) w);
  known = known ∙ h.known;
  empty = λ k lt. elim (eqb_tells k p) [
    | inl t ↦ let P : ℕ → Type 0 = λ j. bags_empty (participant_at v' j) ≡ true in let here : P p = s.empty in subst P (sym t.1) here
    | inr t ↦ ap bags_empty (only k t.1) ∙ h.empty k (omega (arith, lt, t.1))
  ];
}

le_or : (k p : ℕ) → (k < p) ⊎ (p ≤ k)
le_or k zero = inr (omega arith)
le_or zero (suc p) = inl (omega arith)
le_or (suc k) (suc p) = elim (le_or k p) [ inl a ↦ inl (omega (arith, a)) | inr b ↦ inr (omega (arith, b)) ]
