-- what guards and owners that are given back leave of items, cells and quiet participants
use Rattle.std.proofs.Common.{◌≡◌, ℕ, suc, ◌+◌, ◌-◌, ◌<◌, ◌≤◌, ◌==◌, ◌&&◌, ◌||◌, Bool, true, false, Option, None, Some, List, [], ◌∷◌, length, get_or, refl, sym, ap, ◌∙◌, arith, length-set, subst, cond, get_or-set_same, leb, ltb, is_some, not, sum_by, inl, inr}
use Rattle.std.specs.List.{list_all}
use Rattle.std.proofs.lemmas.Bool.{false≢true}
use Rattle.std.proofs.lemmas.Bool.Decides.{eqb_tells}
use Rattle.std.proofs.lemmas.List.Sums.{sum_by-cons}
use Rattle.sdd_table.specs.Holding.{Hold}
use Rattle.sdd_table.specs.State.{State, ParticipantState, nobody, status_at, value_at, participant_at, local_at, with_local, with_local_state, with_status, retired, rotated_bags, bags_moved_on, raised, is_present, is_used, usage, in_use}
use Rattle.sdd_table.specs.Steps.{reclaimed, participant_rotated, count_published, guard_opened, guard_closed, settled, scanned, scans, closings_after, bags_empty, is_nil, released, released_as}
use Rattle.sdd_table.specs.Place.{IsPlace}
use Rattle.sdd_world.specs.Passing.{Shrinks, IsQuiet, OnlyParticipantsChange, GivesOnly}
use Rattle.sdd_table.specs.declared.status.Status.{Status}
use Rattle.sdd_table.specs.declared.status.Status.TheVariants as status
use Rattle.sdd_table.specs.declared.status.LocalState.{LocalState}
use Rattle.sdd_table.proofs.BagInvariantLemmas.{gives_released_as}
use Rattle.sdd_table.proofs.PlaceLemmas.{place_by}
use Rattle.sdd_world.proofs.FrameLemmas.{keeps_opened, keeps_gives}
use Rattle.sdd_world.proofs.PassLemmas.{opens, adds_released}

-- a sum of lists, of which each weighs no more than the other at any place
sum_below : {X : Type 0} (f : X → ℕ) (d : X) (xs ys : List X) → length xs ≡ length ys → ((j : ℕ) → f (get_or xs j d) ≤ f (get_or ys j d)) → sum_by f xs ≤ sum_by f ys
sum_below f d [] [] size less = omega arith
sum_below f d [] (y ∷ ys) size less = absurd (omega (arith, size))
sum_below f d (x ∷ xs) [] size less = absurd (omega (arith, size))
sum_below f d (x ∷ xs) (y ∷ ys) size less =
    let here : f x ≤ f y = less 0 in
    let rest = sum_below f d xs ys (omega (arith, size)) (λ j. less (suc j)) in
    let a = sum_by-cons f x xs in
    let b = sum_by-cons f y ys in
    omega (arith, here, rest, a, b)

-- a slot is used as far as it has a value
usage_less : {T : Type 0} (o o' : Option T) (s s' : Status) → is_some o ≡ is_used s → is_some o' ≡ is_used s' → ((u : T) → o' ≡ Some u → o ≡ Some u) → usage s' ≤ usage s
usage_less {T} o None s s' a b f = let none : usage s' ≡ 0 = ap (λ (x : Bool). cond x 1 0) (sym b) in omega (arith, none)
usage_less {T} o (Some u) s s' a b f =
    let some : usage s ≡ 1 = ap (λ (x : Bool). cond x 1 0) (sym a ∙ ap is_some (f u refl)) in
    let one : usage s' ≡ 1 = ap (λ (x : Bool). cond x 1 0) (sym b) in
    omega (arith, some, one)

uses_less : {T : Type 0} (w w' : State T) → IsPlace w → IsPlace w' → length w'.states ≡ length w.states → ((j : ℕ) (u : T) → value_at w' j ≡ Some u → value_at w j ≡ Some u) → in_use w' ≤ in_use w
uses_less w w' h h' size values = sum_below usage status.Free w'.states w.states size (λ j. usage_less (value_at w j) (value_at w' j) (status_at w j) (status_at w' j) (h.sound.filled j) (h'.sound.filled j) (values j))

module _ {T : Type 0} (holds : T → List Hold) where
  local_set : (p : ℕ) (k : LocalState) (w : State T) → p < length w.participants → participant_at (with_local p k w) p ≡ with_local_state k (participant_at w p)
  local_set p k w known = get_or-set_same w.participants p (with_local_state k (participant_at w p)) nobody known

  nil_of : (xs : List ℕ) → is_nil xs ≡ true → xs ≡ []
  nil_of [] e = refl
  nil_of (x ∷ xs) e = absurd (false≢true e)

  both_true : (a b : Bool) → (a && b) ≡ true → (a ≡ true) × (b ≡ true)
  both_true true b e = (refl, e)
  both_true false b e = absurd (false≢true e)

  abbrev begin_at : ℕ → State T → LocalState
  begin_at p w = record (local_at w p) { nesting = 1; published = w.count; previous = w.count; accelerated = false }

  begun_quiet : (p : ℕ) (w : State T) → p < length w.participants → IsQuiet w p → OnlyParticipantsChange w (count_published p w) × IsQuiet (count_published p w) p
  begun_quiet p w known q =
      let at : participant_at (count_published p w) p ≡ with_local_state (record (local_at w p) { nesting = 1; published = w.count; previous = w.count; accelerated = false }) (participant_at w p) = local_set p (record (local_at w p) { nesting = 1; published = w.count; previous = w.count; accelerated = false }) w known in (
        record { count = refl; values = refl; states = refl; cells = refl; groups = refl },
        record { empty = ap bags_empty at ∙ q.empty; clean = ap (λ (m : ParticipantState). m.local.garbage) at ∙ q.clean; slow = ap (λ (m : ParticipantState). m.local.accelerated) at },
      )

  -- where the oldest bag is empty, a rotation reclaims nothing
  rotated_quiet : (p : ℕ) (w : State T) → p < length w.participants → IsQuiet w p → OnlyParticipantsChange w (participant_rotated holds p w) × IsQuiet (participant_rotated holds p w) p
  rotated_quiet p w known q =
      let m = participant_at w p in
      let three = both_true (is_nil m.current) (is_nil m.prior && is_nil m.oldest) q.empty in
      let two = both_true (is_nil m.prior) (is_nil m.oldest) three.1 in
      let u : State T = rotated_bags p w in
      let s : State T = settled p u in
      let none : length m.oldest ≡ 0 = ap length (nil_of m.oldest two.1) in
      let is : participant_rotated holds p w ≡ s = ap (λ (n : ℕ). settled p (reclaimed holds p n u)) none in
      let size = length-set w.participants p (bags_moved_on m) in
      let atu : participant_at u p ≡ bags_moved_on m = get_or-set_same w.participants p (bags_moved_on m) nobody known in
      let flag : LocalState = record (local_at u p) { garbage = (local_at u p).garbage && not (bags_empty (participant_at u p)) } in
      let ats : participant_at s p ≡ with_local_state flag (participant_at u p) = local_set p flag u (omega (arith, size, known)) in
      let clean : (local_at u p).garbage ≡ false = ap (λ (x : ParticipantState). x.local.garbage) atu ∙ q.clean in
      let bags : bags_empty (participant_at u p) ≡ true = ap bags_empty atu ∙ ap (λ (b : Bool). is_nil [] && (b && is_nil m.prior)) three.0 ∙ two.0 in
      let all : OnlyParticipantsChange w s × IsQuiet s p = (
        record { count = refl; values = refl; states = refl; cells = refl; groups = refl },
        record {
          empty = ap bags_empty ats ∙ bags;
          clean = ap (λ (x : ParticipantState). x.local.garbage) ats ∙ ap (λ (b : Bool). b && not (bags_empty (participant_at u p))) clean;
          slow = ap (λ (x : ParticipantState). x.local.accelerated) ats ∙ ap (λ (x : ParticipantState). x.local.accelerated) atu ∙ q.slow;
        },
      ) in
      subst (λ (x : State T). OnlyParticipantsChange w x × IsQuiet x p) (sym is) all

  stands_then : (u v w : State T) → OnlyParticipantsChange u v → OnlyParticipantsChange v w → OnlyParticipantsChange u w
  stands_then u v w a b = record { count = b.count ∙ a.count; values = b.values ∙ a.values; states = b.states ∙ a.states; cells = b.cells ∙ a.cells; groups = b.groups ∙ a.groups }

  opened_quiet : (p : ℕ) (w : State T) → IsPlace w → p < length w.participants → IsQuiet w p → OnlyParticipantsChange w (guard_opened holds p w) × IsQuiet (guard_opened holds p w) p
  opened_quiet p w h known q =
      let P : State T → Type 0 = λ x. OnlyParticipantsChange w x × IsQuiet x p in
      let more : LocalState = record (local_at w p) { nesting = (local_at w p).nesting + 1 } in
      let b = begun_quiet p w known q in
      let size : length (count_published p w).participants ≡ length w.participants = length-set w.participants p (with_local_state (begin_at p w) (participant_at w p)) in
      let r = rotated_quiet p (count_published p w) (omega (arith, size, known)) b.1 in
      let at : participant_at (with_local p more w) p ≡ with_local_state more (participant_at w p) = local_set p more w known in
      let nested : P (with_local p more w) = (
        record { count = refl; values = refl; states = refl; cells = refl; groups = refl },
        record { empty = ap bags_empty at ∙ q.empty; clean = ap (λ (m : ParticipantState). m.local.garbage) at ∙ q.clean; slow = ap (λ (m : ParticipantState). m.local.accelerated) at ∙ q.slow },
      ) in
      let first : P (cond ((local_at w p).previous == w.count) (count_published p w) (participant_rotated holds p (count_published p w))) = elim ((local_at w p).previous == w.count) as (λ c. P (cond c (count_published p w) (participant_rotated holds p (count_published p w)))) [ true ↦ b | false ↦ (stands_then w (count_published p w) _ b.0 r.0, r.1) ] in
      elim ((local_at w p).nesting == 0) as (λ c. P (cond c (cond ((local_at w p).previous == w.count) (count_published p w) (participant_rotated holds p (count_published p w))) (with_local p more w))) [ true ↦ first | false ↦ nested ]

  closed_quiet : (p : ℕ) (w : State T) → p < length w.participants → IsQuiet w p → OnlyParticipantsChange w (guard_closed p w) × IsQuiet (guard_closed p w) p
  closed_quiet p w known q =
      let P : State T → Type 0 = λ x. OnlyParticipantsChange w x × IsQuiet x p in
      let m = local_at w p in
      let local : (k : LocalState) → k.garbage ≡ m.garbage → k.accelerated ≡ m.accelerated → P (with_local p k w) = λ k g a.
      let at = local_set p k w known in (
        record { count = refl; values = refl; states = refl; cells = refl; groups = refl },
        record { empty = ap bags_empty at ∙ q.empty; clean = ap (λ (x : ParticipantState). x.local.garbage) at ∙ g ∙ q.clean; slow = ap (λ (x : ParticipantState). x.local.accelerated) at ∙ a ∙ q.slow },
      ) in
      let scan : State T = with_local p (record m { nesting = 0; closings = 0 }) (scanned w) in
      let last : State T = with_local p (record m { nesting = 0; closings = closings_after m }) w in
      let inner : State T = with_local p (record m { nesting = m.nesting - 1 }) w in
      let none : scans m ≡ false = ap (λ (b : Bool). b || (m.garbage && leb 64 (closings_after m))) q.slow ∙ ap (λ (b : Bool). b && leb 64 (closings_after m)) q.clean in
      let outer : P (cond (scans m) scan last) = subst (λ (b : Bool). P (cond b scan last)) (sym none) (local (record m { nesting = 0; closings = closings_after m }) refl refl) in
      elim (m.nesting == 1) as (λ c. P (cond c (cond (scans m) scan last) inner)) [ true ↦ outer | false ↦ local (record m { nesting = m.nesting - 1 }) refl refl ]

  opened_only : (p : ℕ) (w : State T) → IsPlace w → p < length w.participants → Shrinks w (guard_opened holds p w) × (in_use (guard_opened holds p w) ≤ in_use w) × ((local_at (guard_opened holds p w) p).nesting ≡ (local_at w p).nesting + 1)
  opened_only p w h known =
      let o : State T = guard_opened holds p w in
      let size : length o.states ≡ length w.states = (keeps_opened holds w p h known).0.states in
      elim (eqb_tells (local_at w p).nesting 0) [
        | inl t ↦ let O = opens holds w p h known t.1 in (O.shrinks, uses_less w o h O.place size O.shrinks.values, O.nesting ∙ ap (λ (n : ℕ). n + 1) (sym t.1))
        | inr t ↦
            let more : LocalState = record (local_at w p) { nesting = (local_at w p).nesting + 1 } in
            let x : State T = with_local p more w in
            let first : State T = cond ((local_at w p).previous == w.count) (count_published p w) (participant_rotated holds p (count_published p w)) in
            let is : o ≡ x = ap (λ (b : Bool). cond b first x) t.0 in
            let S : Shrinks w x = record { values = λ j u e. e; cells = λ c j e. e; rows = λ g j e. e; groups = λ g out. (out, refl); jobs = λ j e. e; plain = λ j e. e } in
            let all : Shrinks w x × (in_use x ≤ in_use w) × ((local_at x p).nesting ≡ (local_at w p).nesting + 1) = (S, omega arith, ap (λ (m : ParticipantState). m.local.nesting) (local_set p more w known)) in
            subst (λ (y : State T). Shrinks w y × (in_use y ≤ in_use w) × ((local_at y p).nesting ≡ (local_at w p).nesting + 1)) (sym is) all
      ]

  abbrev LeavesItems : ℕ → State T → State T → Type 0
  LeavesItems p w x = (x.values ≡ w.values) × (x.states ≡ w.states) × (x.cells ≡ w.cells) × (x.groups ≡ w.groups) × ((local_at x p).nesting ≡ (local_at w p).nesting - 1)

  closed_only : (p : ℕ) (w : State T) → p < length w.participants → LeavesItems p w (guard_closed p w)
  closed_only p w known =
      let m = local_at w p in
      let scan : State T = with_local p (record m { nesting = 0; closings = 0 }) (scanned w) in
      let last : State T = with_local p (record m { nesting = 0; closings = closings_after m }) w in
      let inner : State T = with_local p (record m { nesting = m.nesting - 1 }) w in
      elim (eqb_tells m.nesting 1) [
        | inl t ↦
            let none : 0 ≡ m.nesting - 1 = (let one = t.1 in omega (arith, one)) in
            let scanned-known : (c : Bool) → p < length (cond c (raised w) w).participants = λ c. elim c as (λ b. p < length (cond b (raised w) w).participants) [ true ↦ known | false ↦ known ] in
            let scans-all : (c : Bool) → LeavesItems p w (with_local p (record m { nesting = 0; closings = 0 }) (cond c (raised w) w)) = λ c. elim c as (λ b. LeavesItems p w (with_local p (record m { nesting = 0; closings = 0 }) (cond b (raised w) w))) [
              | true ↦ (refl, refl, refl, refl, ap (λ (x : ParticipantState). x.local.nesting) (local_set p (record m { nesting = 0; closings = 0 }) (raised w) known) ∙ none)
              | false ↦ (refl, refl, refl, refl, ap (λ (x : ParticipantState). x.local.nesting) (local_set p (record m { nesting = 0; closings = 0 }) w known) ∙ none)
            ] in
            let a : LeavesItems p w scan = scans-all (list_all (is_present w.count) w.participants && ltb w.count 18446744073709551615) in
            let b : LeavesItems p w last = (refl, refl, refl, refl, ap (λ (x : ParticipantState). x.local.nesting) (local_set p (record m { nesting = 0; closings = closings_after m }) w known) ∙ none) in
            let is : guard_closed p w ≡ cond (scans m) scan last = ap (λ (c : Bool). cond c (cond (scans m) scan last) inner) t.0 in
            subst (λ (x : State T). LeavesItems p w x) (sym is) (elim (scans m) as (λ c. LeavesItems p w (cond c scan last)) [ true ↦ a | false ↦ b ])
        | inr t ↦
            let is : guard_closed p w ≡ inner = ap (λ (c : Bool). cond c (cond (scans m) scan last) inner) t.0 in
            let b : LeavesItems p w inner = (refl, refl, refl, refl, ap (λ (x : ParticipantState). x.local.nesting) (local_set p (record m { nesting = m.nesting - 1 }) w known)) in
            subst (λ (x : State T). LeavesItems p w x) (sym is) b
      ]

  released_same : (p i : ℕ) (s : Status) (w : State T) → ((released_as s p i w).values ≡ w.values) × ((released_as s p i w).count ≡ w.count)
  released_same p i status.Free w = (refl, refl)
  released_same p i status.Owned w = (refl, refl)
  released_same p i (status.Shared n) w = elim (leb n 1) as (λ b. ((cond b (retired p i w) (with_status i (status.Shared (n - 1)) w)).values ≡ w.values) × ((cond b (retired p i w) (with_status i (status.Shared (n - 1)) w)).count ≡ w.count)) [ true ↦ (refl, refl) | false ↦ (refl, refl) ]
  released_same p i status.Raw w = (refl, refl)
  released_same p i (status.Collected n b) w = (refl, refl)
  released_same p i status.Retired w = (refl, refl)
  released_same p i status.Idle w = (refl, refl)
  released_same p i status.Deferred w = (refl, refl)

  released_only : (p i : ℕ) (w : State T) → IsPlace w → p < length w.participants → Shrinks w (released p i w) × (in_use (released p i w) ≡ in_use w) × ((released p i w).count ≡ w.count)
  released_only p i w h known =
      let x : State T = released p i w in
      let G = gives_released_as w p i (status_at w i) refl h.sound known in
      let h' : IsPlace x = place_by w x p h G in
      let size : length x.states ≡ length w.states = (keeps_gives p w x h.sound G).states in
      let same = released_same p i (status_at w i) w in
      let at : (j : ℕ) → value_at x j ≡ value_at w j = λ j. ap (λ (vs : List (Option T)). get_or vs j None) same.0 in
      let less = uses_less w x h h' size (λ j u e. sym (at j) ∙ e) in
      let more = uses_less x w h' h (sym size) (λ j u e. at j ∙ e) in
      ((adds_released w p i (status_at w i) known).shrinks, omega (arith, less, more), same.1)

pub gives_only : {T : Type 0} (holds : T → List Hold) → GivesOnly holds
gives_only holds = record {
  opening = opened_only holds;
  closing = closed_only holds;
  quiet_opening = opened_quiet holds;
  quiet_closing = closed_quiet holds;
  giving_back = released_only holds;
}
