-- what the tests of participants, items and states tell where they answer yes
use Rattle.std.proofs.Common.{◌≡◌, ◌≢◌, ◌⊎◌, ◌||◌, ◌==◌, Bool, true, false, not, ℕ, zero, suc, ◌+◌, ◌-◌, ◌<◌, ◌≤◌, cond, nat_lt, List, length, sym, refl, ap, ◌∙◌, subst, ⊎_elim, inl, inr, arith, eqb-true, ltb-true, leb-true, eq-eqb, ne_eqb, Option, Some, None, is_some}
use mathlib.Core.Logic.{dite}
use native.Mathlib.Decide.{ℕ_discrete}
use Rattle.sdd_steps.specs.declared.participant.Phase.{Phase}
use Rattle.sdd_steps.specs.declared.participant.Phase.TheVariants.{Idle, HasRead, Opened}
use Rattle.sdd_steps.specs.declared.item.ItemState.{ItemState}
use Rattle.sdd_steps.specs.declared.item.ItemState.TheVariants.{Live, Due, Retired, Collected, Waiting, Reclaimed}
use Rattle.sdd_steps.specs.declared.participant.Participant.{Participant}
use Rattle.sdd_steps.specs.declared.item.Item.{Item}
use Rattle.sdd_steps.specs.declared.item.Cell.{Cell}
use Rattle.sdd_steps.specs.State.{State, At, Has, has, participant_at, cell_at, item_at, participant_is, cell_is, item_is, newcomer, empty_cell, no_item}
use Rattle.sdd_steps.specs.Steps.{is_idle_phase, is_reading_phase, is_opened_phase, count_of, is_idle, is_turning, is_inside, is_ready, agrees, all_looked, is_live, is_due, is_reclaimed, is_left, is_past, is_shut, is_reclaimable, named, noted, aged, left, settled}
use Rattle.sdd_steps.specs.Invariant.{Standing}
use Rattle.sdd_steps.proofs.ListLemmas.{at_get, both, either, unless}
use Rattle.sdd_steps.proofs.CountLemmas.{has_has}

pub participant_there : (test : Participant → Bool) (s : State) (p : ℕ) → participant_is test s p ≡ true → At s.participants p (participant_at s p) × (test (participant_at s p) ≡ true)
participant_there test s p h = let b = both (nat_lt p (length s.participants)) (test (participant_at s p)) h in (at_get s.participants p newcomer (ltb-true p (length s.participants) b.0), b.1)

pub cell_there : (test : Cell → Bool) (s : State) (c : ℕ) → cell_is test s c ≡ true → At s.cells c (cell_at s c) × (test (cell_at s c) ≡ true)
cell_there test s c h = let b = both (nat_lt c (length s.cells)) (test (cell_at s c)) h in (at_get s.cells c empty_cell (ltb-true c (length s.cells) b.0), b.1)

pub item_there : (test : Item → Bool) (s : State) (i : ℕ) → item_is test s i ≡ true → At s.items i (item_at s i) × (test (item_at s i) ≡ true)
item_there test s i h = let b = both (nat_lt i (length s.items)) (test (item_at s i)) h in (at_get s.items i no_item (ltb-true i (length s.items) b.0), b.1)

pub idle_is : (f : Phase) → is_idle_phase f ≡ true → f ≡ Idle
idle_is Idle h = refl
idle_is (HasRead e) h = absurd (cc)
idle_is (Opened e) h = absurd (cc)

pub reading_is : (f : Phase) → is_reading_phase f ≡ true → f ≡ HasRead (count_of f)
reading_is Idle h = absurd (cc)
reading_is (HasRead e) h = refl
reading_is (Opened e) h = absurd (cc)

pub opened_is : (f : Phase) → is_opened_phase f ≡ true → f ≡ Opened (count_of f)
opened_is Idle h = absurd (cc)
opened_is (HasRead e) h = absurd (cc)
opened_is (Opened e) h = refl

abbrev pub Inside : Participant → ℕ → Type 0
Inside x e = (x.phase ≡ Opened e) × (e ≡ x.found)

abbrev pub Ready : Participant → Type 0
Ready x = (x.phase ≡ Idle) ⊎ ((e : ℕ) × Inside x e)

pub inside_is : (x : Participant) → is_inside x ≡ true → Inside x (count_of x.phase)
inside_is x h = let b = both (is_opened_phase x.phase) (count_of x.phase == x.found) h in (opened_is x.phase b.0, eqb-true (count_of x.phase) x.found b.1)

not_same : (a b : ℕ) → not (a == b) ≡ true → a ≢ b
not_same a b h e = let yes : (a == b) ≡ true = eq-eqb a b e in let no : (a == b) ≡ false = unless (a == b) h in let bad : true ≡ false = sym yes ∙ no in cc

pub turning_is : (x : Participant) → is_turning x ≡ true → (x.phase ≡ Opened (count_of x.phase)) × (count_of x.phase ≢ x.found)
turning_is x h = let b = both (is_opened_phase x.phase) (not (count_of x.phase == x.found)) h in (opened_is x.phase b.0, not_same (count_of x.phase) x.found b.1)

pub ready_is : (x : Participant) → is_ready x ≡ true → Ready x
ready_is x h = ⊎_elim (λ t. inl (idle_is x.phase t)) (λ t. inr (count_of x.phase, inside_is x t)) (either (is_idle x) (is_inside x) h)

pub agrees_is : (count : ℕ) (y : Participant) → agrees count y ≡ true → (e : ℕ) → y.phase ≡ Opened e → e ≡ count
agrees_is count y h e is = ⊎_elim (λ t. let unshut : is_opened_phase y.phase ≡ true = ap is_opened_phase is in let shut : is_opened_phase y.phase ≡ false = unless (is_opened_phase y.phase) t in let bad : true ≡ false = sym unshut ∙ shut in cc)
    (λ t. sym (ap count_of is) ∙ eqb-true (count_of y.phase) count t) (either (not (is_opened_phase y.phase)) (count_of y.phase == count) h)

pub shut_is : (y : Participant) → is_shut y ≡ true → (e : ℕ) → y.phase ≢ Opened e
shut_is y h e is = let unshut : is_opened_phase y.phase ≡ true = ap is_opened_phase is in let shut : is_opened_phase y.phase ≡ false = unless (is_opened_phase y.phase) h in let bad : true ≡ false = sym unshut ∙ shut in cc

pub looked_is : (p : ℕ) (looked : List ℕ) (n : ℕ) → all_looked p looked n ≡ true → (q : ℕ) → q < n → q ≢ p → Has looked q
looked_is p looked zero h q less other = absurd (omega arith)
looked_is p looked (suc n) h q less other = let b = both ((n == p) || has n looked) (all_looked p looked n) h in dite (ℕ_discrete q n)
    (λ e. ⊎_elim (λ t. absurd (other (e ∙ eqb-true n p t))) (λ t. subst (Has looked) (sym e) (has_has n looked t)) (either (n == p) (has n looked) b.0))
    (λ d. looked_is p looked n b.1 q (omega arith) other)

pub due_is : (p : ℕ) (f : ItemState) → is_due p f ≡ true → f ≡ Due p
due_is p Live h = absurd (cc)
due_is p (Due r) h = ap (λ k. Due k) (eqb-true r p h)
due_is p (Retired r a) h = absurd (cc)
due_is p (Collected n) h = absurd (cc)
due_is p Waiting h = absurd (cc)
due_is p (Reclaimed r) h = absurd (cc)

pub live_is : (f : ItemState) → is_live f ≡ true → f ≡ Live
live_is Live h = refl
live_is (Due r) h = absurd (cc)
live_is (Retired r a) h = absurd (cc)
live_is (Collected n) h = absurd (cc)
live_is Waiting h = absurd (cc)
live_is (Reclaimed r) h = absurd (cc)

pub reclaimed_is : (p : ℕ) (f : ItemState) → is_reclaimed p f ≡ true → f ≡ Reclaimed p
reclaimed_is p Live h = absurd (cc)
reclaimed_is p (Due r) h = absurd (cc)
reclaimed_is p (Retired r a) h = absurd (cc)
reclaimed_is p (Collected n) h = absurd (cc)
reclaimed_is p Waiting h = absurd (cc)
reclaimed_is p (Reclaimed r) h = ap (λ k. Reclaimed k) (eqb-true r p h)

pub left_dead : (f : ItemState) → is_left f ≡ true → f ≢ Live
left_dead Live h e = cc
left_dead (Due r) h e = cc
left_dead (Retired r a) h e = cc
left_dead (Collected n) h e = cc
left_dead Waiting h e = cc
left_dead (Reclaimed r) h e = cc

past_is : (n : ℕ) (o : Option ℕ) → is_past n o ≡ true → (m : ℕ) × (o ≡ Some m) × (n + 3 ≤ m)
past_is n None h = absurd (cc)
past_is n (Some m) h = (m, refl, leb-true (n + 3) m h)

-- what may be reclaimed: an item of age 3, or one that was noted three counts below the one read again
abbrev pub Reclaimable : ℕ → Participant → ItemState → Type 0
Reclaimable q x f = (f ≡ Retired q 3) ⊎ ((n m : ℕ) × (f ≡ Collected n) × Inside x (count_of x.phase) × (x.reread ≡ Some m) × (n + 3 ≤ m))

pub reclaimable_is : (q : ℕ) (x : Participant) (f : ItemState) → is_reclaimable q x f ≡ true → Reclaimable q x f
reclaimable_is q x Live h = absurd (cc)
reclaimable_is q x (Due r) h = absurd (cc)
reclaimable_is q x (Retired r a) h = let b = both (r == q) (a == 3) h in inl (λ i. Retired (eqb-true r q b.0 i) (eqb-true a 3 b.1 i))
reclaimable_is q x (Collected n) h = let b = both (is_inside x) (is_past n x.reread) h in let m = past_is n x.reread b.1 in inr (n, m.0, refl, inside_is x b.0, m.1, m.2)
reclaimable_is q x Waiting h = absurd (cc)
reclaimable_is q x (Reclaimed r) h = absurd (cc)

pub some_is : (o : Option ℕ) → is_some o ≡ true → o ≡ Some (named o)
some_is None h = absurd (cc)
some_is (Some i) h = refl

pub noted_dead : (o : Option ℕ) → noted o ≢ Live
noted_dead None e = cc
noted_dead (Some n) e = cc

pub noted_unretired : (o : Option ℕ) (r a : ℕ) → noted o ≢ Retired r a
noted_unretired None r a e = cc
noted_unretired (Some n) r a e = cc

-- ageing
pub aged_live : (p : ℕ) (f : ItemState) → aged p f ≡ Live → f ≡ Live
aged_live p Live e = refl
aged_live p (Due q) e = absurd (cc)
aged_live p (Retired q b) e = absurd (cc)
aged_live p (Collected n) e = absurd (cc)
aged_live p Waiting e = absurd (cc)
aged_live p (Reclaimed q) e = absurd (cc)

pub aged_standing : (p b n : ℕ) (f : ItemState) → Standing b n f → Standing b n (aged p f)
aged_standing p b n Live h = tt
aged_standing p b n (Due q) h = tt
aged_standing p b n (Retired q a) h = h
aged_standing p b n (Collected m) h = h
aged_standing p b n Waiting h = h
aged_standing p b n (Reclaimed q) h = h

pub aged_noted : (p : ℕ) (f : ItemState) (n : ℕ) → aged p f ≡ Collected n → f ≡ Collected n
aged_noted p Live n e = absurd (cc)
aged_noted p (Due q) n e = absurd (cc)
aged_noted p (Retired q b) n e = absurd (cc)
aged_noted p (Collected m) n e = e
aged_noted p Waiting n e = absurd (cc)
aged_noted p (Reclaimed q) n e = absurd (cc)

pub aged_from : (p : ℕ) (f : ItemState) (r a : ℕ) → aged p f ≡ Retired r a → (b : ℕ) × (f ≡ Retired r b) × (((r ≡ p) × (a ≡ b + 1)) ⊎ ((r ≢ p) × (a ≡ b)))
aged_from p Live r a e = absurd (cc)
aged_from p (Due q) r a e = absurd (cc)
aged_from p (Collected m) r a e = absurd (cc)
aged_from p Waiting r a e = absurd (cc)
aged_from p (Reclaimed q) r a e = absurd (cc)
aged_from p (Retired q b) r a e = let c : ℕ = cond (q == p) (b + 1) b in let hr : q ≡ r = cc in let ha : c ≡ a = cc in (
  b,
  ap (λ k. Retired k b) hr,
  dite (ℕ_discrete q p)
      (λ same. let one : c ≡ b + 1 = ap (λ k. cond k (b + 1) b) (eq-eqb q p same) in inl (sym hr ∙ same, sym ha ∙ one))
      (λ other. let none : c ≡ b = ap (λ k. cond k (b + 1) b) (ne_eqb q p other) in inr ((λ z. other (hr ∙ z)), sym ha ∙ none)),
)

-- ending
left_retired : (P : ItemState → Type 0) (p r a : ℕ) → (r ≡ p → P Waiting) → (r ≢ p → P (Retired r a)) → P (left p (Retired r a))
left_retired P p r a yes_ no_ = dite (ℕ_discrete r p) (λ e. subst (λ k. P (cond k Waiting (Retired r a))) (sym (eq-eqb r p e)) (yes_ e)) (λ e. subst (λ k. P (cond k Waiting (Retired r a))) (sym (ne_eqb r p e)) (no_ e))

pub left_live : (p : ℕ) (f : ItemState) → left p f ≡ Live → f ≡ Live
left_live p Live e = refl
left_live p (Due q) e = absurd (cc)
left_live p (Retired q b) e = left_retired (λ z. z ≡ Live → Retired q b ≡ Live) p q b (λ _ e. absurd (cc)) (λ _ e. e) e
left_live p (Collected n) e = absurd (cc)
left_live p Waiting e = absurd (cc)
left_live p (Reclaimed q) e = absurd (cc)

pub left_standing : (p b n : ℕ) (f : ItemState) → Standing b n f → Standing b n (left p f)
left_standing p b n Live h = tt
left_standing p b n (Due q) h = tt
left_standing p b n (Retired q a) h = left_retired (Standing b n) p q a (λ _. h) (λ _. h)
left_standing p b n (Collected m) h = h
left_standing p b n Waiting h = h
left_standing p b n (Reclaimed q) h = h

pub left_noted : (p : ℕ) (f : ItemState) (n : ℕ) → left p f ≡ Collected n → f ≡ Collected n
left_noted p Live n e = absurd (cc)
left_noted p (Due q) n e = absurd (cc)
left_noted p (Retired q b) n e = left_retired (λ z. z ≡ Collected n → Retired q b ≡ Collected n) p q b (λ _ e. absurd (cc)) (λ _ e. e) e
left_noted p (Collected m) n e = e
left_noted p Waiting n e = absurd (cc)
left_noted p (Reclaimed q) n e = absurd (cc)

pub left_from : (p : ℕ) (f : ItemState) (r a : ℕ) → left p f ≡ Retired r a → (r ≢ p) × (f ≡ Retired r a)
left_from p Live r a e = absurd (cc)
left_from p (Due q) r a e = absurd (cc)
left_from p (Retired q b) r a e = left_retired (λ z. z ≡ Retired r a → (r ≢ p) × (Retired q b ≡ Retired r a)) p q b (λ _ e. absurd (cc)) (λ n e. let hr : q ≡ r = cc in ((λ z. n (hr ∙ z)), e)) e
left_from p (Collected m) r a e = absurd (cc)
left_from p Waiting r a e = absurd (cc)
left_from p (Reclaimed q) r a e = absurd (cc)

-- settling: what p retired counts as retired two counts before the one that it read
abbrev pub settled_since : ℕ → ℕ → ItemState → ℕ → ℕ
settled_since p e Live n = n
settled_since p e (Due r) n = n
settled_since p e (Retired r a) n = cond (r == p) (e - 2) n
settled_since p e (Collected m) n = n
settled_since p e Waiting n = n
settled_since p e (Reclaimed r) n = n

pub settled_live : (p : ℕ) (f : ItemState) → settled p f ≡ Live → f ≡ Live
settled_live p Live e = refl
settled_live p (Due q) e = absurd (cc)
settled_live p (Retired q b) e = absurd (cc)
settled_live p (Collected n) e = absurd (cc)
settled_live p Waiting e = absurd (cc)
settled_live p (Reclaimed q) e = absurd (cc)

pub settled_standing : (p b e n : ℕ) (f : ItemState) → ((a : ℕ) → f ≢ Retired p a) → Standing b n f → Standing b (settled_since p e f n) (settled p f)
settled_standing p b e n Live other h = tt
settled_standing p b e n (Due q) other h = tt
settled_standing p b e n (Retired q a) other h = let ne : q ≢ p = (λ z. other a (ap (λ k. Retired k a) z)) in subst (λ c. b ≤ cond c (e - 2) n) (sym (ne_eqb q p ne)) h
settled_standing p b e n (Collected m) other h = h
settled_standing p b e n Waiting other h = h
settled_standing p b e n (Reclaimed q) other h = h

pub settled_most : (p e count : ℕ) (f : ItemState) (n : ℕ) → e ≤ count → n ≤ count → settled_since p e f n ≤ count
settled_most p e count Live n low h = h
settled_most p e count (Due q) n low h = h
settled_most p e count (Retired q a) n low h = elim (q == p) as (λ c. cond c (e - 2) n ≤ count) [ true ↦ omega arith | false ↦ h ]
settled_most p e count (Collected m) n low h = h
settled_most p e count Waiting n low h = h
settled_most p e count (Reclaimed q) n low h = h

pub settled_noted : (p : ℕ) (f : ItemState) (n : ℕ) → settled p f ≡ Collected n → f ≡ Collected n
settled_noted p Live n e = absurd (cc)
settled_noted p (Due q) n e = absurd (cc)
settled_noted p (Retired q b) n e = absurd (cc)
settled_noted p (Collected m) n e = e
settled_noted p Waiting n e = absurd (cc)
settled_noted p (Reclaimed q) n e = absurd (cc)

pub settled_from : (p e n : ℕ) (f : ItemState) (r a : ℕ) → settled p f ≡ Retired r a → (b : ℕ) × (f ≡ Retired r b) × (((r ≡ p) × (a ≡ 3) × (settled_since p e f n ≡ e - 2)) ⊎ ((r ≢ p) × (a ≡ b) × (settled_since p e f n ≡ n)))
settled_from p e n Live r a h = absurd (cc)
settled_from p e n (Due q) r a h = absurd (cc)
settled_from p e n (Collected m) r a h = absurd (cc)
settled_from p e n Waiting r a h = absurd (cc)
settled_from p e n (Reclaimed q) r a h = absurd (cc)
settled_from p e n (Retired q b) r a h = let c : ℕ = cond (q == p) 3 b in let hr : q ≡ r = cc in let ha : c ≡ a = cc in (
  b,
  ap (λ k. Retired k b) hr,
  dite (ℕ_discrete q p)
      (λ same. let three : c ≡ 3 = ap (λ k. cond k 3 b) (eq-eqb q p same) in inl (sym hr ∙ same, sym ha ∙ three, ap (λ k. cond k (e - 2) n) (eq-eqb q p same)))
      (λ other. let none : c ≡ b = ap (λ k. cond k 3 b) (ne_eqb q p other) in inr ((λ z. other (hr ∙ z)), sym ha ∙ none, ap (λ k. cond k (e - 2) n) (ne_eqb q p other))),
)
