-- the single steps that participants take on the words of a place, from what stands at the places that they read
use Rattle.std.proofs.Common.{◌≡◌, ◌≢◌, ◌&&◌, ◌||◌, ◌==◌, Bool, true, false, not, ℕ, zero, suc, ◌+◌, ◌-◌, ◌^◌, ◌<◌, List, [], ◌∷◌, ◌++◌, set, map, length, sym, refl, ap, ◌∙◌, subst, ⊎_elim, arith, None, eq-eqb, ne_eqb, lt-ltb, le-leb, nat_lt, nat_le, ◌≤◌}
use mathlib.Core.Logic.{dite}
use native.Mathlib.Decide.{ℕ_discrete}
use Rattle.sdd_steps.specs.declared.participant.Phase.{Phase}
use Rattle.sdd_steps.specs.declared.participant.Phase.TheVariants.{Idle, HasRead, Opened}
use Rattle.sdd_steps.specs.declared.participant.Participant.{Participant}
use Rattle.sdd_steps.specs.declared.item.Item.{Item}
use Rattle.sdd_steps.specs.declared.item.ItemState.{ItemState}
use Rattle.sdd_steps.specs.declared.item.ItemState.TheVariants.{Live, Due, Retired, Collected, Waiting, Reclaimed}
use Rattle.sdd_steps.specs.declared.step.Step.{Step}
use Rattle.sdd_steps.specs.declared.step.Step.TheVariants.{ReadEpoch, Publish, Rotate, Look, Raise, Close, End, LookShut, Settle}
use Rattle.sdd_steps.specs.State.{State, At, Has, has, with_participant, participant_at, participant_is}
use Rattle.sdd_steps.specs.Steps.{LeadsTo, Schedule, is_opened_phase, is_idle, is_reading, is_turning, is_inside, is_shut, is_reading_phase, agrees, count_of, all_looked, older, settled_by, left_by, is_due, none_due}
use Rattle.sdd_steps.specs.Invariant.{Inv}
use Rattle.sdd_steps.proofs.Law.{keeps}
use Rattle.domain_table.specs.Rule.{Runs}
use Rattle.sdd_steps.proofs.Enabling.{participant_passes, participant_read}

pub and_true : (a b : Bool) → a ≡ true → b ≡ true → (a && b) ≡ true
and_true a b ea eb = ap (λ x. x && b) ea ∙ eb

pub or_left : (a b : Bool) → a ≡ true → (a || b) ≡ true
or_left a b ea = ap (λ x. x || b) ea

or_right : (a b : Bool) → b ≡ true → (a || b) ≡ true
or_right true b e = refl
or_right false b e = e

inside : (x : Participant) (e : ℕ) → x.phase ≡ Opened e → e ≡ x.found → is_inside x ≡ true
inside x e is found = and_true (is_opened_phase x.phase) (count_of x.phase == x.found) (ap is_opened_phase is) (eq-eqb (count_of x.phase) x.found (ap count_of is ∙ found))

has_true : (i : ℕ) (l : List ℕ) → Has l i → has i l ≡ true
has_true i [] h = absurd h
has_true i (j ∷ l) h = ⊎_elim (λ (e : j ≡ i). or_left (j == i) (has i l) (eq-eqb j i e)) (λ (t : Has l i). or_right (j == i) (has i l) (has_true i l t)) h

looked_all : (p : ℕ) (looked : List ℕ) (n : ℕ) → ((q : ℕ) → q < n → q ≢ p → Has looked q) → all_looked p looked n ≡ true
looked_all p looked zero h = refl
looked_all p looked (suc n) h = and_true ((n == p) || has n looked) (all_looked p looked n)
    (dite (ℕ_discrete n p) (λ e. or_left (n == p) (has n looked) (eq-eqb n p e)) (λ ne. or_right (n == p) (has n looked) (has_true n looked (h n (omega arith) ne))))
    (looked_all p looked n (λ q lt ne. h q (omega arith) ne))

agreed : (count : ℕ) (y : Participant) → ((e : ℕ) → y.phase ≡ Opened e → e ≡ count) → agrees count y ≡ true
agreed count y h = go y.phase refl
  where
    go : (f : Phase) → y.phase ≡ f → agrees count y ≡ true
    go Idle e = or_left (not (is_opened_phase y.phase)) (count_of y.phase == count) (ap (λ z. not (is_opened_phase z)) e)
    go (HasRead m) e = or_left (not (is_opened_phase y.phase)) (count_of y.phase == count) (ap (λ z. not (is_opened_phase z)) e)
    go (Opened m) e = or_right (not (is_opened_phase y.phase)) (count_of y.phase == count) (eq-eqb (count_of y.phase) count (ap count_of e ∙ h m e))

shut : (y : Participant) → ((e : ℕ) → y.phase ≢ Opened e) → is_shut y ≡ true
shut y none = go y.phase refl
  where
    go : (f : Phase) → y.phase ≡ f → is_shut y ≡ true
    go Idle e = ap (λ z. not (is_opened_phase z)) e
    go (HasRead m) e = ap (λ z. not (is_opened_phase z)) e
    go (Opened m) e = absurd (none m e)

undue : (p : ℕ) (f : ItemState) → f ≢ Due p → not (is_due p f) ≡ true
undue p Live h = refl
undue p (Due q) h = ap not (ne_eqb q p (λ e. h (ap Due e)))
undue p (Retired q a) h = refl
undue p (Collected n) h = refl
undue p Waiting h = refl
undue p (Reclaimed q) h = refl

none_are_due : (p : ℕ) (items : List Item) → ((i : ℕ) (it : Item) → At items i it → it.state ≢ Due p) → none_due p items ≡ true
none_are_due p [] none = refl
none_are_due p (it ∷ its) none = and_true (not (is_due p it.state)) (none_due p its) (undue p it.state (none 0 it refl)) (none_are_due p its (λ i z at. none (suc i) z at))

module _ (s : State) (p : ℕ) (x : Participant) (at : At s.participants p x) where
  read : participant_at s p ≡ x
  read = participant_read s p x at

  pub reads : x.phase ≡ Idle → LeadsTo s (ReadEpoch p) (with_participant s p (record x { phase = HasRead s.count }))
  reads is = (participant_passes is_idle s p x at (ap Rattle.sdd_steps.specs.Steps.is_idle_phase is), λ j. with_participant s p (record (sym read j) { phase = HasRead s.count }))

  pub publishes : (e : ℕ) → x.phase ≡ HasRead e → LeadsTo s (Publish p) (with_participant s p (record x { phase = Opened e; reread = None; looked = []; loaded = [] }))
  publishes e is = (
    participant_passes is_reading s p x at (ap Rattle.sdd_steps.specs.Steps.is_reading_phase is),
    (λ j. with_participant s p (record x { phase = Opened (ap count_of (sym is) j); reread = None; looked = []; loaded = [] }))
        ∙ (λ j. with_participant s p (record (sym read j) { phase = Opened (count_of (sym read j).phase); reread = None; looked = []; loaded = [] })),
  )

  pub rotates : (e : ℕ) → x.phase ≡ Opened e → e ≢ x.found → LeadsTo s (Rotate p) (record s { participants = set s.participants p (record x { found = e }); items = map (older p) s.items })
  rotates e is differs = (
    participant_passes is_turning s p x at (and_true (is_opened_phase x.phase) (not (count_of x.phase == x.found)) (ap is_opened_phase is) (ap not (ne_eqb (count_of x.phase) x.found (λ h. differs (sym (ap count_of is) ∙ h))))),
    (λ j. record s { participants = set s.participants p (record x { found = ap count_of (sym is) j }); items = map (older p) s.items })
        ∙ (λ j. record s { participants = set s.participants p (record (sym read j) { found = count_of (sym read j).phase }); items = map (older p) s.items }),
  )

  pub looks : (e q : ℕ) (y : Participant) → x.phase ≡ Opened e → e ≡ x.found → q ≢ p → At s.participants q y → ((m : ℕ) → y.phase ≡ Opened m → m ≡ s.count)
      → LeadsTo s (Look p q) (with_participant s p (record x { looked = x.looked ++ q ∷ [] }))
  looks e q y is found other at_q agree = (
    and_true (participant_is is_inside s p && not (q == p)) (participant_is (agrees s.count) s q)
        (and_true (participant_is is_inside s p) (not (q == p)) (participant_passes is_inside s p x at (inside x e is found)) (ap not (ne_eqb q p other)))
        (participant_passes (agrees s.count) s q y at_q (agreed s.count y agree)),
    λ j. with_participant s p (record (sym read j) { looked = (sym read j).looked ++ q ∷ [] }),
  )

  pub looks_shut : (e q : ℕ) (y : Participant) → x.phase ≡ HasRead e → q ≢ p → At s.participants q y → ((m : ℕ) → y.phase ≢ Opened m) → LeadsTo s (LookShut p q) (with_participant s p (record x { looked = x.looked ++ q ∷ [] }))
  looks_shut e q y is other at_q none = (
    and_true (participant_is is_reading s p && not (q == p)) (participant_is is_shut s q)
        (and_true (participant_is is_reading s p) (not (q == p)) (participant_passes is_reading s p x at (ap is_reading_phase is)) (ap not (ne_eqb q p other)))
        (participant_passes is_shut s q y at_q (shut y none)),
    λ j. with_participant s p (record (sym read j) { looked = (sym read j).looked ++ q ∷ [] }),
  )

  pub settles : (e : ℕ) → x.phase ≡ HasRead e → 3 ≤ e → ((q : ℕ) → q < length s.participants → q ≢ p → Has x.looked q) → LeadsTo s (Settle p) (record s { participants = set s.participants p (record x { found = e }); items = map (settled_by p) s.items })
  settles e is three all = (
    participant_passes (λ z. is_reading z && nat_le 3 (count_of z.phase) && all_looked p z.looked (length s.participants)) s p x at
        (and_true (is_reading x && nat_le 3 (count_of x.phase)) (all_looked p x.looked (length s.participants))
        (and_true (is_reading x) (nat_le 3 (count_of x.phase)) (ap is_reading_phase is) (ap (λ z. nat_le 3 (count_of z)) is ∙ le-leb 3 e three)) (looked_all p x.looked (length s.participants) all)),
    (λ j. record s { participants = set s.participants p (record x { found = ap count_of (sym is) j }); items = map (settled_by p) s.items })
        ∙ (λ j. record s { participants = set s.participants p (record (sym read j) { found = count_of (sym read j).phase }); items = map (settled_by p) s.items }),
  )

  pub raises : x.phase ≡ Opened s.count → s.count ≡ x.found → ((q : ℕ) → q < length s.participants → q ≢ p → Has x.looked q) → s.count < 2 ^ 64 - 1
      → LeadsTo s (Raise p) (record s { count = s.count + 1 })
  raises is found all below = (
    and_true (participant_is (λ z. is_inside z && (count_of z.phase == s.count) && all_looked p z.looked (length s.participants)) s p) (nat_lt s.count (2 ^ 64 - 1))
        (participant_passes (λ z. is_inside z && (count_of z.phase == s.count) && all_looked p z.looked (length s.participants)) s p x at
        (and_true (is_inside x && (count_of x.phase == s.count)) (all_looked p x.looked (length s.participants)) (and_true (is_inside x) (count_of x.phase == s.count) (inside x s.count is found) (eq-eqb (count_of x.phase) s.count (ap count_of is))) (looked_all p x.looked (length s.participants) all)))
        (lt-ltb s.count (2 ^ 64 - 1) below),
    refl,
  )

  pub closes : (e : ℕ) → x.phase ≡ Opened e → e ≡ x.found → LeadsTo s (Close p) (with_participant s p (record x { phase = Idle; reread = None; looked = []; loaded = [] }))
  closes e is found = (participant_passes is_inside s p x at (inside x e is found), λ j. with_participant s p (record (sym read j) { phase = Idle; reread = None; looked = []; loaded = [] }))

  -- nothing is due to it
  pub ends : x.phase ≡ Idle → ((i : ℕ) (it : Item) → At s.items i it → it.state ≢ Due p) → LeadsTo s (End p) (record s { participants = set s.participants p (record x { found = 0 }); items = map (left_by p) s.items })
  ends is none = (
    and_true (participant_is is_idle s p) (none_due p s.items) (participant_passes is_idle s p x at (ap Rattle.sdd_steps.specs.Steps.is_idle_phase is)) (none_are_due p s.items none),
    λ j. record s { participants = set s.participants p (record (sym read j) { found = 0 }); items = map (left_by p) s.items },
  )

-- single steps one after the other
chained : (s m t : State) (list later : List Step) → Schedule s list m → Schedule m later t → Schedule s (list ++ later) t
chained s m t [] later h k = subst (λ z. Schedule z later t) h k
chained s m t (a ∷ list) later h k = (h.0, h.1, chained h.0 m t list later h.2 k)

pub one : (s : State) (a : Step) (t : State) → LeadsTo s a t → Runs s t
one s a t h = (a ∷ [], (t, h, refl))

pub goes_on : (s m t : State) → Runs s m → Runs m t → Runs s t
goes_on s m t h k = (h.0 ++ k.0, chained s m t h.0 k.0 h.1 k.1)

led : (s t : State) (list : List Step) → Schedule s list t → Inv s → Inv t
led s t [] h i = subst Inv (sym h) i
led s t (a ∷ list) h i = led h.0 t list h.2 (keeps s a h.0 h.1 i)

pub run_keeps : (s t : State) → Runs s t → Inv s → Inv t
run_keeps s t h i = led s t h.0 h.1 i
