-- what a private bag does that is known by its ends
use Rattle.std.proofs.Common.{◌≡◌, ◌≢◌, ◌<◌, ℕ, zero, suc, None, Some, List, [], ◌∷◌, ◌++◌, length, get_or, set, ltb, true, refl, sym, ap, ◌∙◌, subst, arith, length-set, get_or-set_other, get_or-set_same, inl, inr}
use Rattle.std.proofs.lemmas.Bool.Decides.{eqb_tells, nat_tests}
use Rattle.sdd_table.specs.State.{State, status_at, mark_of}
use Rattle.sdd_table.specs.Steps.{followed, followed_as}
use Rattle.sdd_table.specs.declared.status.Status.{Status}
use Rattle.sdd_table.specs.declared.status.Status.TheVariants as status

pub first_of : (is : List ℕ) (i : ℕ) → 0 < length is → i ≡ get_or is 0 0 → (js : List ℕ) × (is ≡ i ∷ js)
first_of [] i some e = absurd (omega (arith, some))
first_of (j ∷ js) i some e = (js, ap (λ k. k ∷ js) (sym e))

-- the last place of a list is the one that names what comes behind it
pub followed_last : {T : Type 0} (is : List ℕ) (j i : ℕ) (w : State T) → followed (is ++ j ∷ []) i w ≡ followed_as (status_at w j) j i w
followed_last [] j i w = refl
followed_last (k ∷ []) j i w = refl
followed_last (k ∷ l ∷ is) j i w = followed_last (l ∷ is) j i w

-- what waits in no private bag names nothing
pub names_none : {T : Type 0} (s : Status) (j i : ℕ) (w : State T) → ((n b : ℕ) → s ≡ status.Collected n b → ⊥) → followed_as s j i w ≡ w
names_none status.Free j i w other = refl
names_none status.Owned j i w other = refl
names_none (status.Shared n) j i w other = refl
names_none status.Raw j i w other = refl
names_none (status.Collected n b) j i w other = absurd (other n b refl)
names_none status.Retired j i w other = refl
names_none status.Idle j i w other = refl
names_none status.Deferred j i w other = refl

-- where the use of a place changes, and what f tells of it doesn't
pub told_set : {X : Type 0} (f : Status → X) (ss : List Status) (i j : ℕ) (s : Status) → i < length ss → f s ≡ f (get_or ss i status.Free) → f (get_or (set ss i s) j status.Free) ≡ f (get_or ss j status.Free)
told_set f ss i j s inside even =
    elim (eqb_tells j i) [
      | inl t ↦
          let P : ℕ → Type 0 = λ k. f (get_or (set ss i s) k status.Free) ≡ f (get_or ss k status.Free) in
          let here : P i = ap f (get_or-set_same ss i s status.Free inside) ∙ even in
          subst P (sym t.1) here
      | inr t ↦ ap f (get_or-set_other ss i j s status.Free t.1)
    ]

-- a slot that isn't free is one of the store
named_inside : (ss : List Status) (i n b : ℕ) → status.Collected n b ≡ get_or ss i status.Free → i < length ss
named_inside [] i n b e = absurd cc
named_inside (x ∷ xs) zero n b e = omega arith
named_inside (x ∷ xs) (suc i) n b e = omega (arith, named_inside xs i n b e)

-- what is as it was where an item in a private bag names another place
pub record Names {T : Type 0} (w w' : State T) : Type 1 where
  pub count : w'.count ≡ w.count
  pub values : w'.values ≡ w.values
  pub cells : w'.cells ≡ w.cells
  pub participants : w'.participants ≡ w.participants
  pub places : length w'.states ≡ length w.states
  pub told : {X : Type 0} (f : Status → X) → ((n b c : ℕ) → f (status.Collected n b) ≡ f (status.Collected n c)) → (k : ℕ) → f (status_at w' k) ≡ f (status_at w k)

names_same : {T : Type 0} (w : State T) → Names w w
names_same w = record { count = refl; values = refl; cells = refl; participants = refl; places = refl; told = λ f even k. refl }

pub names_as : {T : Type 0} (s : Status) (j i : ℕ) (w : State T) → s ≡ status_at w j → Names w (followed_as s j i w)
names_as status.Free j i w e = names_same w
names_as status.Owned j i w e = names_same w
names_as (status.Shared n) j i w e = names_same w
names_as status.Raw j i w e = names_same w
names_as (status.Collected n b) j i w e = record {
  count = refl;
  values = refl;
  cells = refl;
  participants = refl;
  places = length-set w.states j (status.Collected n i);
  told = λ f even k. told_set f w.states j k (status.Collected n i) (named_inside w.states j n b e) (even n i b ∙ ap f e);
}
names_as status.Retired j i w e = names_same w
names_as status.Idle j i w e = names_same w
names_as status.Deferred j i w e = names_same w

pub names : {T : Type 0} (is : List ℕ) (i : ℕ) (w : State T) → Names w (followed is i w)
names [] i w = names_same w
names (j ∷ []) i w = names_as (status_at w j) j i w refl
names (j ∷ k ∷ is) i w = names (k ∷ is) i w

pub room_left : (m n : ℕ) → m < n → ltb m n ≡ true
room_left m n h = grind (arith, nat_tests)

-- a place other than the one that names another is used as before
pub named_apart : {T : Type 0} (s : Status) (j i : ℕ) (w : State T) (k : ℕ) → k ≢ j → status_at (followed_as s j i w) k ≡ status_at w k
named_apart status.Free j i w k far = refl
named_apart status.Owned j i w k far = refl
named_apart (status.Shared n) j i w k far = refl
named_apart status.Raw j i w k far = refl
named_apart (status.Collected n b) j i w k far = get_or-set_other w.states j k (status.Collected n i) status.Free far
named_apart status.Retired j i w k far = refl
named_apart status.Idle j i w k far = refl
named_apart status.Deferred j i w k far = refl

-- what waits in no private bag is used as before
stays_as : {T : Type 0} (s : Status) (j i : ℕ) (w : State T) (k : ℕ) → s ≡ status_at w j → mark_of (status_at w k) ≡ None → status_at (followed_as s j i w) k ≡ status_at w k
stays_as status.Free j i w k e none = refl
stays_as status.Owned j i w k e none = refl
stays_as (status.Shared n) j i w k e none = refl
stays_as status.Raw j i w k e none = refl
stays_as (status.Collected n b) j i w k e none =
    let far : k ≢ j = λ f. let P : ℕ → Type 0 = λ x. mark_of (status_at w x) ≡ None in let here : P j = subst P f none in let there : Some (n, b) ≡ None = ap mark_of e ∙ here in absurd cc in
    named_apart (status.Collected n b) j i w k far
stays_as status.Retired j i w k e none = refl
stays_as status.Idle j i w k e none = refl
stays_as status.Deferred j i w k e none = refl

pub unnamed_stays : {T : Type 0} (is : List ℕ) (i : ℕ) (w : State T) (k : ℕ) → mark_of (status_at w k) ≡ None → status_at (followed is i w) k ≡ status_at w k
unnamed_stays [] i w k none = refl
unnamed_stays (j ∷ []) i w k none = stays_as (status_at w j) j i w k refl none
unnamed_stays (j ∷ l ∷ is) i w k none = unnamed_stays (l ∷ is) i w k none
