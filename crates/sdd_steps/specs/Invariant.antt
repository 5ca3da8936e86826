-- what every state keeps that steps leave, and the promise that follows from it
use Rattle.std.specs.Prelude.{◌≡◌, ◌≢◌, ℕ, ◌+◌, ◌-◌, ◌^◌, ◌<◌, ◌≤◌, List, [], ◌∷◌, length, map, Option, None, Some}
use Rattle.sdd_steps.specs.declared.participant.Phase.{Phase}
use Rattle.sdd_steps.specs.declared.participant.Phase.TheVariants.{Idle, HasRead, Opened}
use Rattle.sdd_steps.specs.declared.item.ItemState.{ItemState}
use Rattle.sdd_steps.specs.declared.item.ItemState.TheVariants.{Live, Due, Retired, Collected, Waiting, Reclaimed}
use Rattle.sdd_steps.specs.declared.participant.Seen.{Seen}
use Rattle.sdd_steps.specs.declared.participant.Loaded.{Loaded}
use Rattle.sdd_steps.specs.declared.participant.Participant.{Participant}
use Rattle.sdd_steps.specs.declared.item.Item.{Item}
use Rattle.sdd_steps.specs.declared.item.Cell.{Cell}
use Rattle.sdd_steps.specs.declared.step.Step.{Step}
use Rattle.sdd_steps.specs.State.{State, At, Has, one_if_same, times, start}
use Rattle.sdd_steps.specs.Steps.{LeadsTo, Schedule, seen}

-- How often cells name the item i, and how often items hold it, half reclaimed ones with what they still hold
abbrev pub points : ℕ → Option ℕ → ℕ
points i None = 0
points i (Some j) = one_if_same i j

abbrev pub uses : ℕ → List (Option ℕ) → ℕ
uses i [] = 0
uses i (o ∷ os) = points i o + uses i os

abbrev pub held : ℕ → List Item → ℕ
held i [] = 0
held i (x ∷ xs) = times i x.holds + held i xs

abbrev pub names_of : List Cell → List (Option ℕ)
names_of = map (λ o. o.names)

-- owners are counted over their holders; an item that isn't live has none
pub record Owned (i : ℕ) (names : List (Option ℕ)) (items : List Item) (it : Item) : Type 0 where
  pub counted : it.owners ≡ it.hand + uses i names + held i items
  pub has_owner : it.state ≡ Live → 0 < it.owners
  pub is_live : 0 < it.owners → it.state ≡ Live
  pub limit : it.owners ≤ 2 ^ 32 - 1

pub record AllOwnersCounted (names : List (Option ℕ)) (items : List Item) : Type 0 where
  pub owned : (i : ℕ) (it : Item) → At items i it → Owned i names items it
  pub named : (c : ℕ) (i : ℕ) → At names c (Some i) → i < length items
  pub holding : (j : ℕ) (w : Item) (i : ℕ) → At items j w → Has w.holds i → i < length items

-- while a guard is open the count is raised at most once since its publication; `born` is the count at the publication
pub record Guarded (count born found : ℕ) (phase : Phase) (reread : Option ℕ) : Type 0 where
  pub past : found ≤ count
  pub reading : (e : ℕ) → phase ≡ HasRead e → (found ≤ e) × (e ≤ count)
  pub inside : (e : ℕ) → phase ≡ Opened e → (found ≤ e) × (e ≤ born) × (born ≤ count) × (count ≤ born + 1)
  pub again : (e n : ℕ) → phase ≡ Opened e → reread ≡ Some n → (born ≤ n) × (n ≤ count)

-- an item's age is at most one more than the raises since its retirement; `since` is the count at the retirement
pub record Ageing (since age found : ℕ) (phase : Phase) : Type 0 where
  pub behind : 0 < age → since + age ≤ found + 1
  pub young : age ≤ found
  pub reading : (e : ℕ) → phase ≡ HasRead e → since ≤ e
  pub turning : (e : ℕ) → phase ≡ Opened e → e ≢ found → since ≤ e

-- what a guard that was published at the count `born` may still see
abbrev pub Standing : ℕ → ℕ → ItemState → Type 0
Standing born since Live = Unit {0}
Standing born since (Due p) = Unit {0}
Standing born since (Retired r a) = born ≤ since
Standing born since (Collected n) = born ≤ since
Standing born since Waiting = born ≤ since
Standing born since (Reclaimed p) = ⊥

-- the item is what it was when it was loaded, and what it held then has the value that it had
pub record Same (items : List Item) (h : Loaded) (it : Item) : Type 0 where
  pub value : it.value ≡ h.value
  pub holds : map (seen items) it.holds ≡ h.holds

pub record Facts (s : State) (born since : ℕ → ℕ) : Type 0 where
  pub fits : s.count ≤ 2 ^ 64 - 1
  pub dated : (i : ℕ) → since i ≤ s.count
  pub guards : (p : ℕ) (x : Participant) → At s.participants p x → Guarded s.count (born p) x.found x.phase x.reread
  pub looks : (q : ℕ) (x : Participant) (p : ℕ) (y : Participant) (e : ℕ) → At s.participants q x → x.phase ≡ Opened s.count → Has x.looked p → At s.participants p y → y.phase ≡ Opened e → s.count ≤ born p
  pub ageing : (i : ℕ) (it : Item) (r a : ℕ) (x : Participant) → At s.items i it → it.state ≡ Retired r a → At s.participants r x → Ageing (since i) a x.found x.phase
  pub noted : (i : ℕ) (it : Item) (n : ℕ) → At s.items i it → it.state ≡ Collected n → (since i ≤ n + 1) × (n ≤ s.count)
  pub kept : (p : ℕ) (x : Participant) (e : ℕ) (h : Loaded) → At s.participants p x → x.phase ≡ Opened e → Has x.loaded h → (it : Item) × At s.items h.item it × Same s.items h it × Standing (born p) (since h.item) it.state
  pub calm : (p : ℕ) (x : Participant) (q : ℕ) → At s.participants p x → x.phase ≡ Idle → ¬ Has x.looked q
  pub quiet : (p q : ℕ) (x y : Participant) (n e : ℕ) (h : Loaded) (it : Item) (a : ℕ) → At s.participants p x → x.phase ≡ HasRead n → Has x.looked q → At s.participants q y → y.phase ≡ Opened e → Has y.loaded h → At s.items h.item it → it.state ≢ Retired p a

-- The invariant: owners are counted, and there are counts of publications and retirements that meet the rest
abbrev pub Inv : State → Type 0
Inv s = AllOwnersCounted (names_of s.cells) s.items × ((born : ℕ → ℕ) × (since : ℕ → ℕ) × Facts s born since)

-- The promise for an item that was loaded: it isn't reclaimed, its value is as it was, it still holds what it held, and each of these is live with an owner and has the value that it had
pub record Intact (s : State) (h : Loaded) : Type 0 where
  pub it : Item
  pub here : At s.items h.item it
  pub value : it.value ≡ h.value
  pub stands : (q : ℕ) → it.state ≢ Reclaimed q
  pub holds : map (seen s.items) it.holds ≡ h.holds
  pub owned : (z : Seen) → Has h.holds z → (k : Item) × At s.items z.item k × (k.value ≡ z.value) × (0 < k.owners) × (k.state ≡ Live)

-- The promise over all schedules: for every open guard, all that it loaded is intact
abbrev pub Safe : State → Type 0
Safe s = (p : ℕ) (x : Participant) (e : ℕ) (h : Loaded) → At s.participants p x → x.phase ≡ Opened e → Has x.loaded h → Intact s h

-- What the laws say
abbrev pub StepsKeep : Type 0
StepsKeep = (s : State) (a : Step) (t : State) → LeadsTo s a t → Inv s → Inv t

abbrev pub StartKeeps : Type 0
StartKeeps = (participants cells : ℕ) → Inv (start participants cells)

abbrev pub InvariantIsSafe : Type 0
InvariantIsSafe = (s : State) → Inv s → Safe s

abbrev pub SchedulesAreSafe : Type 0
SchedulesAreSafe = (participants cells : ℕ) (steps : List Step) (t : State) → Schedule (start participants cells) steps t → Safe t
