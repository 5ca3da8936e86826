-- what each call of a place makes of its state
use Rattle.std.specs.Prelude.{◌≡◌, ℕ, zero, suc, ◌+◌, ◌-◌, ◌==◌, Bool, true, false, not, ◌&&◌, cond, Option, None, Some, List, [], ◌∷◌, ◌++◌, length, replicate, reverse, leb, ltb}
use Rattle.std.specs.List.{list_all, sum_by}
use Rattle.sdd_table.specs.Groups.{less_owned, row_ended}
use Rattle.sdd_table.specs.Holding.{Hold, OwnedItem, SharedItem, OwnedIn, SharedIn, OwnerGroup}
use Rattle.sdd_table.specs.State.{State, ParticipantState, status_at, value_at, cell_at, participant_at, local_at, with_status, with_cell, with_groups, changing, published_at, with_local_state, with_local, retired, slot_freed, rotated_bags, taken, raised, is_present, behind_at}
use Rattle.sdd_table.specs.declared.status.Status.{Status}
use Rattle.sdd_table.specs.declared.status.Status.TheVariants as status
use Rattle.sdd_table.specs.declared.status.Cell.{Cell}
use Rattle.sdd_table.specs.declared.status.Cell.TheVariants as cell
pub use Rattle.sdd_plain.specs.Locals.{closings_after, scans}

-- 1 where two numbers are equal
abbrev pub hit : ℕ → ℕ → ℕ
hit i j = cond (i == j) 1 0

-- how often j is in a list
abbrev pub times : ℕ → List ℕ → ℕ
times j xs = sum_by (λ i. hit i j) xs

-- participant p gives one owner of a shared item back; the last one retires it
abbrev pub released_as : {T : Type 0} → Status → ℕ → ℕ → State T → State T
released_as status.Free p i w = w
released_as status.Owned p i w = w
released_as (status.Shared n) p i w = cond (leb n 1) (retired p i w) (with_status i (status.Shared (n - 1)) w)
released_as status.Raw p i w = w
released_as (status.Collected n b) p i w = w
released_as status.Retired p i w = w
released_as status.Idle p i w = w
released_as status.Deferred p i w = w

abbrev pub released : {T : Type 0} → ℕ → ℕ → State T → State T
released p i w = released_as (status_at w i) p i w

-- participant p gives the one owner of an item back
abbrev pub disowned_as : {T : Type 0} → Status → ℕ → ℕ → State T → State T
disowned_as status.Free p i w = w
disowned_as status.Owned p i w = retired p i w
disowned_as (status.Shared n) p i w = w
disowned_as status.Raw p i w = w
disowned_as (status.Collected n b) p i w = w
disowned_as status.Retired p i w = w
disowned_as status.Idle p i w = w
disowned_as status.Deferred p i w = w

abbrev pub disowned : {T : Type 0} → ℕ → ℕ → State T → State T
disowned p i w = disowned_as (status_at w i) p i w

-- a cell of owned items ends, and participant p gives back what it keeps
abbrev pub owned_ended_as : {T : Type 0} → Cell → ℕ → ℕ → State T → State T
owned_ended_as cell.Free p c w = w
owned_ended_as (cell.OfOwned None t) p c w = with_cell c cell.Free w
owned_ended_as (cell.OfOwned (Some i) t) p c w = disowned p i (with_cell c cell.Free w)
owned_ended_as (cell.OfShared o t) p c w = w
owned_ended_as (cell.OfRaw o t) p c w = w

abbrev pub owned_ended : {T : Type 0} → ℕ → ℕ → State T → State T
owned_ended p c w = owned_ended_as (cell_at w c) p c w

-- a cell of shared items ends, and participant p gives back what it keeps
abbrev pub shared_ended_as : {T : Type 0} → Cell → ℕ → ℕ → State T → State T
shared_ended_as cell.Free p c w = w
shared_ended_as (cell.OfOwned o t) p c w = w
shared_ended_as (cell.OfShared None t) p c w = with_cell c cell.Free w
shared_ended_as (cell.OfShared (Some i) t) p c w = released p i (with_cell c cell.Free w)
shared_ended_as (cell.OfRaw o t) p c w = w

abbrev pub shared_ended : {T : Type 0} → ℕ → ℕ → State T → State T
shared_ended p c w = shared_ended_as (cell_at w c) p c w

-- participant p gives one owner of each of several shared items back
abbrev pub released_each : {T : Type 0} → ℕ → List ℕ → State T → State T
released_each p [] w = w
released_each p (i ∷ is) w = released_each p is (released p i w)

-- an owner of group g is given back; the last one ends it, and gives back what its row names, from the end
abbrev pub group_given : {T : Type 0} → ℕ → ℕ → State T → State T
group_given p g w = released_each p (reverse (row_ended g w.groups)) (with_groups (less_owned g w.groups) w)

-- participant p gives back what an item held that it reclaims
abbrev pub given : {T : Type 0} → ℕ → Hold → State T → State T
given p (OwnedItem i) w = disowned p i w
given p (SharedItem i) w = released p i w
given p (OwnedIn c) w = owned_ended p c w
given p (SharedIn c) w = shared_ended p c w
given p (OwnerGroup g) w = group_given p g w

abbrev pub given_all : {T : Type 0} → ℕ → List Hold → State T → State T
given_all p [] w = w
given_all p (h ∷ hs) w = given_all p hs (given p h w)

-- what the item in a slot holds
abbrev pub held_in : {T : Type 0} → (T → List Hold) → Option T → List Hold
held_in holds None = []
held_in holds (Some v) = holds v

-- the next place that is due to p is reclaimed
abbrev pub due_reclaimed_as : {T : Type 0} → (T → List Hold) → ℕ → List ℕ → State T → State T
due_reclaimed_as holds p [] w = w
due_reclaimed_as holds p (i ∷ is) w = given_all p (held_in holds (value_at w i)) (taken p i is w)

abbrev pub due_reclaimed : {T : Type 0} → (T → List Hold) → ℕ → State T → State T
due_reclaimed holds p w = due_reclaimed_as holds p (participant_at w p).due w

-- the next n places that are due to p are reclaimed
abbrev pub reclaimed : {T : Type 0} → (T → List Hold) → ℕ → ℕ → State T → State T
reclaimed holds p zero w = w
reclaimed holds p (suc n) w = reclaimed holds p n (due_reclaimed holds p w)

-- the next place that was due to p was reclaimed
pub record IsNext {T : Type 0} (holds : T → List Hold) (p : ℕ) (w w' : State T) : Type 0 where
  pub place : ℕ
  pub rest : List ℕ
  pub was : (participant_at w p).due ≡ place ∷ rest
  pub now : w' ≡ due_reclaimed holds p w

abbrev pub is_nil : List ℕ → Bool
is_nil [] = true
is_nil (x ∷ xs) = false

abbrev pub bags_empty : ParticipantState → Bool
bags_empty m = is_nil m.current && (is_nil m.prior && is_nil m.oldest)

-- the flag of garbage is cleared where all three bags are empty
abbrev pub settled_in : ParticipantState → ParticipantState
settled_in m = with_local_state (record m.local { garbage = m.local.garbage && not (bags_empty m) }) m

abbrev pub settled : {T : Type 0} → ℕ → State T → State T
settled p w = changing p settled_in w

-- the bags of p move on once, and what was in the oldest is reclaimed
abbrev pub participant_rotated : {T : Type 0} → (T → List Hold) → ℕ → State T → State T
participant_rotated holds p w = settled p (reclaimed holds p (length (participant_at w p).oldest) (rotated_bags p w))

-- p publishes the count
abbrev pub count_published : {T : Type 0} → ℕ → State T → State T
count_published p w = changing p (published_at w.count) w

-- p opens a guard: an outermost one publishes the count, and rotates where that isn't the one found before
abbrev pub guard_opened : {T : Type 0} → (T → List Hold) → ℕ → State T → State T
guard_opened holds p w =
    cond ((local_at w p).nesting == 0)
    (cond ((local_at w p).previous == w.count) (count_published p w) (participant_rotated holds p (count_published p w)))
    (with_local p (record (local_at w p) { nesting = (local_at w p).nesting + 1 }) w)

-- the count is raised by one if every open guard published it, and it isn't at its end
abbrev pub scanned : {T : Type 0} → State T → State T
scanned w = cond (list_all (is_present w.count) w.participants && ltb w.count 18446744073709551615) (raised w) w

-- p closes a guard
abbrev pub guard_closed : {T : Type 0} → ℕ → State T → State T
guard_closed p w =
    cond ((local_at w p).nesting == 1)
    (cond (scans (local_at w p))
    (with_local p (record (local_at w p) { nesting = 0; closings = 0 }) (scanned w))
    (with_local p (record (local_at w p) { nesting = 0; closings = closings_after (local_at w p) }) w))
    (with_local p (record (local_at w p) { nesting = (local_at w p).nesting - 1 }) w)

-- what was collected at least three raises ago can be reclaimed: no guard that is open can name it
abbrev pub overdue : ℕ → Status → Bool
overdue count status.Free = false
overdue count status.Owned = false
overdue count (status.Shared n) = false
overdue count status.Raw = false
overdue count (status.Collected n b) = leb (n + 3) count
overdue count status.Retired = false
overdue count status.Idle = false
overdue count status.Deferred = false

-- the first place of a private bag, if there is one, isn't overdue
abbrev pub IsTimely : {T : Type 0} → State T → List ℕ → Type 0
IsTimely w [] = Unit {0}
IsTimely w (i ∷ is) = overdue w.count (status_at w i) ≡ false

-- what is left of a private bag whose first place is out of it, where that names n: the next place is the one that is named,
-- and the last place is known by itself
abbrev pub left_behind : ℕ → List ℕ → List ℕ
left_behind n [] = []
left_behind n (i ∷ []) = i ∷ []
left_behind n (i ∷ j ∷ is) = n ∷ j ∷ is

-- place i was the first of a private bag, and left it since it is overdue
abbrev pub LeavesOverdue : {T : Type 0} → ℕ → List ℕ → List ℕ → State T → Type 0
LeavesOverdue i was left w = (is : List ℕ) × (was ≡ i ∷ is) × (left ≡ left_behind (behind_at w i) is) × (overdue w.count (status_at w i) ≡ true)

-- the item in slot i, which waited in no bag of a participant, is reclaimed by p
abbrev pub noted_reclaimed : {T : Type 0} → (T → List Hold) → ℕ → ℕ → State T → State T
noted_reclaimed holds p i w = given_all p (held_in holds (value_at w i)) (slot_freed i w)

-- p reclaims what is overdue at the front of a private bag, n places of it at most
abbrev pub purged_within : {T : Type 0} → (T → List Hold) → ℕ → ℕ → List ℕ → State T → State T
purged_within holds p zero is w = w
purged_within holds p (suc n) [] w = w
purged_within holds p (suc n) (i ∷ is) w = cond (overdue w.count (status_at w i)) (purged_within holds p n (left_behind (behind_at w i) is) (noted_reclaimed holds p i w)) w

abbrev pub purged : {T : Type 0} → (T → List Hold) → ℕ → List ℕ → State T → State T
purged holds p is w = purged_within holds p (length is) is w

-- what that leaves in the bag
abbrev pub left_within : {T : Type 0} → (T → List Hold) → ℕ → ℕ → List ℕ → State T → List ℕ
left_within holds p zero is w = is
left_within holds p (suc n) [] w = []
left_within holds p (suc n) (i ∷ is) w = cond (overdue w.count (status_at w i)) (left_within holds p n (left_behind (behind_at w i) is) (noted_reclaimed holds p i w)) (i ∷ is)

abbrev pub left_waiting : {T : Type 0} → (T → List Hold) → ℕ → List ℕ → State T → List ℕ
left_waiting holds p is w = left_within holds p (length is) is w

-- an item in a private bag names place i, which comes behind it
abbrev pub followed_as : {T : Type 0} → Status → ℕ → ℕ → State T → State T
followed_as status.Free j i w = w
followed_as status.Owned j i w = w
followed_as (status.Shared n) j i w = w
followed_as status.Raw j i w = w
followed_as (status.Collected n b) j i w = with_status j (status.Collected n i) w
followed_as status.Retired j i w = w
followed_as status.Idle j i w = w
followed_as status.Deferred j i w = w

-- the last place of a private bag names place i
abbrev pub followed : {T : Type 0} → List ℕ → ℕ → State T → State T
followed [] i w = w
followed (j ∷ []) i w = followed_as (status_at w j) j i w
followed (j ∷ k ∷ is) i w = followed (k ∷ is) i w

-- an item waits in a private bag with room for n, which notes the count; where that is full, p retires it
abbrev pub set_aside : {T : Type 0} → ℕ → ℕ → List ℕ → ℕ → State T → State T
set_aside p n is i w = cond (ltb (length is) n) (with_status i (status.Collected w.count 0) (followed is i w)) (retired p i w)

abbrev pub enqueued : ℕ → List ℕ → ℕ → List ℕ
enqueued n is i = cond (ltb (length is) n) (is ++ i ∷ []) is

-- what waits in a private bag is retired by p
abbrev pub handed_over_as : {T : Type 0} → Status → ℕ → ℕ → State T → State T
handed_over_as status.Free p i w = w
handed_over_as status.Owned p i w = w
handed_over_as (status.Shared n) p i w = w
handed_over_as status.Raw p i w = w
handed_over_as (status.Collected n b) p i w = retired p i w
handed_over_as status.Retired p i w = w
handed_over_as status.Idle p i w = w
handed_over_as status.Deferred p i w = w

-- the first place of a private bag left it, and p retired what is in it
abbrev pub HandsFirst : {T : Type 0} → ℕ → List ℕ → List ℕ → State T → State T → Type 0
HandsFirst p was left w w' = (i : ℕ) × (is : List ℕ) × (was ≡ i ∷ is) × (left ≡ left_behind (behind_at w i) is) × (w' ≡ handed_over_as (status_at w i) p i w)

abbrev pub handed_within : {T : Type 0} → ℕ → ℕ → List ℕ → State T → State T
handed_within p zero is w = w
handed_within p (suc n) [] w = w
handed_within p (suc n) (i ∷ is) w = handed_within p n (left_behind (behind_at w i) is) (handed_over_as (status_at w i) p i w)

abbrev pub handed_over : {T : Type 0} → ℕ → List ℕ → State T → State T
handed_over p is w = handed_within p (length is) is w

-- participants rotate one after the other
abbrev pub rotated_each : {T : Type 0} → (T → List Hold) → List ℕ → State T → State T
rotated_each holds [] w = w
rotated_each holds (p ∷ ps) w = rotated_each holds ps (participant_rotated holds p w)

-- p rotated until its bags were empty
pub record Swept {T : Type 0} (holds : T → List Hold) (p : ℕ) (w w' : State T) : Type 0 where
  pub turns : ℕ
  pub now : w' ≡ rotated_each holds (replicate turns p) w
  pub empty : bags_empty (participant_at w' p) ≡ true

-- every participant rotated until all bags were empty
pub record AllSwept {T : Type 0} (holds : T → List Hold) (w w' : State T) : Type 0 where
  pub turns : List ℕ
  pub now : w' ≡ rotated_each holds turns w
  pub empty : (p : ℕ) → bags_empty (participant_at w' p) ≡ true

-- no guard is open
abbrev pub NoneOpen : {T : Type 0} → State T → Type 0
NoneOpen w = (p : ℕ) → (local_at w p).nesting ≡ 0
