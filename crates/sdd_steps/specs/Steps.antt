-- the single steps: where each is enabled, and what it makes of a state
use Rattle.std.specs.Prelude.{◌≡◌, ℕ, zero, suc, ◌+◌, ◌-◌, ◌^◌, ◌==◌, ◌||◌, ◌&&◌, not, nat_lt, nat_le, is_some, Bool, true, false, cond, Option, None, Some, List, [], ◌∷◌, ◌++◌, get_or, set, length, map}
use Rattle.sdd_steps.specs.declared.participant.Phase.{Phase}
use Rattle.sdd_steps.specs.declared.participant.Phase.TheVariants.{Idle, HasRead, Opened}
use Rattle.sdd_steps.specs.declared.item.ItemState.{ItemState}
use Rattle.sdd_steps.specs.declared.item.ItemState.TheVariants.{Live, Due, Retired, Collected, Waiting, Reclaimed}
use Rattle.sdd_steps.specs.declared.participant.Seen.{Seen}
use Rattle.sdd_steps.specs.declared.participant.Loaded.{Loaded}
use Rattle.sdd_steps.specs.declared.participant.Participant.{Participant}
use Rattle.sdd_steps.specs.declared.item.Item.{Item}
use Rattle.sdd_steps.specs.declared.item.Cell.{Cell}
use Rattle.sdd_steps.specs.declared.step.Step.{Step}
use Rattle.sdd_steps.specs.declared.step.Step.TheVariants.{ReadEpoch, Publish, Rotate, LoadCell, LoadInHand, ReadSegment, SwapCell, Release, Retire, Collect, Look, Raise, Reclaim, GiveUp, GiveUpCell, Close, Place, RaiseOwners, Reread, End, TakeOver, LookShut, Settle}
use Rattle.sdd_steps.specs.State.{State, participant_at, cell_at, item_at, participant_is, cell_is, item_is, with_participant, with_cell, with_item, has, times, without, no_item, empty_cell}

-- phases: without a guard; the count was read and not published; a guard is open
abbrev pub is_idle_phase : Phase → Bool
is_idle_phase Idle = true
is_idle_phase (HasRead e) = false
is_idle_phase (Opened e) = false

abbrev pub is_reading_phase : Phase → Bool
is_reading_phase Idle = false
is_reading_phase (HasRead e) = true
is_reading_phase (Opened e) = false

abbrev pub is_opened_phase : Phase → Bool
is_opened_phase Idle = false
is_opened_phase (HasRead e) = false
is_opened_phase (Opened e) = true

-- the count that was read
abbrev pub count_of : Phase → ℕ
count_of Idle = 0
count_of (HasRead e) = e
count_of (Opened e) = e

abbrev pub is_idle : Participant → Bool
is_idle x = is_idle_phase x.phase

abbrev pub is_reading : Participant → Bool
is_reading x = is_reading_phase x.phase

-- it published another count than its previous opening found, so its rotation is due
abbrev pub is_turning : Participant → Bool
is_turning x = is_opened_phase x.phase && not (count_of x.phase == x.found)

-- its guard is open, and no rotation is due
abbrev pub is_inside : Participant → Bool
is_inside x = is_opened_phase x.phase && (count_of x.phase == x.found)

-- it is free to take steps that ask for no guard
abbrev pub is_ready : Participant → Bool
is_ready x = is_idle x || is_inside x

-- closed, or open with the present count
abbrev pub agrees : ℕ → Participant → Bool
agrees count x = not (is_opened_phase x.phase) || (count_of x.phase == count)

-- no guard of it is open
abbrev pub is_shut : Participant → Bool
is_shut x = not (is_opened_phase x.phase)

-- each number below n is p or was looked at
abbrev pub all_looked : ℕ → List ℕ → ℕ → Bool
all_looked p looked zero = true
all_looked p looked (suc n) = ((n == p) || has n looked) && all_looked p looked n

-- item i was loaded; item i was loaded and held k then
abbrev pub was_loaded : ℕ → List Loaded → Bool
was_loaded i [] = false
was_loaded i (h ∷ hs) = (h.item == i) || was_loaded i hs

abbrev pub was_held : ℕ → List Seen → Bool
was_held k [] = false
was_held k (z ∷ zs) = (z.item == k) || was_held k zs

abbrev pub segment_loaded : ℕ → ℕ → List Loaded → Bool
segment_loaded i k [] = false
segment_loaded i k (h ∷ hs) = ((h.item == i) && was_held k h.holds) || segment_loaded i k hs

-- items and cells
abbrev pub has_loose_owner : Item → Bool
has_loose_owner it = nat_lt 0 it.hand

abbrev pub is_live : ItemState → Bool
is_live Live = true
is_live (Due p) = false
is_live (Retired p a) = false
is_live (Collected n) = false
is_live Waiting = false
is_live (Reclaimed p) = false

abbrev pub is_due : ℕ → ItemState → Bool
is_due q Live = false
is_due q (Due p) = p == q
is_due q (Retired p a) = false
is_due q (Collected n) = false
is_due q Waiting = false
is_due q (Reclaimed p) = false

abbrev pub is_reclaimed : ℕ → ItemState → Bool
is_reclaimed q Live = false
is_reclaimed q (Due p) = false
is_reclaimed q (Retired p a) = false
is_reclaimed q (Collected n) = false
is_reclaimed q Waiting = false
is_reclaimed q (Reclaimed p) = p == q

-- it waits for a participant, or is in a private bag
abbrev pub is_left : ItemState → Bool
is_left Live = false
is_left (Due p) = false
is_left (Retired p a) = false
is_left (Collected n) = true
is_left Waiting = true
is_left (Reclaimed p) = false

-- the count n was read again, three above the note
abbrev pub is_past : ℕ → Option ℕ → Bool
is_past note None = false
is_past note (Some n) = nat_le (note + 3) n

-- the participant q, as it is, may begin to reclaim
abbrev pub is_reclaimable : ℕ → Participant → ItemState → Bool
is_reclaimable q x Live = false
is_reclaimable q x (Due p) = false
is_reclaimable q x (Retired p a) = (p == q) && (a == 3)
is_reclaimable q x (Collected n) = is_inside x && is_past n x.reread
is_reclaimable q x Waiting = false
is_reclaimable q x (Reclaimed p) = false

abbrev pub none_due : ℕ → List Item → Bool
none_due p [] = true
none_due p (it ∷ its) = not (is_due p it.state) && none_due p its

abbrev pub stands_alone : Cell → Bool
stands_alone o = not (is_some o.holder)

abbrev pub is_full : Cell → Bool
is_full o = is_some o.names

-- the holder of a cell, if any, passes a test
abbrev pub holder_is : (ℕ → Bool) → Option ℕ → Bool
holder_is test None = false
holder_is test (Some j) = test j

-- the cell has no holder, or its holder is in hand
abbrev pub is_reachable : State → Cell → Bool
is_reachable s o = stands_alone o || holder_is (item_is has_loose_owner s) o.holder

-- the participant, under its guard, has loaded the cell's holder
abbrev pub is_within : State → ℕ → Cell → Bool
is_within s p o = participant_is is_inside s p && holder_is (λ j. was_loaded j (participant_at s p).loaded) o.holder

-- an item, if any, is in hand
abbrev pub is_offered : State → Option ℕ → Bool
is_offered s None = true
is_offered s (Some i) = item_is has_loose_owner s i

-- as many owners of each item are in hand as a list names
abbrev pub all_have_loose_owners : List Item → List ℕ → List ℕ → Bool
all_have_loose_owners items all [] = true
all_have_loose_owners items all (k ∷ ks) = (nat_lt k (length items) && nat_le (times k all) (get_or items k no_item).hand) && all_have_loose_owners items all ks

abbrev pub all_alone : List Cell → List ℕ → Bool
all_alone cells [] = true
all_alone cells (c ∷ cs) = (nat_lt c (length cells) && stands_alone (get_or cells c empty_cell)) && all_alone cells cs

-- the participant p published this count, and has looked at all others of n
abbrev pub may_raise : ℕ → ℕ → ℕ → Participant → Bool
may_raise p count n x = is_inside x && (count_of x.phase == count) && all_looked p x.looked n

-- it has read a count of 3 at least, and has looked at all others of n
abbrev pub may_settle : ℕ → ℕ → Participant → Bool
may_settle p n x = is_reading x && nat_le 3 (count_of x.phase) && all_looked p x.looked n

-- the cell has an item, and is in the participant's reach
abbrev pub may_load : State → ℕ → Cell → Bool
may_load s p o = is_full o && (is_reachable s o || is_within s p o)

-- it has one, and its holder is an item that the participant reclaimed
abbrev pub gives_up : State → ℕ → Cell → Bool
gives_up s p o = is_full o && holder_is (item_is (λ w. is_reclaimed p w.state) s) o.holder

-- where a step is enabled
abbrev pub enabled : State → Step → Bool
enabled s (ReadEpoch p) = participant_is is_idle s p
enabled s (Publish p) = participant_is is_reading s p
enabled s (Rotate p) = participant_is is_turning s p
enabled s (LoadCell p c) = participant_is is_inside s p && cell_is (may_load s p) s c
enabled s (LoadInHand p i) = participant_is is_inside s p && item_is has_loose_owner s i
enabled s (ReadSegment p i k) = participant_is (λ x. is_inside x && segment_loaded i k x.loaded) s p
enabled s (SwapCell p c new) = participant_is is_ready s p && cell_is (λ o. is_reachable s o || is_within s p o) s c && is_offered s new
enabled s (Release p i) = participant_is is_ready s p && item_is has_loose_owner s i
enabled s (Retire p i) = participant_is is_ready s p && item_is (λ it. is_due p it.state) s i
enabled s (Collect p i) = participant_is (λ x. is_inside x && is_some x.reread) s p && item_is (λ it. is_due p it.state) s i
enabled s (Look p q) = participant_is is_inside s p && not (q == p) && participant_is (agrees s.count) s q
enabled s (Raise p) = participant_is (may_raise p s.count (length s.participants)) s p && nat_lt s.count (2 ^ 64 - 1)
enabled s (Reclaim p i) = participant_is is_ready s p && item_is (λ it. is_reclaimable p (participant_at s p) it.state) s i
enabled s (GiveUp p j i) = participant_is is_ready s p && item_is (λ w. is_reclaimed p w.state && has i w.holds) s j
enabled s (GiveUpCell p c) = participant_is is_ready s p && cell_is (gives_up s p) s c
enabled s (Close p) = participant_is is_inside s p
enabled s (Place p value holds cells) = participant_is is_ready s p && all_have_loose_owners s.items holds holds && all_alone s.cells cells
enabled s (RaiseOwners p i) = participant_is is_ready s p && item_is (λ it. is_live it.state && nat_lt it.owners (2 ^ 32 - 1)) s i
enabled s (Reread p) = participant_is is_inside s p
enabled s (End p) = participant_is is_idle s p && none_due p s.items
enabled s (TakeOver p i) = participant_is is_ready s p && item_is (λ it. is_left it.state) s i
enabled s (LookShut p q) = participant_is is_reading s p && not (q == p) && participant_is is_shut s q
enabled s (Settle p) = participant_is (may_settle p (length s.participants)) s p

-- the item that a cell names
abbrev pub named : Option ℕ → ℕ
named None = 0
named (Some i) = i

abbrev pub seen : List Item → ℕ → Seen
seen items k = record { item = k; value = (get_or items k no_item).value }

abbrev pub loaded_as : List Item → ℕ → Loaded
loaded_as items i = record { item = i; value = (get_or items i no_item).value; holds = map (seen items) (get_or items i no_item).holds }

abbrev pub with_loaded : State → ℕ → ℕ → State
with_loaded s p i = with_participant s p (record (participant_at s p) { loaded = (participant_at s p).loaded ++ loaded_as s.items i ∷ [] })

-- an owner comes into the hand, or leaves it
abbrev pub handed : Item → Item
handed it = record it { hand = it.hand + 1 }

abbrev pub unhanded : Item → Item
unhanded it = record it { hand = it.hand - 1 }

-- a cell gives its item, if any, into the hand, and takes one, if any, out of it
abbrev pub emptied : State → ℕ → Option ℕ → State
emptied s c None = s
emptied s c (Some i) = with_item (with_cell s c (record (cell_at s c) { names = None })) i (handed (item_at s i))

abbrev pub filled : State → ℕ → Option ℕ → State
filled s c None = s
filled s c (Some i) = with_item (with_cell s c (record (cell_at s c) { names = Some i })) i (unhanded (item_at s i))

-- an item without its first owner of another one
abbrev pub without_owner : State → ℕ → ℕ → State
without_owner s j i = with_item s j (record (item_at s j) { holds = without i (item_at s j).holds })

-- the last owner leaves the item due to p
abbrev pub after_release : ℕ → Item → Item
after_release p it = record it { hand = it.hand - 1; owners = it.owners - 1; state = cond (it.owners - 1 == 0) (Due p) it.state }

abbrev pub with_state : State → ℕ → ItemState → State
with_state s i state = with_item s i (record (item_at s i) { state = state })

-- items retired by p age by one, or wait
abbrev pub aged : ℕ → ItemState → ItemState
aged p Live = Live
aged p (Due r) = Due r
aged p (Retired r a) = Retired r (cond (r == p) (a + 1) a)
aged p (Collected n) = Collected n
aged p Waiting = Waiting
aged p (Reclaimed r) = Reclaimed r

abbrev pub left : ℕ → ItemState → ItemState
left p Live = Live
left p (Due r) = Due r
left p (Retired r a) = cond (r == p) Waiting (Retired r a)
left p (Collected n) = Collected n
left p Waiting = Waiting
left p (Reclaimed r) = Reclaimed r

-- items retired by p have age 3
abbrev pub settled : ℕ → ItemState → ItemState
settled p Live = Live
settled p (Due r) = Due r
settled p (Retired r a) = Retired r (cond (r == p) 3 a)
settled p (Collected n) = Collected n
settled p Waiting = Waiting
settled p (Reclaimed r) = Reclaimed r

abbrev pub older : ℕ → Item → Item
older p it = record it { state = aged p it.state }

abbrev pub left_by : ℕ → Item → Item
left_by p it = record it { state = left p it.state }

abbrev pub settled_by : ℕ → Item → Item
settled_by p it = record it { state = settled p it.state }

-- the empty cells of item i have no holder any more
abbrev pub is_held_by : ℕ → Option ℕ → Bool
is_held_by i None = false
is_held_by i (Some j) = j == i

abbrev pub let_go : ℕ → Cell → Cell
let_go i o = record o { holder = cond (is_held_by i o.holder && not (is_full o)) None o.holder }

-- an owner of each item of a list leaves the hand
abbrev pub paid : List ℕ → List Item → List Item
paid [] items = items
paid (k ∷ ks) items = paid ks (set items k (unhanded (get_or items k no_item)))

-- the cells of a list are held by item i
abbrev pub taken_up : ℕ → List ℕ → List Cell → List Cell
taken_up i [] cells = cells
taken_up i (c ∷ cs) cells = taken_up i cs (set cells c (record (get_or cells c empty_cell) { holder = Some i }))

abbrev pub new_item : ℕ → List ℕ → Item
new_item value holds = record { value = value; hand = 1; owners = 1; holds = holds; state = Live }

-- the note in a private bag
abbrev pub noted : Option ℕ → ItemState
noted None = Waiting
noted (Some n) = Collected n

-- what a step makes of a state where it is enabled
abbrev pub after : State → Step → State
after s (ReadEpoch p) = with_participant s p (record (participant_at s p) { phase = HasRead s.count })
after s (Publish p) = with_participant s p (record (participant_at s p) { phase = Opened (count_of (participant_at s p).phase); reread = None; looked = []; loaded = [] })
after s (Rotate p) = record s { participants = set s.participants p (record (participant_at s p) { found = count_of (participant_at s p).phase }); items = map (older p) s.items }
after s (LoadCell p c) = with_loaded s p (named (cell_at s c).names)
after s (LoadInHand p i) = with_loaded s p i
after s (ReadSegment p i k) = s
after s (SwapCell p c new) = filled (emptied s c (cell_at s c).names) c new
after s (Release p i) = with_item s i (after_release p (item_at s i))
after s (Retire p i) = with_state s i (Retired p 0)
after s (Collect p i) = with_state s i (noted (participant_at s p).reread)
after s (Look p q) = with_participant s p (record (participant_at s p) { looked = (participant_at s p).looked ++ q ∷ [] })
after s (Raise p) = record s { count = s.count + 1 }
after s (Reclaim p i) = record (with_state s i (Reclaimed p)) { cells = map (let_go i) s.cells }
after s (GiveUp p j i) = let t = without_owner s j i in with_item t i (handed (item_at t i))
after s (GiveUpCell p c) = let t = emptied s c (cell_at s c).names in with_cell t c (record (cell_at t c) { holder = None })
after s (Close p) = with_participant s p (record (participant_at s p) { phase = Idle; reread = None; looked = []; loaded = [] })
after s (Place p value holds cells) = record s { cells = taken_up (length s.items) cells s.cells; items = paid holds s.items ++ new_item value holds ∷ [] }
after s (RaiseOwners p i) = with_item s i (record (item_at s i) { hand = (item_at s i).hand + 1; owners = (item_at s i).owners + 1 })
after s (Reread p) = with_participant s p (record (participant_at s p) { reread = Some s.count })
after s (End p) = record s { participants = set s.participants p (record (participant_at s p) { found = 0 }); items = map (left_by p) s.items }
after s (TakeOver p i) = with_state s i (Retired p 0)
after s (LookShut p q) = with_participant s p (record (participant_at s p) { looked = (participant_at s p).looked ++ q ∷ [] })
after s (Settle p) = record s { participants = set s.participants p (record (participant_at s p) { found = count_of (participant_at s p).phase }); items = map (settled_by p) s.items }

-- the step a leads from s to t
abbrev pub LeadsTo : State → Step → State → Type 0
LeadsTo s a t = (enabled s a ≡ true) × (t ≡ after s a)

-- the steps of a list, one after the other, lead from s to t
abbrev pub Schedule : State → List Step → State → Type 0
Schedule s [] t = t ≡ s
Schedule s (a ∷ later) t = (m : State) × LeadsTo s a m × Schedule m later t
