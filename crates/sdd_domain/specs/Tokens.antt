-- what places, participants and guards show to clauses
use Rattle.std.specs.Prelude.{◌≡◌, ◌<◌, ◌≤◌, Bool, false, ◌||◌, ℕ, ◌+◌, ◌-◌, ◌==◌, IsSomeAnd, List, [], length, map, cond, nat_lt}
use Rattle.std.specs.Mem.{manually_drop_value}
use Rattle.atomic_table.specs.Seated.{TableId}
use Rattle.sdd_plain.specs.declared.sizes.Sizes.{Sizes}
use Rattle.sdd_plain.specs.declared.local_state.LocalState.{LocalState}
use Rattle.sdd_plain.specs.Locals.{closings_after, scans, no_local}
use Rattle.domain_table.specs.Owners.{told}
use Rattle.sdd_steps.specs.State.{Has}
use Rattle.domain_table.specs.Leases.{life_number, row_slots}
use Rattle.domain_table.specs.declared.row.Row.{Row}
use Rattle.sdd_domain.specs.declared.domain.Domain.{Domain}
use Rattle.sdd_domain.specs.declared.local.Local.{Local}
use Rattle.sdd_domain.specs.declared.guard.Guard.{Guard}

-- how many participants a place has
abbrev pub participants_of : {T : Type 0} → Domain T → ℕ
participants_of d = d.sizes.participants

-- and how many cells
abbrev pub cell_count : {T : Type 0} → Domain T → ℕ
cell_count d = d.sizes.cells

-- and how many slots
abbrev pub slot_count : {T : Type 0} → Domain T → ℕ
slot_count d = d.sizes.slots

-- the count of raises that the place began with
abbrev pub first_of : {T : Type 0} → Domain T → ℕ
first_of d = d.table.shared.key.first

-- a place, with its sizes; the place of a participant, as which one it acts, and what it notes of itself
abbrev pub place_of : {T : Type 0} → Domain T → TableId × Sizes
place_of d = (d.table.shared.table_id, d.table.shared.key.sizes)

abbrev pub home_of : {T : Type 0} → Local T → TableId × Sizes
home_of l = (l.seat.table_id, l.seat.me.0.sizes)

abbrev pub number_of : {T : Type 0} → Local T → ℕ
number_of l = l.number

abbrev pub own_of : {T : Type 0} → Local T → LocalState
own_of l = l.own

-- the count of raises when the open guard was published
abbrev pub born_of : {T : Type 0} → Local T → ℕ
born_of l = l.seat.me.0.born

-- the owners in its hand, by slot and round: they are on their way into an item, or out of one
abbrev pub hand_of : {T : Type 0} → Local T → List (ℕ × ℕ)
hand_of l = map told l.seat.me.0.hand

-- how often the participant was refused: for want of a slot, of a cell, or of one more owner
abbrev pub misses_of : {T : Type 0} → Local T → ℕ
misses_of l = l.misses.count

-- how many items the participant has retired that aren't reclaimed yet
abbrev pub waiting_of : {T : Type 0} → Local T → ℕ
waiting_of l = length l.seat.me.0.waits

-- the participant whose guard it is
abbrev pub participant_of : Guard → ℕ
participant_of g = g.participant

-- the nest of guards that are open within one outermost one, as a guard and the participant name it: which participant's, and which of its nests
abbrev pub nest_of : Guard → ℕ × ℕ
nest_of g = (g.participant, g.life.id)

abbrev pub nest_in : {T : Type 0} → Local T → ℕ × ℕ
nest_in l = (l.number, life_number l.life)

-- the participant has leased an item in this slot
abbrev pub HasLeasedSlot : {T : Type 0} → Local T → ℕ → Type 0
HasLeasedSlot l k = Has (row_slots l.rows.items) k

-- and one that it has leased there has this value
abbrev pub HasLeasedItem : {T : Type 0} → Local T → ℕ → T → Type 0
HasLeasedItem {T} l k x = (r : Row T) × Has l.rows.items r × (r.slot ≡ k) × IsSomeAnd r.lent.seen.value (λ m. manually_drop_value m ≡ x)

-- the participant of this number has just come to this place
abbrev pub IsNewcomer : {T : Type 0} → TableId × Sizes → ℕ → Local T → Type 0
IsNewcomer place number l = (home_of l ≡ place) × (number_of l ≡ number) × (own_of l ≡ no_local) × (hand_of l ≡ [])

-- the same participant of the same place, with the same owners in hand and as many misses
abbrev pub IsSame : {T : Type 0} → Local T → Local T → Type 0
IsSame old new = (home_of new ≡ home_of old) × (number_of new ≡ number_of old) × (hand_of new ≡ hand_of old) × (misses_of new ≡ misses_of old)

-- and the same guards are open
abbrev pub IsInNest : {T : Type 0} → Local T → Local T → Type 0
IsInNest old new = IsSame old new × (nest_in new ≡ nest_in old)

-- the same participant of the same place, with the same owners in hand; its misses may differ
abbrev pub IsSameButMisses : {T : Type 0} → Local T → Local T → Type 0
IsSameButMisses old new = (home_of new ≡ home_of old) × (number_of new ≡ number_of old) × (hand_of new ≡ hand_of old)

-- and the same guards are open
abbrev pub IsInNestButMisses : {T : Type 0} → Local T → Local T → Type 0
IsInNestButMisses old new = IsSameButMisses old new × (nest_in new ≡ nest_in old)

-- the same guards are open, it notes the same of itself, and as many items wait for it
abbrev pub IsUnchanged : {T : Type 0} → Local T → Local T → Type 0
IsUnchanged old new = IsInNest old new × (own_of new ≡ own_of old) × (born_of new ≡ born_of old) × (waiting_of new ≡ waiting_of old)

-- the same but for its misses
abbrev pub IsUnchangedButMisses : {T : Type 0} → Local T → Local T → Type 0
IsUnchangedButMisses old new = IsInNestButMisses old new × (own_of new ≡ own_of old) × (born_of new ≡ born_of old) × (waiting_of new ≡ waiting_of old)

-- the same guards are open, and the flag of garbage is set if an item has lost its last owner
abbrev pub IsInNestButGarbage : {T : Type 0} → Bool → Local T → Local T → Type 0
IsInNestButGarbage last old new = IsInNest old new × (born_of new ≡ born_of old) × (own_of new ≡ record (own_of old) { garbage = (own_of old).garbage || last })

-- the same participant of the same place: only its hand and its misses may differ
abbrev pub IsSameButHandAndMisses : {T : Type 0} → Local T → Local T → Type 0
IsSameButHandAndMisses old new = (home_of new ≡ home_of old) × (number_of new ≡ number_of old) × (nest_in new ≡ nest_in old) × (own_of new ≡ own_of old) × (born_of new ≡ born_of old) × (waiting_of new ≡ waiting_of old)

-- and it has as many misses
abbrev pub IsSameButHand : {T : Type 0} → Local T → Local T → Type 0
IsSameButHand old new = (home_of new ≡ home_of old) × (number_of new ≡ number_of old) × (nest_in new ≡ nest_in old) × (own_of new ≡ own_of old) × (born_of new ≡ born_of old) × (waiting_of new ≡ waiting_of old) × (misses_of new ≡ misses_of old)

-- An outermost opening that found this count. A rotation sets the flag of garbage if anything waits behind it, and else clears it.
abbrev pub begun : ℕ → Bool → LocalState → LocalState
begun count waits m = record { nesting = 1; published = count; previous = count; accelerated = false; garbage = cond (m.previous == count) m.garbage waits; closings = m.closings }

-- the outermost guard was opened now, with a count that isn't above the present one
abbrev pub HasBegunNest : {T : Type 0} → Local T → Local T → Type 0
HasBegunNest old new = (count : ℕ) × (count ≤ born_of new) × (own_of new ≡ begun count (nat_lt 0 (waiting_of new)) (own_of old))

-- an opening within others
abbrev pub deepened : LocalState → LocalState
deepened m = record m { nesting = m.nesting + 1 }

-- no guard was opened
abbrev pub OpensNone : {T : Type 0} → Local T → Local T → Type 0
OpensNone old new = (own_of new ≡ own_of old) × (born_of new ≡ born_of old) × (nest_in new ≡ nest_in old)

-- a closing
abbrev pub closed : LocalState → LocalState
closed m = cond (m.nesting == 1) (record m { nesting = 0; closings = cond (scans m) 0 (closings_after m) }) (record m { nesting = m.nesting - 1 })
