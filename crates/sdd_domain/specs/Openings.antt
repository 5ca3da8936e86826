-- what openings and reclaims ask of the seat of a participant, and what they leave with it
use Rattle.std.specs.Prelude.{◌≡◌, ◌==◌, Bool, true, cond, ℕ, List, [], ◌∷◌, Option, None}
use Rattle.core.specs.declared.mem.manually_drop.ManuallyDrop.{ManuallyDrop}
use Rattle.atomic_table.specs.Table.{Me}
use Rattle.parted.specs.declared.raw.Seen.{Seen}
use Rattle.sdd_plain.specs.declared.local_state.LocalState.{LocalState}
use Rattle.sdd_steps.specs.declared.participant.Phase.TheVariants.{HasRead}
use Rattle.sdd_steps.specs.State.{Has}
use Rattle.sdd_steps.specs.Steps.{is_inside}
use Rattle.sdd_homes.specs.declared.Garbage.{Garbage}
use Rattle.sdd_homes.specs.declared.Lease.{Lease}
use Rattle.sdd_homes.specs.declared.Owner.{Owner}
use Rattle.domain_table.specs.Leases.{AreAt}
use Rattle.domain_table.specs.Readiness.{CanRelease}
use Rattle.domain_table.specs.Views.{of_participant, publishing, rereading}
use Rattle.domain_table.specs.declared.board.Acting.{Acting}
use Rattle.domain_table.specs.declared.row.Row.{Row}

-- behind a publication the bags were turned, if its count wasn't the one before
abbrev pub turned : ℕ → Bool → LocalState → LocalState
turned count waits m = record m { garbage = cond (m.previous == count) m.garbage waits; published = count; previous = count }

-- this is what the row of slot k is read as
abbrev pub IsSeenIn : {T : Type 0} → List (Row T) → ℕ → Seen (Option (ManuallyDrop T)) → Type 0
IsSeenIn {T} rows k s = (r : Row T) × Has rows r × (r.slot ≡ k) × (s.value ≡ r.lent.seen.value) × (s.life ≡ r.lent.pledge.until)

-- the seat acts for p under an open guard: it fills no slot and releases nothing
abbrev pub CanSweep : ℕ → Acting → Type 0
CanSweep p d = CanRelease p d × (d.filling ≡ None) × (is_inside d.known ≡ true)

-- this count was read again, items of the private bag were reclaimed, and what they held was released under open guards
abbrev pub HasSwept : {S : Type 0} → ℕ → Me S Acting → Me S Acting → Type 0
HasSwept count m m' = (k : ℕ) × (ws : List Garbage) × (ls : List Lease) × (cs : List Garbage) × AreAt m.0.leases ls × (m' ≡ (record m.0 { known = rereading count m.0.known; slot = k; leases = ls; waits = ws; collected = cs }, m.1))

-- the first owner in hand is released
abbrev pub HasGivenUpOne : {S : Type 0} → Me S Acting → Me S Acting → Type 0
HasGivenUpOne m m' = (o : Owner) (os : List Owner) → m.0.hand ≡ o ∷ os → (ws : List Garbage) × (m' ≡ (record m.0 { hand = os; waits = ws }, m.1))

-- the seat acts for p, which has nothing leased, fills no slot and releases nothing
abbrev pub HasNothingOut : ℕ → Acting → Type 0
HasNothingOut p d = (d.kind ≡ of_participant) × (d.number ≡ p) × (d.releasing ≡ 0) × (d.leases ≡ []) × (d.filling ≡ None)

-- the seat acts for p, which has read this count and found it to be the one of its previous opening
abbrev pub CanPublishFound : ℕ → ℕ → Acting → Type 0
CanPublishFound p e d = (d.kind ≡ of_participant) × (d.number ≡ p) × (d.known.phase ≡ HasRead e) × (d.known.found ≡ e) × (d.scan ≡ 0)

-- this count was published, and what was due is reclaimed
abbrev pub HasOpened : {S : Type 0} → ℕ → Me S Acting → Me S Acting → Type 0
HasOpened e m m' = (b : ℕ) × (k : ℕ) × (ws : List Garbage) × (m' ≡ (record m.0 { known = publishing e m.0.known; born = b; slot = k; waits = ws }, m.1))
