-- what links show to clauses, and what stays of a participant
use Rattle.std.specs.Prelude.{◌≡◌, ◌<◌, ℕ, [], length, slice_index_or}
use Rattle.sdd_domain.specs.Cells.{cell_number}
use Rattle.sdd_domain.specs.Tokens.{place_of, home_of, hand_of, cell_count, own_of, nest_of, nest_in, IsInNest, IsSameButMisses}
use Rattle.sdd_domain.specs.declared.atomic_shared.AtomicShared.{AtomicShared}
use Rattle.sdd_domain.specs.declared.domain.Domain.{Domain}
use Rattle.sdd_domain.specs.declared.guard.Guard.{Guard}
use Rattle.sdd_domain.specs.declared.local.Local.{Local}
use Rattle.shared_lists.specs.declared.links.Links.{Links}
use Rattle.shared_lists.specs.declared.links.Row.{Row}

-- a row is made of cells of a place with as many cells as this one
abbrev pub IsRowOf : {T : Type 0} → Row T → Domain T → Type 0
IsRowOf row d = row.cells_of_place ≡ cell_count d

-- and so are links
abbrev pub AreLinksOf : {T : Type 0} → Links T → Domain T → Type 0
AreLinksOf links d = IsRowOf links.row d

-- how many cells a row has, and links these are
abbrev pub row_count : {T : Type 0} → Row T → ℕ
row_count row = length row.cells.items

abbrev pub links_count : {T : Type 0} → Links T → ℕ
links_count links = row_count links.row

-- how many cells that place has
abbrev pub cells_around : {T : Type 0} → Links T → ℕ
cells_around links = links.row.cells_of_place

-- the cell at this place of a row, and the link of this slot
abbrev pub IsCellAt : {T : Type 0} → Row T → ℕ → ℕ → Type 0
IsCellAt {T} row i cell = (d : AtomicShared T) → cell_number (slice_index_or row.cells.items i d) ≡ cell

abbrev pub IsLinkOf : {T : Type 0} → Links T → ℕ → ℕ → Type 0
IsLinkOf links slot cell = IsCellAt links.row slot cell

-- a participant of the place, without owners in hand, that can open a guard more
abbrev pub IsReady : {T : Type 0} → Local T → Domain T → Type 0
IsReady l d = (home_of l ≡ place_of d) × (hand_of l ≡ []) × ((own_of l).nesting < 4294967295)

-- a participant of the place, and one of the guards that it has open
abbrev pub IsOpenIn : {T : Type 0} → Guard → Local T → Domain T → Type 0
IsOpenIn g l d = (home_of l ≡ place_of d) × (nest_of g ≡ nest_in l) × (0 < (own_of l).nesting)

-- the same participant with the same guards open and the same owners in hand
abbrev pub IsStill : {T : Type 0} → Local T → Local T → Type 0
IsStill old new = IsInNest old new × ((own_of new).nesting ≡ (own_of old).nesting)

-- The same participant of the same place, with as many guards open and the same owners in hand; its misses may differ. If a guard is open, it is still of the nest that the participant is in.
abbrev pub IsAsBefore : {T : Type 0} → Local T → Local T → Type 0
IsAsBefore old new = IsSameButMisses old new × ((own_of new).nesting ≡ (own_of old).nesting) × (0 < (own_of old).nesting → nest_in new ≡ nest_in old)
