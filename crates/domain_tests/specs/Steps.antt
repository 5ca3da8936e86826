-- what steps of a participant ask and keep
use Rattle.std.specs.Prelude.{◌≡◌, ◌<◌, [], Option}
use Rattle.std.specs.Option.{ForSome}
use Rattle.sdd_domain.specs.Cells.{cell_number}
use Rattle.sdd_domain.specs.Collecting.{collects_in}
use Rattle.sdd_domain.specs.Sharing.{kept_in}
use Rattle.sdd_domain.specs.Tokens.{place_of, home_of, hand_of, own_of, cell_count, nest_of, nest_in, IsInNestButMisses, IsSameButMisses}
use Rattle.sdd_domain.specs.declared.atomic_shared.AtomicShared.{AtomicShared}
use Rattle.sdd_domain.specs.declared.domain.Domain.{Domain}
use Rattle.sdd_domain.specs.declared.guard.Guard.{Guard}
use Rattle.sdd_domain.specs.declared.local.Local.{Local}
use Rattle.sdd_domain.specs.declared.private_collector.PrivateCollector.{PrivateCollector}
use Rattle.sdd_domain.specs.declared.shared.Shared.{Shared}

-- a participant of the place, with no owner in its hand
abbrev pub IsHome : {T : Type 0} → Domain T → Local T → Type 0
IsHome d l = (home_of l ≡ place_of d) × (hand_of l ≡ [])

-- and with no guard open
pub record Rests {T : Type 0} (d : Domain T) (l : Local T) : Type 0 where
  pub home : home_of l ≡ place_of d
  pub bare : hand_of l ≡ []
  pub closed : (own_of l).nesting ≡ 0

-- the participant is the same, with no guard open
pub record StillRests {T : Type 0} (old new : Local T) : Type 0 where
  pub same : IsSameButMisses old new
  pub closed : (own_of new).nesting ≡ 0

-- the participant is the same, and so are its guards
abbrev pub Stays : {T : Type 0} → Local T → Local T → Type 0
Stays old new = IsInNestButMisses old new × ((own_of new).nesting ≡ (own_of old).nesting)

-- the guard is one of the participant's that are open
abbrev pub IsOpen : {T : Type 0} → Guard → Local T → Type 0
IsOpen g l = (nest_of g ≡ nest_in l) × (0 < (own_of l).nesting)

-- an owner of the place, or none
abbrev pub IsOurs : {T : Type 0} → Domain T → Option (Shared T) → Type 0
IsOurs d o = ForSome o (λ s. kept_in s ≡ (place_of d).0)

-- a private collector of the place, or none
abbrev pub IsMine : {T : Type 0} → Domain T → Option PrivateCollector → Type 0
IsMine d o = ForSome o (λ c. collects_in c ≡ place_of d)

-- a cell of the place, or none
abbrev pub IsInside : {T : Type 0} → Domain T → Option (AtomicShared T) → Type 0
IsInside d o = ForSome o (λ c. cell_number c < cell_count d)
