-- participants that read a cell of their place, and that have it name another version
use Rattle.std.specs.Prelude.{◌≡◌, ◌<◌, []}
use Rattle.sdd_domain.specs.Cells.{cell_number}
use Rattle.sdd_domain.specs.Tokens.{place_of, home_of, hand_of, own_of, cell_count, IsSame}
use Rattle.sdd_domain.specs.declared.atomic_shared.AtomicShared.{AtomicShared}
use Rattle.sdd_domain.specs.declared.domain.Domain.{Domain}
use Rattle.sdd_domain.specs.declared.local.Local.{Local}

-- a participant of the place, with no guard open, and a cell of it
pub record CanRead {T : Type 0} (d : Domain T) (c : AtomicShared T) (l : Local T) : Type 0 where
  pub home : home_of l ≡ place_of d
  pub closed : (own_of l).nesting ≡ 0
  pub inside : cell_number c < cell_count d

-- and with no owner in its hand
pub record CanWrite {T : Type 0} (d : Domain T) (c : AtomicShared T) (l : Local T) : Type 0 where
  pub read : CanRead d c l
  pub bare : hand_of l ≡ []

-- the participant is the same, with no guard open
pub record StillRests {T : Type 0} (old new : Local T) : Type 0 where
  pub same : IsSame old new
  pub closed : (own_of new).nesting ≡ 0
