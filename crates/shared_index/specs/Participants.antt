-- what a participant of an index keeps, and what is read through it
use Rattle.std.specs.Prelude.{◌≡◌, ℕ, List, [], Option, None, Some}
use Rattle.std.specs.Option.{ForNone, ForSome}
use Rattle.atomic_table.specs.Seated.{TableId}
use Rattle.sdd_plain.specs.declared.sizes.Sizes.{Sizes}
use Rattle.sdd_domain.specs.Tokens.{home_of, own_of, hand_of, nest_in}
use Rattle.sdd_domain.specs.declared.local.Local.{Local}
use Rattle.serial_history.specs.declared.transaction.Receipt.{Receipt}
use Rattle.shared_sessions.specs.Sessions.{OpenedSession}

-- the participant is of this place, with no owner in hand; it has one guard open, that of its session, or none
pub record IsKept {T K V : Type 0} (place : TableId × Sizes) (local : Local T) (session : Option (OpenedSession K V)) : Type 0 where
  pub home : home_of local ≡ place
  pub bare : hand_of local ≡ []
  pub reads : ForSome session (λ s. (s.nest ≡ nest_in local) × ((own_of local).nesting ≡ 1))
  pub rests : ForNone session ((own_of local).nesting ≡ 0)

module _ {K V : Type 0} where
  -- the list that a participant reads: that of its session
  abbrev pub list_in : Option (OpenedSession K V) → List (K × V)
  list_in None = []
  list_in (Some s) = s.list

  -- the number of that list
  abbrev pub number_in : Option (OpenedSession K V) → ℕ
  number_in None = 0
  number_in (Some s) = s.number

  -- what it recorded
  abbrev pub reads_in : Option (OpenedSession K V) → Receipt K V
  reads_in None = record { number = 0; reads = [] }
  reads_in (Some s) = s.receipt
