-- what the fields of a book keep
use Rattle.std.specs.Prelude.{◌≡◌, ℕ, ◌≤◌, List, []}
use Rattle.std.specs.declared.cmp.Ordering.{Ordering}
use Rattle.atomic_table.specs.Seated.{TableId}
use Rattle.sdd_plain.specs.declared.sizes.Sizes.{Sizes}
use Rattle.sdd_domain.specs.Tokens.{home_of, own_of, hand_of}
use Rattle.sdd_domain.specs.declared.local.Local.{Local}
use Rattle.serial_history.specs.Serial.{Base, after_all, latest}
use Rattle.serial_history.specs.declared.transaction.Transaction.{Transaction}
use Rattle.shared_versions.specs.Drafts.{list_of}
use Rattle.shared_versions.specs.Placing.{Placed}

-- the participant is of this place, with no guard open and no owner in hand
pub record IsUnengaged {T : Type 0} (place : TableId × Sizes) (local : Local T) : Type 0 where
  pub home : home_of local ≡ place
  pub closed : (own_of local).nesting ≡ 0
  pub bare : hand_of local ≡ []

-- segments have one pair at least and 225 at most; the last number is the named one
pub record HasBounds (s number named : ℕ) : Type 0 where
  pub size : (1 ≤ s) × (s ≤ 225)
  pub last : number ≡ named

-- each number is counted in the ledger
abbrev pub IsCounted : {K V : Type 0} → Base K V → List (Transaction K V) → ℕ → Type 0
IsCounted base history total = total ≡ latest base history

module _ {K V : Type 0} (cmp : K → K → Ordering) where
  -- the version of a place is that of the list that the transactions leave of the base's, and has its number
  pub record IsLatest (place : TableId × Sizes) (present : Placed K V) (base : Base K V) (history : List (Transaction K V)) : Type 0 where
    pub here : present.place ≡ place.0
    pub number : present.version.number ≡ latest base history
    pub list : list_of present.version ≡ after_all cmp history base.pairs
