-- what is seen of an open session
use Rattle.std.specs.Prelude.{ℕ, List, [], Option, None, Some}
use Rattle.serial_history.specs.declared.transaction.Receipt.{Receipt}
use Rattle.shared_versions.specs.Readers.{Reading, blocks_in}
use Rattle.shared_versions.specs.Sight.{Sight}
use Rattle.version_views.specs.Cuts.{pairs_in}

-- the nest of its guard; the number and the list of the version that it loaded; its receipt
pub record OpenedSession (K V : Type 0) : Type 0 where
  pub nest : ℕ × ℕ
  pub number : ℕ
  pub list : List (K × V)
  pub receipt : Receipt K V

module _ {K V : Type 0} where
  -- the number of a version
  abbrev pub number_in : Option (Sight K V) → ℕ
  number_in None = 0
  number_in (Some v) = v.number

  -- a session that reads this, with this receipt: its list is the pairs of the version's segments, joined in order
  abbrev pub session_of : Reading K V → Receipt K V → OpenedSession K V
  session_of r receipt = record { nest = r.nest; number = number_in r.version; list = pairs_in (blocks_in r.version); receipt = receipt }

  -- one that was just opened has its version's number and no recorded read
  abbrev pub opened_on : Reading K V → OpenedSession K V
  opened_on r = session_of r (record { number = number_in r.version; reads = [] })
