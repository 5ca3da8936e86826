-- What transactions make of a list that is kept elsewhere.
use Rattle.std.specs.Prelude.{◌≡◌, ℕ}
use Rattle.std.specs.declared.cmp.Ordering.{Ordering}
use Rattle.serial_history.specs.Serial.{after_all, history_behind}
use Rattle.local_index.specs.State.{State, list_at, present}

module _ {K : Type 0} (V : Type 0) (cmp : K → K → Ordering) where
  -- the transactions behind a number make the present list of the list of that number
  abbrev pub FeedLeadsToPresent : Type 0
  FeedLeadsToPresent = (s : State K V) (number : ℕ) → after_all cmp (history_behind s.base s.history number) (list_at cmp s number) ≡ present cmp s
