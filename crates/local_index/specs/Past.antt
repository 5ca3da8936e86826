-- A history that is cut, and the lists of older numbers.
use Rattle.std.specs.Prelude.{◌≡◌, ℕ, ◌+◌, ◌-◌, ◌<◌, ◌≤◌, List, length, Result, Ok, Err, ◌⊎◌}
use Rattle.std.specs.declared.cmp.Ordering.{Ordering}
use Rattle.version_views.specs.declared.write.Write.{Write}
use Rattle.serial_history.specs.Serial.{Read, RefusesSince}
use Rattle.serial_history.specs.declared.commit.Accepted.{Accepted}
use Rattle.serial_history.specs.declared.commit.Refused.{Refused}
use Rattle.local_index.specs.State.{State, Has, Rebases, Accepts, Refuses, latest_number}
use Rattle.local_index.specs.declared.index.past.PastRefused.{PastRefused}
use Rattle.local_index.specs.declared.index.past.PastRefused.TheVariants as pasts

module _ {K V : Type 0} where
  -- why there is no list of this number
  abbrev pub RefusesPast : State K V → ℕ → PastRefused → Type 0
  RefusesPast s n (pasts.Outside why) = RefusesSince s.base s.history n why
  RefusesPast s n pasts.Memory = Has s n

  module _ (cmp : K → K → Ordering) where
    -- of a history of more than 2 * count transactions the last count are kept; a shorter one is kept whole
    pub record Trims (count : ℕ) (old new : State K V) : Type 0 where
      pub long : count + count < length old.history → Rebases cmp old (latest_number old - count) new
      pub short : length old.history ≤ count + count → new ≡ old

    module _ (width : ℕ) where
      -- a commit is accepted, and the history behind it is cut, unless memory was refused for that
      pub record AcceptsKeeping (old : State K V) (reads : List (Read K V)) (writes : List (Write K V)) (count : ℕ) (told : Accepted) (new : State K V) : Type 0 where
        pub between : State K V
        pub accepts : Accepts cmp width old reads writes told between
        pub trims : Trims count between new ⊎ (new ≡ between)

      -- a commit of these reads and writes, and a cut of the history to this many transactions
      abbrev pub CommitsKeeping : State K V → List (Read K V) → List (Write K V) → ℕ → Result Accepted (Refused K V) → State K V → Type 0
      CommitsKeeping old reads writes count (Ok told) new = AcceptsKeeping old reads writes count told new
      CommitsKeeping old reads writes count (Err back) new = Refuses cmp width old reads writes back new
