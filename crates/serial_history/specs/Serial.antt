-- Recorded reads, transactions and serial runs, on lists of pairs.
use Rattle.std.specs.Prelude.{◌≡◌, ℕ, ◌+◌, ◌-◌, ◌<◌, ◌≤◌, List, [], ◌∷◌, ◌++◌, length, take, drop}
use Rattle.std.specs.declared.cmp.Ordering.{Ordering}
use Rattle.std.specs.List.{All, AllWithin, HoldsAt}
use Rattle.version_views.specs.Writes.{after_writes, replies_to}
use Rattle.serial_history.specs.Answers.{answer_to}
use Rattle.serial_history.specs.declared.query.Query.{Query}
use Rattle.serial_history.specs.declared.query.Answer.{Answer}
use Rattle.serial_history.specs.declared.transaction.Receipt.{Receipt}
use Rattle.serial_history.specs.declared.transaction.Transaction.{Transaction}
use Rattle.serial_history.specs.declared.commit.CheckpointRefused.{CheckpointRefused}
use Rattle.serial_history.specs.declared.commit.CheckpointRefused.TheVariants as checkpoints
use Rattle.serial_history.specs.declared.commit.SinceRefused.{SinceRefused}
use Rattle.serial_history.specs.declared.commit.SinceRefused.TheVariants as feeds

-- a recorded read: a query and the answer that was given to it
abbrev pub Read : Type 0 → Type 0 → Type 0
Read K V = Query K × Answer K V

-- a list with its number: what a history begins with
pub record Base (K V : Type 0) : Type 0 where
  pub number : ℕ
  pub pairs : List (K × V)

-- a receipt with one more read
abbrev pub with_read : {K V : Type 0} → Query K → Answer K V → Receipt K V → Receipt K V
with_read query answer receipt = record receipt { reads = receipt.reads ++ (query, answer) ∷ [] }

-- the empty list, with the number 0
abbrev pub empty_base : {K V : Type 0} → Base K V
empty_base = record { number = 0; pairs = [] }

-- the number of the list that a history leaves: the base's, and one more for each transaction
abbrev pub latest : {K V : Type 0} → Base K V → List (Transaction K V) → ℕ
latest base history = base.number + length history

-- a history has the list of this number: it is neither before its base nor behind its last transaction
abbrev pub HasNumber : {K V : Type 0} → Base K V → List (Transaction K V) → ℕ → Type 0
HasNumber base history n = (base.number ≤ n) × (n ≤ latest base history)

-- the transactions behind a number
abbrev pub history_behind : {K V : Type 0} → Base K V → List (Transaction K V) → ℕ → List (Transaction K V)
history_behind base history n = drop (n - base.number) history

-- why the list of this number doesn't become the base
abbrev pub RefusesCheckpoint : {K V : Type 0} → Base K V → List (Transaction K V) → ℕ → CheckpointRefused → Type 0
RefusesCheckpoint base history upto (checkpoints.Behind number) = (upto < base.number) × (number ≡ base.number)
RefusesCheckpoint base history upto (checkpoints.Ahead number) = (latest base history < upto) × (number ≡ latest base history)
RefusesCheckpoint base history upto checkpoints.Memory = (base.number < upto) × (upto ≤ latest base history)

-- why the transactions after this number aren't returned
abbrev pub RefusesSince : {K V : Type 0} → Base K V → List (Transaction K V) → ℕ → SinceRefused → Type 0
RefusesSince base history n (feeds.TooOld number) = (n < base.number) × (number ≡ base.number)
RefusesSince base history n (feeds.Ahead number) = (latest base history < n) × (number ≡ latest base history)

module _ {K V : Type 0} (cmp : K → K → Ordering) where
  -- a recorded read has the answer that the list gives
  abbrev pub Holds : List (K × V) → Read K V → Type 0
  Holds pairs read = read.1 ≡ answer_to cmp read.0 pairs

  -- the read at this place is the first that doesn't hold
  pub record IsFirstConflict (pairs : List (K × V)) (reads : List (Read K V)) (place : ℕ) : Type 0 where
    pub within : place < length reads
    pub earlier : AllWithin (Holds pairs) reads 0 place
    pub differs : HoldsAt (λ read. Holds pairs read → ⊥) reads place

  -- a transaction is valid on a list: its reads hold, and its replies are those that its writes get there
  pub record IsValid (pairs : List (K × V)) (t : Transaction K V) : Type 0 where
    pub reads : All (Holds pairs) t.reads
    pub replies : t.replies ≡ replies_to cmp t.writes pairs

  -- the list that transactions leave
  abbrev pub after_all : List (Transaction K V) → List (K × V) → List (K × V)
  after_all [] pairs = pairs
  after_all (t ∷ ts) pairs = after_all ts (after_writes cmp t.writes pairs)

  -- a serial run: transactions one after the other, each good on the list that those before it leave
  abbrev pub IsSerial : List (Transaction K V) → List (K × V) → Type 0
  IsSerial [] pairs = Unit {0}
  IsSerial (t ∷ ts) pairs = IsValid pairs t × IsSerial ts (after_writes cmp t.writes pairs)

  -- the list of a number: the base's list after as many transactions as the number exceeds the base's
  abbrev pub list_numbered : Base K V → List (Transaction K V) → ℕ → List (K × V)
  list_numbered base history n = after_all (take (n - base.number) history) base.pairs

  -- the list of a number, for a base
  abbrev pub base_at : Base K V → List (Transaction K V) → ℕ → Base K V
  base_at base history n = record { number = n; pairs = list_numbered base history n }
