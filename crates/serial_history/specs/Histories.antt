-- What is seen of a history, and how commits and audits on it may be answered.
use Rattle.std.specs.Prelude.{◌≡◌, ◌≢◌, ℕ, ◌<◌, ◌≤◌, List, [], ◌∷◌, ◌++◌}
use Rattle.std.specs.declared.cmp.Ordering.{Ordering}
use Rattle.std.specs.List.{All}
use Rattle.version_views.specs.Writes.{replies_to}
use Rattle.version_views.specs.declared.write.Write.{Write}
use Rattle.serial_history.specs.Serial.{Base, HasNumber, Holds, IsFirstConflict, IsSerial, Read, after_all, base_at, history_behind, latest, list_numbered}
use Rattle.serial_history.specs.declared.commit.Cause.{Cause}
use Rattle.serial_history.specs.declared.commit.Cause.TheVariants as causes
use Rattle.serial_history.specs.declared.transaction.Audit.{Audit}
use Rattle.serial_history.specs.declared.transaction.Audit.TheVariants as audits
use Rattle.serial_history.specs.declared.transaction.Receipt.{Receipt}
use Rattle.serial_history.specs.declared.transaction.Transaction.{Transaction}

-- the base and the transactions that were accepted since; the last number that they may reach; for how many more there is room
pub record HistoryState (K V : Type 0) : Type 0 where
  pub base : Base K V
  pub transactions : List (Transaction K V)
  pub last : ℕ
  pub room : ℕ

-- what is decided before memory and slots are asked for
abbrev pub IsDecidedFirst : Cause → Type 0
IsDecidedFirst (causes.Conflict place) = Unit {0}
IsDecidedFirst causes.Exhausted = Unit {0}
IsDecidedFirst causes.Memory = ⊥
IsDecidedFirst causes.NoSlot = ⊥

module _ {K V : Type 0} (cmp : K → K → Ordering) where
  -- the transactions are a serial run from the base on, up to the last number at most
  pub record IsHistory (base : Base K V) (history : List (Transaction K V)) (last : ℕ) : Type 0 where
    pub serial : IsSerial cmp history base.pairs
    pub numbered : latest base history ≤ last

  -- a commit that rests on these reads may be accepted: each holds of the present list, and the last number isn't reached
  pub record MayAccept (number last : ℕ) (present : List (K × V)) (reads : List (Read K V)) : Type 0 where
    pub reads_hold : All (Holds cmp present) reads
    pub not_last : number ≢ last

  -- why one may be refused, as far as its reads and the last number say
  abbrev pub MayRefuse : (number last : ℕ) → List (K × V) → List (Read K V) → Cause → Type 0
  MayRefuse number last present reads (causes.Conflict place) = IsFirstConflict cmp present reads place
  MayRefuse number last present reads causes.Exhausted = All (Holds cmp present) reads × (number ≡ last)
  MayRefuse number last present reads causes.Memory = MayAccept number last present reads
  MayRefuse number last present reads causes.NoSlot = MayAccept number last present reads

  -- the transaction of these reads and writes, with the replies that the writes get on the present list
  abbrev pub transaction_on : List (K × V) → List (Read K V) → List (Write K V) → Transaction K V
  transaction_on present reads writes = record { reads = reads; writes = writes; replies = replies_to cmp writes present }

  -- the transaction of these reads and writes comes behind the others
  abbrev pub with_transaction : List (Read K V) → List (Write K V) → HistoryState K V → HistoryState K V
  with_transaction reads writes h = record h { transactions = h.transactions ++ transaction_on (after_all cmp h.transactions h.base.pairs) reads writes ∷ [] }

  -- the list of this number becomes the base, and the transactions up to it are dropped
  abbrev pub begun_at : ℕ → HistoryState K V → HistoryState K V
  begun_at upto h = record h { base = base_at cmp h.base h.transactions upto; transactions = history_behind h.base h.transactions upto }

  -- whether the reads of a receipt hold of the list of its number, if the history has that: a number below the base's is too
  -- old, and no list has a number above the present one yet
  abbrev pub Audits : Base K V → List (Transaction K V) → Receipt K V → Audit → Type 0
  Audits base history receipt audits.Yes = HasNumber base history receipt.number × All (Holds cmp (list_numbered cmp base history receipt.number)) receipt.reads
  Audits base history receipt (audits.No place) = HasNumber base history receipt.number × IsFirstConflict cmp (list_numbered cmp base history receipt.number) receipt.reads place
  Audits base history receipt audits.Unknown = latest base history < receipt.number
  Audits base history receipt (audits.TooOld number) = (receipt.number < base.number) × (number ≡ base.number)
