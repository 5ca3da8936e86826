-- The state of an index, and its steps.
use Rattle.std.specs.Prelude.{◌≡◌, ◌≢◌, ℕ, ◌+◌, ◌-◌, ◌<◌, ◌≤◌, ◌^◌, List, [], ◌∷◌, ◌++◌, length, Option, Some, None, Result, Ok, Err, replicate, slice_get, slice_set, IsSome}
use Rattle.std.specs.declared.cmp.Ordering.{Ordering}
use Rattle.std.specs.List.{All}
use Rattle.version_views.specs.Writes.{after_writes, replies_to}
use Rattle.serial_history.specs.Histories.{transaction_on}
use Rattle.serial_history.specs.Histories as histories
use Rattle.version_views.specs.declared.write.Write.{Write}
use Rattle.serial_history.specs.Answers.{answer_to}
use Rattle.serial_history.specs.Serial.{Base, HasNumber, Read, RefusesCheckpoint, base_at, history_behind, latest, list_numbered, with_read}
use Rattle.version_views.specs.Sizes.{room_for}
use Rattle.serial_history.specs.declared.query.Query.{Query}
use Rattle.serial_history.specs.declared.query.Answer.{Answer}
use Rattle.serial_history.specs.declared.transaction.Audit.{Audit}
use Rattle.serial_history.specs.declared.transaction.Transaction.{Transaction}
use Rattle.serial_history.specs.declared.transaction.Receipt.{Receipt}
use Rattle.serial_history.specs.declared.commit.Accepted.{Accepted}
use Rattle.serial_history.specs.declared.commit.Refused.{Refused}
use Rattle.serial_history.specs.declared.commit.Cause.{Cause}
use Rattle.serial_history.specs.declared.commit.Cause.TheVariants as causes
use Rattle.serial_history.specs.declared.commit.CheckpointRefused.{CheckpointRefused}
use Rattle.local_versions.specs.Store.{Version}

-- the base and the transactions that were accepted since; at each place the number and the list of the session that is open
-- there; the last number; how many slots there are and are in use; how often the epoch was raised
pub record State (K V : Type 0) : Type 0 where
  pub base : Base K V
  pub history : List (Transaction K V)
  pub places : List (Option (Version K V))
  pub last : ℕ
  pub slots : ℕ
  pub used : ℕ
  pub raises : ℕ

-- an index of this base, without history, and with no session at any place
abbrev pub fresh_index : {K V : Type 0} → Base K V → (places last slots used : ℕ) → State K V
fresh_index base places last slots used = record { base = base; history = []; places = replicate places None; last = last; slots = slots; used = used; raises = 0 }

-- an open session: its place, and its receipt, which has its number
pub record OpenSession (K V : Type 0) : Type 0 where
  pub place : ℕ
  pub receipt : Receipt K V

module _ {K V : Type 0} where
  -- the list at a place: that of its session, and none where no session is open
  abbrev pub list_there : Option (Option (Version K V)) → List (K × V)
  list_there None = []
  list_there (Some None) = []
  list_there (Some (Some version)) = version.pairs

  -- the number of the present list
  abbrev pub latest_number : State K V → ℕ
  latest_number s = latest s.base s.history

  -- the index has the list of this number
  abbrev pub Has : State K V → ℕ → Type 0
  Has s n = HasNumber s.base s.history n

  -- a session with this number and this list is open at this place
  abbrev pub IsOpenAt : State K V → ℕ → Version K V → Type 0
  IsOpenAt s place version = slice_get s.places place ≡ Some (Some version)

  -- the list of the session that is open at a place
  abbrev pub list_open : State K V → ℕ → List (K × V)
  list_open s place = list_there (slice_get s.places place)

  -- a session with this number is open at this place
  abbrev pub IsSessionAt : State K V → ℕ → ℕ → Type 0
  IsSessionAt s place number = IsOpenAt s place (record { number = number; pairs = list_open s place })

  -- the session is one of the index
  abbrev pub IsSessionOf : State K V → OpenSession K V → Type 0
  IsSessionOf s session = IsSessionAt s session.place session.receipt.number

  -- the list of a session, which the index keeps at its place
  abbrev pub list_read : State K V → OpenSession K V → List (K × V)
  list_read s session = list_open s session.place

  -- no place is free
  abbrev pub HasNoPlace : State K V → Type 0
  HasNoPlace s = All IsSome s.places

  -- no session is open
  abbrev pub HasNoSession : State K V → Type 0
  HasNoSession s = All (λ p. p ≡ None) s.places

  -- the session at this place closes
  abbrev pub Closes : State K V → ℕ → State K V → Type 0
  Closes old place new = new ≡ record old { places = slice_set old.places place None }

  module _ (cmp : K → K → Ordering) where
    -- the list of a number: the base's, and the transactions up to that number
    abbrev pub list_at : State K V → ℕ → List (K × V)
    list_at s i = list_numbered cmp s.base s.history i

    -- the present list
    abbrev pub present : State K V → List (K × V)
    present s = list_at s (latest_number s)

    -- a session opens at a free place, with the present number and list, and a receipt without reads
    pub record Opens (old : State K V) (session : OpenSession K V) (new : State K V) : Type 0 where
      pub free : slice_get old.places session.place ≡ Some None
      pub number : session.receipt.number ≡ latest_number old
      pub unread : session.receipt.reads ≡ []
      pub changed : new ≡ record old { places = slice_set old.places session.place (Some (record { number = session.receipt.number; pairs = present old })) }

    -- what these reads and writes add to the history
    abbrev pub transaction_of : State K V → List (Read K V) → List (Write K V) → Transaction K V
    transaction_of s reads writes = transaction_on cmp (present s) reads writes

    -- that transaction comes behind the others
    abbrev pub with_commit : List (Read K V) → List (Write K V) → State K V → State K V
    with_commit reads writes s = record s { history = s.history ++ transaction_of s reads writes ∷ [] }

    -- a query is answered on the session's list, and put at the end of its receipt with the answer
    pub record Reads (s : State K V) (old : OpenSession K V) (query : Query K) (answer : Answer K V) (new : OpenSession K V) : Type 0 where
      pub told : answer ≡ answer_to cmp query (list_read s old)
      pub recorded : new ≡ record old { receipt = with_read query answer old.receipt }

    -- whether the reads of a receipt hold of the list of its number, if the index has that
    abbrev pub Audits : State K V → Receipt K V → Audit → Type 0
    Audits s receipt audit = histories.Audits cmp s.base s.history receipt audit

    -- the base is the list of this number, and what came before is dropped; sessions stay, and so do slots
    pub record Rebases (old : State K V) (upto : ℕ) (new : State K V) : Type 0 where
      pub has : Has old upto
      pub changed : new ≡ record old { base = base_at cmp old.base old.history upto; history = history_behind old.base old.history upto }

    -- a checkpoint: a number below the base's is behind, one above the present one ahead; that of the base itself is had
    -- without memory
    abbrev pub Checkpoints : State K V → ℕ → Result (Unit {0}) CheckpointRefused → State K V → Type 0
    Checkpoints old upto (Ok done) new = Rebases old upto new
    Checkpoints old upto (Err why) new = RefusesCheckpoint old.base old.history upto why × (new ≡ old)

    -- each read holds, and the last number isn't reached
    abbrev pub MayAccept : State K V → List (Read K V) → Type 0
    MayAccept s reads = histories.MayAccept cmp (latest_number s) s.last (present s) reads

    module _ (width : ℕ) where
      -- why a commit of these reads and writes may be refused, with at most s pairs in a segment
      abbrev pub MayRefuse : State K V → List (Read K V) → List (Write K V) → Cause → Type 0
      MayRefuse s reads writes (causes.Conflict place) = histories.MayRefuse cmp (latest_number s) s.last (present s) reads (causes.Conflict place)
      MayRefuse s reads writes causes.Exhausted = histories.MayRefuse cmp (latest_number s) s.last (present s) reads causes.Exhausted
      MayRefuse s reads writes causes.Memory = histories.MayRefuse cmp (latest_number s) s.last (present s) reads causes.Memory
      MayRefuse s reads writes causes.NoSlot = MayAccept s reads × (s.slots < s.used + room_for width (length (after_writes cmp writes (present s))))

      -- the writes are made, and the transaction is the last one of the history
      pub record Accepts (old : State K V) (reads : List (Read K V)) (writes : List (Write K V)) (told : Accepted) (new : State K V) : Type 0 where
        pub may : MayAccept old reads
        pub number : told.number ≡ latest_number old + 1
        pub replies : told.replies.items ≡ replies_to cmp writes (present old)
        pub changed : new ≡ record old { history = old.history ++ transaction_of old reads writes ∷ []; used = new.used }
        pub room : new.used ≤ old.used + room_for width (length (after_writes cmp writes (present old)))

      -- the writes are given back, and nothing changes
      pub record Refuses (old : State K V) (reads : List (Read K V)) (writes : List (Write K V)) (back : Refused K V) (new : State K V) : Type 0 where
        pub may : MayRefuse old reads writes back.cause
        pub given_back : back.writes.items ≡ writes
        pub unchanged : new ≡ old

      -- a commit of these reads and writes
      abbrev pub Commits : State K V → List (Read K V) → List (Write K V) → Result Accepted (Refused K V) → State K V → Type 0
      Commits old reads writes (Ok told) new = Accepts old reads writes told new
      Commits old reads writes (Err back) new = Refuses old reads writes back new

      -- only slots and the epoch change; where no session is open, and the epoch can be raised eight times, no more
      -- slots are in use than the present list may take
      pub record Reclaims (old new : State K V) : Type 0 where
        pub changed : new ≡ record old { used = new.used; raises = new.raises }
        pub fewer : new.used ≤ old.used
        pub left : HasNoSession old → old.raises ≤ 2 ^ 64 - 9 → new.used ≤ room_for width (length (present old))
