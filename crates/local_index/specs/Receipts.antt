-- Receipts of an index's own sessions.
use Rattle.std.specs.Prelude.{◌≡◌, ◌≤◌, ◌⊎◌, ℕ, List, Result}
use Rattle.std.specs.List.{All}
use Rattle.std.specs.declared.cmp.Ordering.{Ordering}
use Rattle.version_views.specs.declared.write.Write.{Write}
use Rattle.serial_history.specs.Serial.{Holds, Read}
use Rattle.local_index.specs.State.{State, OpenSession, Audits, Checkpoints, Commits, Opens, Reads, latest_number, list_at, list_read}
use Rattle.serial_history.specs.declared.commit.Accepted.{Accepted}
use Rattle.serial_history.specs.declared.commit.CheckpointRefused.{CheckpointRefused}
use Rattle.serial_history.specs.declared.commit.Refused.{Refused}
use Rattle.serial_history.specs.declared.query.Answer.{Answer}
use Rattle.serial_history.specs.declared.query.Query.{Query}
use Rattle.serial_history.specs.declared.transaction.Audit.{Audit}
use Rattle.serial_history.specs.declared.transaction.Audit.TheVariants as audits
use Rattle.serial_history.specs.declared.transaction.Receipt.{Receipt}

-- a receipt whose number was reached, and whose reads hold of the list of that number, as long as the index has it
pub record IsOwnReceipt {K V : Type 0} (cmp : K → K → Ordering) (s : State K V) (receipt : Receipt K V) : Type 0 where
  pub reached : receipt.number ≤ latest_number s
  pub reads : s.base.number ≤ receipt.number → All (Holds cmp (list_at cmp s receipt.number)) receipt.reads

-- a session with such a receipt, whose list is that of its number, as long as the index has that
pub record IsOwnSession {K V : Type 0} (cmp : K → K → Ordering) (s : State K V) (session : OpenSession K V) : Type 0 where
  pub receipt : IsOwnReceipt cmp s session.receipt
  pub list : s.base.number ≤ session.receipt.number → list_read s session ≡ list_at cmp s session.receipt.number

module _ {K : Type 0} (V : Type 0) (cmp : K → K → Ordering) where
  -- a session that opens is an index's own
  abbrev pub OpeningsAreOwn : Type 0
  OpeningsAreOwn = (old new : State K V) (session : OpenSession K V) → Opens cmp old session new → IsOwnSession cmp new session

  -- a read leaves it so
  abbrev pub ReadsKeepSessions : Type 0
  ReadsKeepSessions = (s : State K V) (old new : OpenSession K V) (query : Query K) (answer : Answer K V) → Reads cmp s old query answer new → IsOwnSession cmp s old → IsOwnSession cmp s new

  -- so does a commit, accepted or refused, and it leaves each receipt an index's own
  abbrev pub CommitsKeepReceipts : Type 0
  CommitsKeepReceipts = (width : ℕ) (old new : State K V) (reads : List (Read K V)) (writes : List (Write K V)) (result : Result Accepted (Refused K V)) (receipt : Receipt K V) → Commits cmp width old reads writes result new → IsOwnReceipt cmp old receipt → IsOwnReceipt cmp new receipt

  abbrev pub CommitsKeepSessions : Type 0
  CommitsKeepSessions = (width : ℕ) (old new : State K V) (reads : List (Read K V)) (writes : List (Write K V)) (result : Result Accepted (Refused K V)) (session : OpenSession K V) → Commits cmp width old reads writes result new → IsOwnSession cmp old session → IsOwnSession cmp new session

  -- and a checkpoint, accepted or refused
  abbrev pub CheckpointsKeepReceipts : Type 0
  CheckpointsKeepReceipts = (old new : State K V) (upto : ℕ) (result : Result (Unit {0}) CheckpointRefused) (receipt : Receipt K V) → Checkpoints cmp old upto result new → IsOwnReceipt cmp old receipt → IsOwnReceipt cmp new receipt

  abbrev pub CheckpointsKeepSessions : Type 0
  CheckpointsKeepSessions = (old new : State K V) (upto : ℕ) (result : Result (Unit {0}) CheckpointRefused) (session : OpenSession K V) → Checkpoints cmp old upto result new → IsOwnSession cmp old session → IsOwnSession cmp new session

  -- an index's own receipt is right, or too old
  abbrev pub OwnReceiptsAuditYes : Type 0
  OwnReceiptsAuditYes = (s : State K V) (receipt : Receipt K V) (found : Audit) → IsOwnReceipt cmp s receipt → Audits cmp s receipt found → (found ≡ audits.Yes) ⊎ (found ≡ audits.TooOld s.base.number)

  -- every call that leaves base and history leaves each receipt an index's own, and where it leaves the place of a session
  -- too, that session
  abbrev pub OthersKeepReceipts : Type 0
  OthersKeepReceipts = (old new : State K V) (receipt : Receipt K V) → new.base ≡ old.base → new.history ≡ old.history → IsOwnReceipt cmp old receipt → IsOwnReceipt cmp new receipt

  abbrev pub OthersKeepSessions : Type 0
  OthersKeepSessions = (old new : State K V) (session : OpenSession K V) → new.base ≡ old.base → new.history ≡ old.history → list_read new session ≡ list_read old session → IsOwnSession cmp old session → IsOwnSession cmp new session
