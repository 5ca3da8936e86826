-- what a reader of a shared index reads, and what it recorded
use Rattle.std.specs.Prelude.{ℕ, List, Option}
use Rattle.std.specs.Borrow.{GName}
use Rattle.std.specs.declared.clone.Clone as clone
use Rattle.std.specs.declared.cmp.PartialEq as equal
use Rattle.serial_history.specs.declared.transaction.Receipt.{Receipt}
use Rattle.shared_sessions.specs.Sessions.{OpenedSession}
use Rattle.shared_index.specs.Participants.{list_in, reads_in}
use Rattle.shared_index.specs.declared.naming.Naming as naming
use Rattle.shared_index.specs.declared.reading.SharedReading.{SharedReading}

module _ {L K V : Type 0} {S : ℕ} {n : naming.Ghosts L} {k : clone.Ghosts K} {v : clone.Ghosts V} {d : equal.Ghosts V} where
  -- its session
  abbrev pub session_of : SharedReading L K V S n k v d → Option (OpenedSession K V)
  session_of r = r.participant.now

  -- the reference by which it borrows the participant
  abbrev pub reference_of : SharedReading L K V S n k v d → GName
  reference_of r = r.participant.ghost_name

  -- the list that it reads
  abbrev pub list_read : SharedReading L K V S n k v d → List (K × V)
  list_read r = list_in (session_of r)

  -- what it recorded, with the number of its list
  abbrev pub receipt_of : SharedReading L K V S n k v d → Receipt K V
  receipt_of r = reads_in (session_of r)
