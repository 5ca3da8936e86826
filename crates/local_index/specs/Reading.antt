-- What a reader of an index reads, and what it recorded.
use Rattle.std.specs.Prelude.{ℕ, List}
use Rattle.std.specs.declared.clone.Clone as clone
use Rattle.std.specs.declared.cmp.Ord as ord
use Rattle.std.specs.declared.cmp.PartialEq as equal
use Rattle.std.specs.declared.cmp.PartialOrd as partial
use Rattle.std.specs.Borrow.{GName}
use Rattle.serial_history.specs.declared.transaction.Receipt.{Receipt}
use Rattle.serial_history.specs.Serial.{Read}
use Rattle.local_index.specs.State.{State, OpenSession, list_open}
use Rattle.local_index.specs.declared.reading.Reading.{Reading}

module _ {K V : Type 0} {S : ℕ} {k : clone.Ghosts K} {o : ord.Ghosts K} {e : equal.Ghosts K} {p : partial.Ghosts K} {v : clone.Ghosts V} {d : equal.Ghosts V} where
  -- the index that it borrows
  abbrev pub index_of : Reading K V S (List (Read K V)) k o e p v d → State K V
  index_of r = r.index.now

  -- the reference by which it borrows it
  abbrev pub reference_of : Reading K V S (List (Read K V)) k o e p v d → GName
  reference_of r = r.index.ghost_name

  -- what it recorded, with the number of its list
  abbrev pub receipt_of : Reading K V S (List (Read K V)) k o e p v d → Receipt K V
  receipt_of r = record { number = r.number; reads = r.reads }

  -- its session
  abbrev pub session_of : Reading K V S (List (Read K V)) k o e p v d → OpenSession K V
  session_of r = record { place = r.place; receipt = receipt_of r }

  -- the list that it reads
  abbrev pub list_read : Reading K V S (List (Read K V)) k o e p v d → List (K × V)
  list_read r = list_open (index_of r) r.place
