-- the replies of an accepted commit, and what a transaction is that makes its writes of what it read
use Rattle.std.specs.Prelude.{◌≡◌, List, Ok, Result, map}
use Rattle.std.specs.Global.{Vec}
use Rattle.std.specs.declared.alloc.AllocError.{AllocError}
use Rattle.std.specs.declared.cmp.Ordering.{Ordering}
use Rattle.version_views.specs.declared.write.Reply.{Reply}
use Rattle.version_views.specs.declared.write.Write.{Write}
use Rattle.serial_history.specs.Serial.{IsValid, Read}
use Rattle.serial_history.specs.declared.query.Query.{Query}
use Rattle.shared_index.specs.declared.transact.Transacted.{Transacted}
use Rattle.shared_index.specs.declared.transact.TransactRefused.{TransactRefused}
use Rattle.shared_index.specs.declared.transact.TransactRefused.TheVariants as refusals

module _ {K V : Type 0} (cmp : K → K → Ordering) where
  -- these are the replies to the writes, on a list of which these reads hold
  abbrev pub AreTold : List (Read K V) → List (Write K V) → List Reply → Type 0
  AreTold reads writes replies = (pairs : List (K × V)) × IsValid cmp pairs (record { reads = reads; writes = writes; replies = replies })

  -- the writes of an accepted transaction are those that a plan returns for its reads, and its replies are those of a list of which these reads hold
  abbrev pub IsMade : (List (Read K V) → Result (Vec (Write K V)) AllocError → Type 0) → Transacted K V → Type 0
  IsMade plan t = (writes : Vec (Write K V)) × plan t.receipt.reads (Ok writes) × AreTold t.receipt.reads writes.items t.accepted.replies.items

module _ {K V : Type 0} where
  -- what recorded reads ask
  abbrev pub queries_of : List (Read K V) → List (Query K)
  queries_of reads = map (λ read. read.0) reads

  -- the writes that a refused one hands back are those that a plan gives for these queries with some answers
  abbrev pub HandsBack : (List (Read K V) → Result (Vec (Write K V)) AllocError → Type 0) → List (Query K) → TransactRefused K V → Type 0
  HandsBack plan queries (refusals.Commit refused) = (reads : List (Read K V)) × (queries_of reads ≡ queries) × ((writes : Vec (Write K V)) × plan reads (Ok writes) × (refused.writes.items ≡ writes.items))
  HandsBack plan queries refusals.Memory = Unit {0}
  HandsBack plan queries refusals.NoVersion = Unit {0}
