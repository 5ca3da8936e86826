-- A desk keeps sessions of an index by labels: at the place of each, a ticket with its label. Calls of both, and runs of calls.
use Rattle.std.specs.Prelude.{◌≡◌, ◌≢◌, ℕ, ◌<◌, ◌≤◌, List, [], ◌∷◌, length, Option, Some, None, Ok, Err, slice_get, slice_set, take}
use Rattle.std.specs.declared.cmp.Ordering.{Ordering}
use Rattle.local_versions.specs.Store.{Version}
use Rattle.local_index.specs.State.{State, OpenSession, IsSessionOf, IsOpenAt, HasNoPlace, Has, Opens, Closes, list_read, Accepts, Checkpoints, Refuses, Reads, Audits, Reclaims, MayAccept, latest_number}
use Rattle.serial_history.specs.declared.query.Query.{Query}
use Rattle.serial_history.specs.declared.query.Query.TheVariants as queries
use Rattle.version_views.specs.declared.write.Write.{Write}
use Rattle.serial_history.specs.declared.transaction.Receipt.{Receipt}
use Rattle.serial_history.specs.declared.commit.Cause.TheVariants as causes
use Rattle.serial_history.specs.declared.commit.CheckpointRefused.TheVariants as checkpoints
use Rattle.local_index.specs.declared.desk.Ticket.{Ticket}
use Rattle.local_index.specs.declared.play.ReadSet.{ReadSet}
use Rattle.local_index.specs.declared.play.ReadSet.TheVariants as sets
use Rattle.local_index.specs.declared.play.DeskCall.{DeskCall}
use Rattle.local_index.specs.declared.play.DeskCall.TheVariants as calls
use Rattle.local_index.specs.declared.play.DeskReply.{DeskReply}
use Rattle.local_index.specs.declared.play.DeskReply.TheVariants as replies
use Rattle.local_index.specs.declared.refused.DeskRefused.{DeskRefused}
use Rattle.local_index.specs.declared.refused.DeskRefused.TheVariants as refusals

-- an index, and a desk of sessions of it: at each place the ticket of the session that is open there, with its label
pub record Machine (K V : Type 0) : Type 0 where
  pub index : State K V
  pub desk : List (Option (Ticket K V))

-- of this index and this desk
abbrev pub machine : {K V : Type 0} → State K V → List (Option (Ticket K V)) → Machine K V
machine index desk = record { index = index; desk = desk }

module _ {K V : Type 0} where
  -- the reply that says that nothing was done
  abbrev pub reply_of : DeskRefused K V → DeskReply K V
  reply_of refusals.NoPlace = replies.NoPlace
  reply_of refusals.Busy = replies.Busy
  reply_of (refusals.NoSession writes) = replies.NoSession writes
  reply_of (refusals.Commit refused) = replies.Refused refused
  reply_of (refusals.Behind number) = replies.Behind number
  reply_of (refusals.Ahead number) = replies.Ahead number

  -- the reply says that nothing was done
  abbrev pub IsRefusal : DeskReply K V → Type 0
  IsRefusal reply = (refusal : DeskRefused K V) × (reply_of refusal ≡ reply)

  -- at this place the desk has this ticket, under this label
  pub record IsTicketAt (desk : List (Option (Ticket K V))) (label place : ℕ) (ticket : Ticket K V) : Type 0 where
    pub there : slice_get desk place ≡ Some (Some ticket)
    pub labelled : ticket.label ≡ label

  -- no session has the label
  abbrev pub IsUnknown : List (Option (Ticket K V)) → ℕ → Type 0
  IsUnknown desk label = (place : ℕ) (ticket : Ticket K V) → IsTicketAt desk label place ticket → ⊥

  -- some session has the label
  abbrev pub IsKnown : List (Option (Ticket K V)) → ℕ → Type 0
  IsKnown desk label = (place : ℕ) × (ticket : Ticket K V) × IsTicketAt desk label place ticket

  -- the desk has room for a ticket at each place, and its sessions are those of the index
  pub record Serves (m : Machine K V) : Type 0 where
    pub room : length m.index.places ≤ length m.desk
    pub placed : (place : ℕ) (ticket : Ticket K V) → slice_get m.desk place ≡ Some (Some ticket) → ticket.session.place ≡ place
    pub opened : (place : ℕ) (ticket : Ticket K V) → slice_get m.desk place ≡ Some (Some ticket) → IsSessionOf m.index ticket.session

  -- each session of the index keeps at the desk
  abbrev pub KeepsAll : Machine K V → Type 0
  KeepsAll m = (place : ℕ) (version : Version K V) → IsOpenAt m.index place version → (ticket : Ticket K V) × (slice_get m.desk place ≡ Some (Some ticket))

  -- the places, with those free at which the desk has a ticket
  abbrev pub cleared : List (Option (Ticket K V)) → List (Option (Version K V)) → List (Option (Version K V))
  cleared [] places = places
  cleared (ticket ∷ tickets) [] = []
  cleared (None ∷ tickets) (place ∷ places) = place ∷ cleared tickets places
  cleared (Some ticket ∷ tickets) (place ∷ places) = None ∷ cleared tickets places

  -- the sessions of a desk close, and no other
  abbrev pub Clears : State K V → List (Option (Ticket K V)) → State K V → Type 0
  Clears old desk new = new ≡ record old { places = cleared desk old.places }

  -- the session under the label closes, and gives this receipt
  pub record ReturnsTicket (old : Machine K V) (label : ℕ) (receipt : Receipt K V) (new : Machine K V) : Type 0 where
    pub place : ℕ
    pub ticket : Ticket K V
    pub shown : IsTicketAt old.desk label place ticket
    pub gives : receipt ≡ ticket.session.receipt
    pub closes : Closes old.index place new.index
    pub left : new.desk ≡ slice_set old.desk place None

  -- the receipt with the reads that are meant
  abbrev pub RestsOn : List (Option (Ticket K V)) → ReadSet K V → Receipt K V → Type 0
  RestsOn desk sets.Empty receipt = (receipt.number ≡ 0) × (receipt.reads ≡ [])
  RestsOn desk (sets.Receipt own) receipt = receipt ≡ own
  RestsOn desk (sets.Session label) receipt = (place : ℕ) × (ticket : Ticket K V) × IsTicketAt desk label place ticket × (receipt ≡ ticket.session.receipt)

  -- they are a session's, and there is no such session
  abbrev pub RestsOnNone : List (Option (Ticket K V)) → ReadSet K V → Type 0
  RestsOnNone desk sets.Empty = ⊥
  RestsOnNone desk (sets.Receipt receipt) = ⊥
  RestsOnNone desk (sets.Session label) = IsUnknown desk label

  module _ (cmp : K → K → Ordering) where
    -- a session opens, and keeps down under the label
    pub record TakesTicket (old : Machine K V) (label number : ℕ) (new : Machine K V) : Type 0 where
      pub unknown : IsUnknown old.desk label
      pub session : OpenSession K V
      pub opens : Opens cmp old.index session new.index
      pub told : number ≡ session.receipt.number
      pub ticketed : new.desk ≡ slice_set old.desk session.place (Some (record { label = label; session = session }))

  module _ (cmp : K → K → Ordering) (width : ℕ) where
    -- a used label is busy, before a place is sought
    abbrev pub OpenStep : Machine K V → ℕ → DeskReply K V → Machine K V → Type 0
    OpenStep old label (replies.Opened number) new = TakesTicket cmp old label number new
    OpenStep old label replies.NoPlace new = IsUnknown old.desk label × HasNoPlace old.index × (new ≡ old)
    OpenStep old label replies.Busy new = IsKnown old.desk label × (new ≡ old)
    OpenStep old label reply new = ⊥

    abbrev pub CloseStep : Machine K V → ℕ → DeskReply K V → Machine K V → Type 0
    CloseStep old label (replies.Closed receipt) new = ReturnsTicket old label receipt new
    CloseStep old label (replies.NoSession back) new = IsUnknown old.desk label × (back.items ≡ []) × (new ≡ old)
    CloseStep old label reply new = ⊥

    -- the answer is that of the list at the session's opening, and the session's receipt has it with its query
    abbrev pub ReadStep : Machine K V → ℕ → Query K → DeskReply K V → Machine K V → Type 0
    ReadStep old label query (replies.Answer answer) new =
        (place : ℕ) × (ticket : Ticket K V) × (session : OpenSession K V) × IsTicketAt old.desk label place ticket
        × Reads cmp old.index ticket.session query answer session × (new ≡ record old { desk = slice_set old.desk place (Some (record ticket { session = session })) })
    ReadStep old label query (replies.NoSession back) new = IsUnknown old.desk label × (back.items ≡ []) × (new ≡ old)
    ReadStep old label query reply new = ⊥

    abbrev pub AuditStep : Machine K V → ReadSet K V → DeskReply K V → Machine K V → Type 0
    AuditStep old on (replies.Audit found) new = (receipt : Receipt K V) × RestsOn old.desk on receipt × Audits cmp old.index receipt found × (new ≡ old)
    AuditStep old on (replies.NoSession back) new = RestsOnNone old.desk on × (back.items ≡ []) × (new ≡ old)
    AuditStep old on reply new = ⊥

    -- a commit that is refused memory has no reply
    abbrev pub CommitStep : Machine K V → ReadSet K V → List (Write K V) → DeskReply K V → Machine K V → Type 0
    CommitStep old on writes (replies.Accepted told) new =
        (receipt : Receipt K V) × RestsOn old.desk on receipt × Accepts cmp width old.index receipt.reads writes told new.index × (new.desk ≡ old.desk)
    CommitStep old on writes (replies.Refused back) new =
        (receipt : Receipt K V) × RestsOn old.desk on receipt × Refuses cmp width old.index receipt.reads writes back new.index × (new.desk ≡ old.desk) × (back.cause ≢ causes.Memory)
    CommitStep old on writes (replies.NoSession back) new = RestsOnNone old.desk on × (back.items ≡ writes) × (new ≡ old)
    CommitStep old on writes reply new = ⊥

    -- sessions stay, and with them the desk
    abbrev pub ReclaimStep : Machine K V → DeskReply K V → Machine K V → Type 0
    ReclaimStep old replies.Reclaimed new = Reclaims cmp width old.index new.index × (new.desk ≡ old.desk)
    ReclaimStep old reply new = ⊥

    abbrev pub SlotsStep : Machine K V → DeskReply K V → Machine K V → Type 0
    SlotsStep old (replies.Slots count) new = (count ≡ old.index.used) × (new ≡ old)
    SlotsStep old reply new = ⊥

    abbrev pub NumberStep : Machine K V → ℕ → DeskReply K V → Machine K V → Type 0
    NumberStep old label (replies.Number number) new =
        (place : ℕ) × (ticket : Ticket K V) × IsTicketAt old.desk label place ticket × (number ≡ ticket.session.receipt.number) × (new ≡ old)
    NumberStep old label (replies.NoSession back) new = IsUnknown old.desk label × (back.items ≡ []) × (new ≡ old)
    NumberStep old label reply new = ⊥

    -- as many pairs as the list has at the session's opening
    abbrev pub LenStep : Machine K V → ℕ → DeskReply K V → Machine K V → Type 0
    LenStep old label (replies.Len count) new =
        (place : ℕ) × (ticket : Ticket K V) × IsTicketAt old.desk label place ticket × (count ≡ length (list_read old.index ticket.session)) × (new ≡ old)
    LenStep old label (replies.NoSession back) new = IsUnknown old.desk label × (back.items ≡ []) × (new ≡ old)
    LenStep old label reply new = ⊥

    -- sessions stay, and with them the desk
    abbrev pub CheckpointStep : Machine K V → ℕ → DeskReply K V → Machine K V → Type 0
    CheckpointStep old upto (replies.Checkpointed number) new = (number ≡ upto) × Checkpoints cmp old.index upto (Ok tt) new.index × (new.desk ≡ old.desk)
    CheckpointStep old upto (replies.Behind number) new = Checkpoints cmp old.index upto (Err (checkpoints.Behind number)) new.index × (new.desk ≡ old.desk)
    CheckpointStep old upto (replies.Ahead number) new = Checkpoints cmp old.index upto (Err (checkpoints.Ahead number)) new.index × (new.desk ≡ old.desk)
    CheckpointStep old upto reply new = ⊥

    -- from old, the call may be given this reply and lead to new
    abbrev pub Step : Machine K V → DeskCall K V → DeskReply K V → Machine K V → Type 0
    Step old (calls.Open label) reply new = OpenStep old label reply new
    Step old (calls.Close label) reply new = CloseStep old label reply new
    Step old (calls.Get label key) reply new = ReadStep old label (queries.Get key) reply new
    Step old (calls.Contains label key) reply new = ReadStep old label (queries.Contains key) reply new
    Step old (calls.Range label lower upper) reply new = ReadStep old label (queries.Range lower upper) reply new
    Step old (calls.Locate label key) reply new = ReadStep old label (queries.Locate key) reply new
    Step old (calls.First label lower upper count) reply new = ReadStep old label (queries.First lower upper count) reply new
    Step old (calls.Last label lower upper count) reply new = ReadStep old label (queries.Last lower upper count) reply new
    Step old (calls.Audit on) reply new = AuditStep old on reply new
    Step old (calls.Commit on writes) reply new = CommitStep old on writes.items reply new
    Step old calls.Reclaim reply new = ReclaimStep old reply new
    Step old calls.Slots reply new = SlotsStep old reply new
    Step old (calls.Number label) reply new = NumberStep old label reply new
    Step old (calls.Len label) reply new = LenStep old label reply new
    Step old (calls.Checkpoint upto) reply new = CheckpointStep old upto reply new

    -- the calls that may be refused memory: what a session reads, an audit at a number that is there, a checkpoint behind
    -- the base's number, and a commit that nothing else refuses; no other call takes any
    abbrev pub MayWantMemory : Machine K V → DeskCall K V → Type 0
    MayWantMemory m (calls.Get label key) = IsKnown m.desk label
    MayWantMemory m (calls.Contains label key) = IsKnown m.desk label
    MayWantMemory m (calls.Range label lower upper) = IsKnown m.desk label
    MayWantMemory m (calls.Locate label key) = IsKnown m.desk label
    MayWantMemory m (calls.First label lower upper count) = IsKnown m.desk label
    MayWantMemory m (calls.Last label lower upper count) = IsKnown m.desk label
    MayWantMemory m (calls.Audit on) = (receipt : Receipt K V) × RestsOn m.desk on receipt × Has m.index receipt.number
    MayWantMemory m (calls.Commit on writes) = (receipt : Receipt K V) × RestsOn m.desk on receipt × MayAccept cmp m.index receipt.reads
    MayWantMemory m (calls.Open label) = ⊥
    MayWantMemory m (calls.Close label) = ⊥
    MayWantMemory m calls.Reclaim = ⊥
    MayWantMemory m calls.Slots = ⊥
    MayWantMemory m (calls.Number label) = ⊥
    MayWantMemory m (calls.Len label) = ⊥
    MayWantMemory m (calls.Checkpoint upto) = (m.index.base.number < upto) × (upto ≤ latest_number m.index)

    -- these calls may be given these replies, one after the other
    abbrev pub Run : Machine K V → List (DeskCall K V) → List (DeskReply K V) → Machine K V → Type 0
    Run old [] [] new = new ≡ old
    Run old (call ∷ calls) (reply ∷ replies) new = (mid : Machine K V) × Step old call reply mid × Run mid calls replies new
    Run old [] (reply ∷ replies) new = ⊥
    Run old (call ∷ calls) [] new = ⊥

    -- the calls before one of them may be given these replies
    abbrev pub RunsUpTo : Machine K V → List (DeskCall K V) → List (DeskReply K V) → Machine K V → Type 0
    RunsUpTo old calls replies new = (n : ℕ) × (n < length calls) × Run old (take n calls) replies new
