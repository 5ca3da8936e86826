-- The texts of replies.
use Rattle.std.specs.Prelude.{ℕ, true, false, Some, None, List, [], ◌∷◌, ◌++◌, codes, length}
use Rattle.std.specs.Fmt.{decimal}
use Rattle.serial_history.specs.declared.query.Answer.{Answer}
use Rattle.serial_history.specs.declared.query.Answer.TheVariants as answers
use Rattle.serial_history.specs.declared.query.Near.{Near}
use Rattle.serial_history.specs.declared.query.Near.TheVariants as nears
use Rattle.serial_history.specs.declared.transaction.Audit.{Audit}
use Rattle.serial_history.specs.declared.transaction.Audit.TheVariants as audits
use Rattle.serial_history.specs.declared.commit.Cause.{Cause}
use Rattle.serial_history.specs.declared.commit.Cause.TheVariants as causes
use Rattle.local_index.specs.declared.play.DeskReply.{DeskReply}
use Rattle.local_index.specs.declared.play.DeskReply.TheVariants as replies
use Rattle.version_views.specs.declared.write.Reply.{Reply}
use Rattle.version_views.specs.declared.write.Reply.TheVariants as told
use Rattle.index_script.specs.declared.request.Fault.{Fault}
use Rattle.index_script.specs.declared.request.Fault.TheVariants as faults

-- the word of a fault
abbrev pub word_of : Fault → List ℕ
word_of faults.Long = codes "long"
word_of faults.Text = codes "text"
word_of faults.Command = codes "command"
word_of faults.Words = codes "words"
word_of faults.Number = codes "number"
word_of faults.Bound = codes "bound"
word_of faults.Session = codes "session"
word_of faults.Busy = codes "busy"

-- the reply to a line that is at fault
abbrev pub fault_text : ℕ → Fault → List ℕ
fault_text line fault = codes "line " ++ decimal line ++ codes ": " ++ word_of fault ++ codes "\n"

-- the reply to a staging
abbrev pub staged_text : ℕ → List ℕ
staged_text count = codes "staged " ++ decimal count ++ codes "\n"

-- the reply to a discarding
abbrev pub discarded_text : ℕ → List ℕ
discarded_text count = codes "discarded " ++ decimal count ++ codes "\n"

-- the reply to a write, after a space
abbrev pub told_text : Reply → List ℕ
told_text told.Inserted = codes " inserted"
told_text told.Duplicate = codes " duplicate"
told_text told.Upserted = codes " upserted"
told_text told.Removed = codes " removed"
told_text told.Absent = codes " absent"
told_text told.RangeRemoved = codes " deleted"
told_text told.Cleared = codes " cleared"

abbrev pub told_texts : List Reply → List ℕ
told_texts [] = []
told_texts (reply ∷ replies) = told_text reply ++ told_texts replies

-- a commit is accepted under this number, with these replies to its writes
abbrev pub accepted_text : ℕ → List Reply → List ℕ
accepted_text number replies = codes "ok " ++ decimal number ++ told_texts replies ++ codes "\n"

-- why a commit is refused, by what is said of the text; one that is refused memory has no reply
abbrev pub CausePrints : Cause → (List ℕ → Type 0) → Type 0
CausePrints (causes.Conflict place) Is = Is (codes "conflict " ++ decimal place ++ codes "\n")
CausePrints causes.Exhausted Is = Is (codes "exhausted\n")
CausePrints causes.Memory Is = ⊥
CausePrints causes.NoSlot Is = Is (codes "noslot\n")

-- a pair in a line of its own: its value is printed as it is, to the end of the line
abbrev pub pair_text : ℕ × List ℕ → List ℕ
pair_text pair = decimal pair.0 ++ codes " " ++ pair.1 ++ codes "\n"

abbrev pub pair_texts : List (ℕ × List ℕ) → List ℕ
pair_texts [] = []
pair_texts (pair ∷ pairs) = pair_text pair ++ pair_texts pairs

-- the pair at a key, or those around it, and the pairs, the smaller key first
abbrev pub near_text : Near ℕ (List ℕ) → List ℕ
near_text (nears.Exact key value) = codes "exact\n" ++ pair_text (key, value)
near_text (nears.Between key value larger other) = codes "between\n" ++ pair_text (key, value) ++ pair_text (larger, other)
near_text (nears.Smaller key value) = codes "smaller\n" ++ pair_text (key, value)
near_text (nears.Larger key value) = codes "larger\n" ++ pair_text (key, value)
near_text nears.Empty = codes "empty\n"

-- what a list answers
abbrev pub answer_text : Answer ℕ (List ℕ) → List ℕ
answer_text (answers.Get (Some value)) = codes "some " ++ value ++ codes "\n"
answer_text (answers.Get None) = codes "none\n"
answer_text (answers.Contains true) = codes "yes\n"
answer_text (answers.Contains false) = codes "no\n"
answer_text (answers.Range pairs) = codes "pairs " ++ decimal (length pairs) ++ codes "\n" ++ pair_texts pairs
answer_text (answers.Locate near) = near_text near

-- what an audit found
abbrev pub audit_text : Audit → List ℕ
audit_text audits.Yes = codes "audit yes\n"
audit_text (audits.No place) = codes "audit no " ++ decimal place ++ codes "\n"
audit_text audits.Unknown = codes "audit unknown\n"
audit_text (audits.TooOld number) = codes "audit old\n"

-- the reply to a call, by a line with this number and this label: this is said of its text
abbrev pub Prints : ℕ → ℕ → DeskReply ℕ (List ℕ) → (List ℕ → Type 0) → Type 0
Prints line label (replies.Opened number) Is = Is (codes "open " ++ decimal label ++ codes " at " ++ decimal number ++ codes "\n")
Prints line label replies.NoPlace Is = Is (codes "noplace\n")
Prints line label replies.Busy Is = Is (fault_text line faults.Busy)
Prints line label (replies.Closed receipt) Is = Is (codes "closed " ++ decimal label ++ codes "\n")
Prints line label (replies.NoSession back) Is = Is (fault_text line faults.Session)
Prints line label (replies.Answer answer) Is = Is (answer_text answer)
Prints line label (replies.Audit found) Is = Is (audit_text found)
Prints line label (replies.Accepted accepted) Is = Is (accepted_text accepted.number accepted.replies.items)
Prints line label (replies.Refused refused) Is = CausePrints refused.cause Is
Prints line label replies.Reclaimed Is = Is (codes "reclaimed\n")
Prints line label (replies.Slots count) Is = Is (codes "slots " ++ decimal count ++ codes "\n")
Prints line label (replies.Number number) Is = Is (codes "number " ++ decimal number ++ codes "\n")
Prints line label (replies.Len count) Is = Is (codes "len " ++ decimal count ++ codes "\n")
Prints line label (replies.Checkpointed number) Is = Is (codes "checkpoint " ++ decimal number ++ codes "\n")
Prints line label (replies.Behind number) Is = Is (codes "behind " ++ decimal number ++ codes "\n")
Prints line label (replies.Ahead number) Is = Is (codes "ahead " ++ decimal number ++ codes "\n")
