-- What the lines of a script do, and what is written for them.
use Rattle.std.specs.Prelude.{◌≡◌, ℕ, ◌+◌, ◌-◌, ◌^◌, List, [], ◌∷◌, ◌++◌, length, replicate, Some, None}
use Rattle.std.specs.Ordering.{nat_cmp}
use Rattle.local_index.specs.Desk.{Machine, OpenStep, CloseStep, ReadStep, AuditStep, NumberStep, LenStep, CommitStep, ReclaimStep, SlotsStep, CheckpointStep}
use Rattle.version_views.specs.declared.write.Write.{Write}
use Rattle.version_views.specs.declared.write.Write.TheVariants as writes
use Rattle.serial_history.specs.declared.query.Query.TheVariants as queries
use Rattle.local_index.specs.declared.play.ReadSet.TheVariants as sets
use Rattle.local_index.specs.declared.play.DeskReply.{DeskReply}
use Rattle.local_index.specs.declared.play.DeskReply.TheVariants as replies
use Rattle.index_script.specs.declared.request.Request.{Request}
use Rattle.index_script.specs.declared.request.Request.TheVariants as requests
use Rattle.index_script.specs.Requests.{LineAsksFor}
use Rattle.index_script.specs.Replies.{discarded_text, fault_text, staged_text, Prints}

-- the index with its desk, the staged writes, and the number of the present line
pub record Script : Type 0 where
  pub machine : Machine ℕ (List ℕ)
  pub staged : List (Write ℕ (List ℕ))
  pub line : ℕ

-- before the first line: no commit, no session, nothing staged, and the one slot of the empty version in use
abbrev pub fresh_script : ℕ → ℕ → Script
fresh_script places slots = record {
  machine = record {
    index = record { base = record { number = 0; pairs = [] }; history = []; places = replicate places None; last = 2 ^ 64 - 1; slots = slots; used = 1; raises = 0 };
    desk = replicate places None;
  };
  staged = [];
  line = 0;
}

-- an accepted commit takes what was staged; nothing else does
abbrev pub left_staged : DeskReply ℕ (List ℕ) → List (Write ℕ (List ℕ)) → List (Write ℕ (List ℕ))
left_staged (replies.Accepted told) staged = []
left_staged reply staged = staged

-- a call is made, its reply is printed, and what it leaves staged stays
pub record Plays (old : Script) (label : ℕ) (step : DeskReply ℕ (List ℕ) → Machine ℕ (List ℕ) → Type 0) (text : List ℕ) (new : Script) : Type 0 where
  pub reply : DeskReply ℕ (List ℕ)
  pub stepped : step reply new.machine
  pub printed : Prints old.line label reply (λ told. text ≡ told)
  pub left : new.staged ≡ left_staged reply old.staged
  pub same_line : new.line ≡ old.line

-- a write is staged behind the others
pub record Stages (old : Script) (write : Write ℕ (List ℕ)) (text : List ℕ) (new : Script) : Type 0 where
  pub changed : new ≡ record old { staged = old.staged ++ write ∷ [] }
  pub told : text ≡ staged_text (length new.staged)

-- what was staged is dropped
pub record Discards (old : Script) (text : List ℕ) (new : Script) : Type 0 where
  pub changed : new ≡ record old { staged = [] }
  pub told : text ≡ discarded_text (length old.staged)

-- the script at its next line
abbrev pub at_next : Script → Script
at_next old = record old { line = old.line + 1 }

-- on an index whose segments have at most this many pairs
module _ (width : ℕ) where
  -- a request is met with this reply; where no label is named, none is printed
  abbrev pub Meets : Script → Request → List ℕ → Script → Type 0
  Meets old (requests.Insert key value) text new = Stages old (writes.Insert key value) text new
  Meets old (requests.Upsert key value) text new = Stages old (writes.Upsert key value) text new
  Meets old (requests.Remove key) text new = Stages old (writes.Remove key) text new
  Meets old (requests.Delete lower upper) text new = Stages old (writes.RemoveRange lower upper) text new
  Meets old requests.Clear text new = Stages old writes.Clear text new
  Meets old requests.Discard text new = Discards old text new
  Meets old (requests.Commit None) text new = Plays old 0 (CommitStep nat_cmp width old.machine sets.Empty old.staged) text new
  Meets old (requests.Commit (Some label)) text new = Plays old 0 (CommitStep nat_cmp width old.machine (sets.Session label) old.staged) text new
  Meets old (requests.Open label) text new = Plays old label (OpenStep nat_cmp width old.machine label) text new
  Meets old (requests.Get label key) text new = Plays old label (ReadStep nat_cmp width old.machine label (queries.Get key)) text new
  Meets old (requests.Has label key) text new = Plays old label (ReadStep nat_cmp width old.machine label (queries.Contains key)) text new
  Meets old (requests.Range label lower upper) text new = Plays old label (ReadStep nat_cmp width old.machine label (queries.Range lower upper)) text new
  Meets old (requests.Near label key) text new = Plays old label (ReadStep nat_cmp width old.machine label (queries.Locate key)) text new
  Meets old (requests.Audit label) text new = Plays old label (AuditStep nat_cmp width old.machine (sets.Session label)) text new
  Meets old (requests.Close label) text new = Plays old label (CloseStep nat_cmp width old.machine label) text new
  Meets old (requests.Len label) text new = Plays old label (LenStep nat_cmp width old.machine label) text new
  Meets old (requests.Number label) text new = Plays old label (NumberStep nat_cmp width old.machine label) text new
  Meets old requests.Reclaim text new = Plays old 0 (ReclaimStep nat_cmp width old.machine) text new
  Meets old requests.Slots text new = Plays old 0 (SlotsStep nat_cmp width old.machine) text new
  Meets old (requests.Checkpoint upto) text new = Plays old 0 (CheckpointStep nat_cmp width old.machine upto) text new
  Meets old (requests.Faulty fault) text new = (new ≡ old) × (text ≡ fault_text old.line fault)

  -- a line has this reply, and the script continues so
  abbrev pub ActsOnLine : Script → List ℕ → List ℕ → Script → Type 0
  ActsOnLine old line text new = (request : Request) × LineAsksFor line request × Meets (at_next old) request text new

  -- lines have this output, the reply of each behind that of the line before
  abbrev pub Outputs : Script → List (List ℕ) → List ℕ → Script → Type 0
  Outputs old [] output new = (output ≡ []) × (new ≡ old)
  Outputs old (line ∷ lines) output new =
      (mid : Script) × (text : List ℕ) × (rest : List ℕ) × (output ≡ text ++ rest) × ActsOnLine old line text mid × Outputs mid lines rest new
