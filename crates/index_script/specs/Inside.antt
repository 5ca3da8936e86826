-- What the parts of a script owe each other.
use Rattle.std.specs.Prelude.{◌≡◌, ◌≢◌, ℕ, ◌⊎◌, Option, List, [], ◌++◌, take}
use Rattle.std.specs.Io.KnownBytes.{Consumes, Appends}
use Rattle.index_script.specs.Lines.{Begins, Splits, kept}
use Rattle.index_script.specs.Script.{Script, ActsOnLine}
use Rattle.index_script.specs.Runs.{Answered, Breaks, IsNextLine}
use Rattle.local_index.specs.declared.play.DeskCall.{DeskCall}
use Rattle.local_index.specs.declared.play.DeskCall.TheVariants as calls
use Rattle.local_index.specs.declared.play.DeskReply.{DeskReply}
use Rattle.local_index.specs.declared.play.DeskReply.TheVariants as replies
use Rattle.version_views.specs.declared.write.Write.{Write}

abbrev pub IsNoCommit : DeskCall ℕ (List ℕ) → Type 0
IsNoCommit (calls.Commit on writes) = ⊥
IsNoCommit call = Unit {0}

-- the writes that a reply to a commit gives back; else those that are staged
abbrev pub writes_given_back : DeskReply ℕ (List ℕ) → List (Write ℕ (List ℕ)) → List (Write ℕ (List ℕ))
writes_given_back (replies.Refused refused) staged = refused.writes.items
writes_given_back (replies.NoSession back) staged = back.items
writes_given_back reply staged = staged

-- on an index whose segments have at most this many pairs
module _ (width : ℕ) where
  -- a line is acted on, and its reply written
  pub record Answers (old : Script) (line : List ℕ) (writer writer' : Option (List ℕ)) (new : Script) : Type 0 where
    pub text : List ℕ
    pub acts : ActsOnLine width old line text new
    pub written : Appends writer writer' text

  -- the line that was begun, and ends with this part, is acted on, and its reply written
  abbrev pub AnswersBegun : Script → Option (List ℕ) → List ℕ → Option (List ℕ) → Option (List ℕ) → Script → Type 0
  AnswersBegun old begun part writer writer' new = (line : List ℕ) → begun ≡ kept line → Answers old (line ++ part) writer writer' new

  -- a line is acted on, and a beginning of its reply written
  pub record Falters (old : Script) (line : List ℕ) (writer writer' : Option (List ℕ)) : Type 0 where
    pub text : List ℕ
    pub n : ℕ
    pub new : Script
    pub acts : ActsOnLine width old line text new
    pub written : Appends writer writer' (take n text)

  -- the same of the line that was begun, and ends with this part, and of that which was begun alone
  abbrev pub FaltersBegun : Script → Option (List ℕ) → List ℕ → Option (List ℕ) → Option (List ℕ) → Type 0
  FaltersBegun old begun part writer writer' = (line : List ℕ) → begun ≡ kept line → Falters old (line ++ part) writer writer'

  abbrev pub FaltersKept : Script → Option (List ℕ) → Option (List ℕ) → Option (List ℕ) → Type 0
  FaltersKept old begun writer writer' = (line : List ℕ) → begun ≡ kept line → Falters old line writer writer'

  -- the input was taken: its complete lines are answered, and its begun line is kept
  pub record Taken (start : Script) (input : List ℕ) (before writer : Option (List ℕ)) (begun : Option (List ℕ)) (now : Script) : Type 0 where
    pub lines : List (List ℕ)
    pub line : List ℕ
    pub splits : Splits input lines line
    pub keeps : begun ≡ kept line
    pub answered : Answered width start lines before writer now

  -- as it was taken so far, so it is taken with this piece
  abbrev pub Feeds : Script → Option (List ℕ) → List ℕ → Option (List ℕ) → Option (List ℕ) → Option (List ℕ) → Script → Type 0
  Feeds old begun piece writer writer' begun' new =
      (start : Script) (input : List ℕ) (before : Option (List ℕ)) → Taken start input before writer begun old → Taken start (input ++ piece) before writer' begun' new

  -- a line of the piece falters
  pub record BreaksOff (start : Script) (input : List ℕ) (before writer : Option (List ℕ)) : Type 0 where
    pub lines : List (List ℕ)
    pub rest : List ℕ
    pub line : List ℕ
    pub begins : Begins input lines rest
    pub next : IsNextLine line rest
    pub breaks : Breaks width start lines line before writer

  abbrev pub FeedBreaks : Script → Option (List ℕ) → List ℕ → Option (List ℕ) → Option (List ℕ) → Type 0
  FeedBreaks old begun piece writer writer' =
      (start : Script) (input : List ℕ) (before : Option (List ℕ)) → Taken start input before writer begun old → BreaksOff start (input ++ piece) before writer'

  -- memory is wanted in the piece
  pub record StopsShort (start : Script) (input : List ℕ) (before writer : Option (List ℕ)) : Type 0 where
    pub lines : List (List ℕ)
    pub rest : List ℕ
    pub new : Script
    pub begins : Begins input lines rest
    pub answered : Answered width start lines before writer new

  abbrev pub FeedStops : Script → Option (List ℕ) → List ℕ → Option (List ℕ) → Option (List ℕ) → Type 0
  FeedStops old begun piece writer writer' =
      (start : Script) (input : List ℕ) (before : Option (List ℕ)) → Taken start input before writer begun old → StopsShort start (input ++ piece) before writer'

  -- all that was read was taken
  pub record TakesAllRead (start : Script) (reader reader' before writer : Option (List ℕ)) (begun : Option (List ℕ)) (now : Script) : Type 0 where
    pub input : List ℕ
    pub read : Consumes reader reader' input
    pub taken : Taken start input before writer begun now

  -- the begun line is answered, if there is one
  abbrev pub Finishes : Script → Option (List ℕ) → Option (List ℕ) → Option (List ℕ) → Script → Type 0
  Finishes old begun writer writer' new =
      ((begun ≡ kept []) × (new ≡ old) × (writer' ≡ writer)) ⊎ ((line : List ℕ) → begun ≡ kept line → (line ≢ []) × Answers old line writer writer' new)
