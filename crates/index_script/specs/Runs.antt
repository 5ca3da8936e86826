-- What a run reads and writes.
use Rattle.std.specs.Prelude.{◌≡◌, ℕ, ◌⊎◌, Option, List, [], ◌∷◌, ◌++◌, take, IsErrOf, OnOk, Result, Ok, Err, codes}
use Rattle.std.specs.Io.KnownBytes.{Consumes, Appends, IsAtEnd}
use Rattle.index_script.specs.declared.run.RunError.{RunError}
use Rattle.index_script.specs.declared.run.RunError.TheVariants as errors
use Rattle.index_script.specs.Lines.{Lacks, Begins, Splits, AreLines}
use Rattle.index_script.specs.Script.{Script, ActsOnLine, Outputs}

-- this is the first line of what comes
abbrev pub IsNextLine : List ℕ → List ℕ → Type 0
IsNextLine line rest = Lacks 10 line × ((rest ≡ line) ⊎ ((more : List ℕ) × (rest ≡ line ++ 10 ∷ more)))

-- on an index whose segments have at most this many pairs
module _ (width : ℕ) where
  -- the output of these lines was written
  pub record Answered (old : Script) (lines : List (List ℕ)) (writer writer' : Option (List ℕ)) (new : Script) : Type 0 where
    pub output : List ℕ
    pub outputs : Outputs width old lines output new
    pub written : Appends writer writer' output

  -- the output of these lines was written, and then a beginning of the reply to the next line
  pub record Breaks (old : Script) (lines : List (List ℕ)) (line : List ℕ) (writer writer' : Option (List ℕ)) : Type 0 where
    pub mid : Script
    pub new : Script
    pub output : List ℕ
    pub text : List ℕ
    pub n : ℕ
    pub outputs : Outputs width old lines output mid
    pub acts : ActsOnLine width mid line text new
    pub written : Appends writer writer' (output ++ take n text)

  -- all input was read, and each of its lines answered
  pub record RunsToEnd (old : Script) (reader reader' writer writer' : Option (List ℕ)) : Type 0 where
    pub input : List ℕ
    pub lines : List (List ℕ)
    pub new : Script
    pub read : Consumes reader reader' input
    pub at_end : IsAtEnd reader'
    pub are_lines : AreLines input lines
    pub answered : Answered old lines writer writer' new

  -- what was read is complete lines, each answered, and a begun one, which isn't acted on
  pub record StopsReading (old : Script) (reader reader' writer writer' : Option (List ℕ)) : Type 0 where
    pub input : List ℕ
    pub lines : List (List ℕ)
    pub begun : List ℕ
    pub new : Script
    pub read : Consumes reader reader' input
    pub splits : Splits input lines begun
    pub answered : Answered old lines writer writer' new

  -- what was read begins with lines that were answered; of the reply to the next line a beginning was written
  pub record StopsWriting (old : Script) (reader reader' writer writer' : Option (List ℕ)) : Type 0 where
    pub input : List ℕ
    pub lines : List (List ℕ)
    pub rest : List ℕ
    pub line : List ℕ
    pub read : Consumes reader reader' input
    pub begins : Begins input lines rest
    pub next : IsNextLine line rest
    pub breaks : Breaks old lines line writer writer'

  -- what was read begins with lines that were answered, and nothing was written for what follows
  pub record StopsForMemory (old : Script) (reader reader' writer writer' : Option (List ℕ)) : Type 0 where
    pub input : List ℕ
    pub lines : List (List ℕ)
    pub rest : List ℕ
    pub new : Script
    pub read : Consumes reader reader' input
    pub begins : Begins input lines rest
    pub answered : Answered old lines writer writer' new

  -- how a run ends, by its answer
  pub record Ends (old : Script) (result : Result (Unit {0}) RunError) (reader reader' writer writer' : Option (List ℕ)) : Type 0 where
    pub done : OnOk result (RunsToEnd old reader reader' writer writer')
    pub read : IsErrOf result errors.Read → StopsReading old reader reader' writer writer'
    pub write : IsErrOf result errors.Write → StopsWriting old reader reader' writer writer'
    pub memory : IsErrOf result errors.Memory → StopsForMemory old reader reader' writer writer'

-- the status of the program
abbrev pub status_of : Result (Unit {0}) RunError → ℕ
status_of (Ok done) = 0
status_of (Err errors.Read) = 1
status_of (Err errors.Write) = 1
status_of (Err errors.Memory) = 2

-- what it writes to standard error
abbrev pub complaint_of : Result (Unit {0}) RunError → List ℕ
complaint_of (Ok done) = []
complaint_of (Err errors.Read) = codes "index_run: read\n"
complaint_of (Err errors.Write) = codes "index_run: write\n"
complaint_of (Err errors.Memory) = codes "index_run: memory\n"
