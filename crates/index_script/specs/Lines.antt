-- The lines of an input.
use Rattle.std.specs.Prelude.{◌≡◌, ◌≢◌, ℕ, Option, Some, None, List, [], ◌∷◌, ◌++◌, cond, nat_le, length}
use Rattle.std.specs.List.{AllByRecursion}

-- no byte is this one
abbrev pub Lacks : ℕ → List ℕ → Type 0
Lacks byte bytes = AllByRecursion (λ b. b ≢ byte) bytes

-- these lines, each with its LF, and what comes after them
abbrev pub joined_lines : List (List ℕ) → List ℕ → List ℕ
joined_lines [] rest = rest
joined_lines (line ∷ lines) rest = line ++ 10 ∷ joined_lines lines rest

-- the input begins with these lines, each ended by its LF, and continues with the rest
pub record Begins (input : List ℕ) (lines : List (List ℕ)) (rest : List ℕ) : Type 0 where
  pub whole : input ≡ joined_lines lines rest
  pub unbroken : AllByRecursion (Lacks 10) lines

-- the input has these complete lines and no other; a line that isn't complete is begun behind them
pub record Splits (input : List ℕ) (lines : List (List ℕ)) (begun : List ℕ) : Type 0 where
  pub begins : Begins input lines begun
  pub rest : Lacks 10 begun

-- the last line may lack its LF, and nothing after a final LF is no line
abbrev pub ended : List (List ℕ) → List ℕ → List (List ℕ)
ended lines [] = lines
ended lines (b ∷ bs) = lines ++ (b ∷ bs) ∷ []

-- these are the lines of the input
abbrev pub AreLines : List ℕ → List (List ℕ) → Type 0
AreLines input lines = (whole : List (List ℕ)) × (begun : List ℕ) × Splits input whole begun × (lines ≡ ended whole begun)

-- what is kept of a line: nothing, where it is longer than a line may be
abbrev pub kept : List ℕ → Option (List ℕ)
kept line = cond (nat_le (length line) 65536) (Some line) None
