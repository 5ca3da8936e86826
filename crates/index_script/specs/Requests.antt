-- What a line of a script asks for, by the texts of the requests.
use Rattle.std.specs.Prelude.{◌≡◌, ◌≢◌, ℕ, ◌<◌, ◌^◌, Some, None, List, ◌∷◌, ◌++◌, length, codes, ◌⊎◌, ◌≤◌}
use Rattle.std.specs.Fmt.{decimal}
use Rattle.std.specs.Str.{IsUtf8}
use Rattle.std.specs.declared.ops.Bound.{Bound}
use Rattle.std.specs.declared.ops.Bound.TheVariants.{Included, Excluded, Unbounded}
use Rattle.index_script.specs.Lines.{Lacks}
use Rattle.index_script.specs.declared.request.Request.{Request}
use Rattle.index_script.specs.declared.request.Request.TheVariants as requests
use Rattle.index_script.specs.declared.request.Fault.{Fault}
use Rattle.index_script.specs.declared.request.Fault.TheVariants as faults

-- the argument is a number: its digits, with no 0 before them
abbrev pub IsNumber : List ℕ → Type 0
IsNumber word = (n : ℕ) × (n < 2 ^ 64) × (word ≡ decimal n)

-- a bound in a script: `=` and a number that is included, `!` and one that is excluded, or `*`
abbrev pub bound_text : Bound ℕ → List ℕ
bound_text (Included n) = codes "=" ++ decimal n
bound_text (Excluded n) = codes "!" ++ decimal n
bound_text Unbounded = codes "*"

-- its number, if it has one, is one of a script
abbrev pub IsSmall : Bound ℕ → Type 0
IsSmall (Included n) = n < 2 ^ 64
IsSmall (Excluded n) = n < 2 ^ 64
IsSmall Unbounded = Unit {0}

-- the argument is a bound
abbrev pub IsBound : List ℕ → Type 0
IsBound word = (b : Bound ℕ) × IsSmall b × (word ≡ bound_text b)

-- the first word of the line
abbrev pub HasFirst : List ℕ → List ℕ → Type 0
HasFirst word line = (line ≡ word) ⊎ ((rest : List ℕ) × (line ≡ word ++ 32 ∷ rest))

-- a word, and behind one space a text, which may have spaces
pub record AreSplit (words one rest : List ℕ) : Type 0 where
  pub text : words ≡ one ++ 32 ∷ rest
  pub first : Lacks 32 one

-- two words with one space between them
pub record AreTwo (words one two : List ℕ) : Type 0 where
  pub text : words ≡ one ++ 32 ∷ two
  pub first : Lacks 32 one
  pub second : Lacks 32 two

-- three words with one space between each and the next
pub record AreThree (words one two three : List ℕ) : Type 0 where
  pub text : words ≡ one ++ 32 ∷ (two ++ 32 ∷ three)
  pub first : Lacks 32 one
  pub second : Lacks 32 two
  pub third : Lacks 32 three

-- what a line may begin with
pub data Command : Type 0 where
  Insert : Command
  Upsert : Command
  Remove : Command
  Delete : Command
  Clear : Command
  Discard : Command
  Commit : Command
  Open : Command
  Close : Command
  Get : Command
  Has : Command
  Range : Command
  Near : Command
  Audit : Command
  Len : Command
  Number : Command
  Reclaim : Command
  Slots : Command
  Checkpoint : Command

-- its first word
abbrev pub name_of : Command → List ℕ
name_of Insert = codes "insert"
name_of Upsert = codes "upsert"
name_of Remove = codes "remove"
name_of Delete = codes "delete"
name_of Clear = codes "clear"
name_of Discard = codes "discard"
name_of Commit = codes "commit"
name_of Open = codes "open"
name_of Close = codes "close"
name_of Get = codes "get"
name_of Has = codes "has"
name_of Range = codes "range"
name_of Near = codes "near"
name_of Audit = codes "audit"
name_of Len = codes "len"
name_of Number = codes "number"
name_of Reclaim = codes "reclaim"
name_of Slots = codes "slots"
name_of Checkpoint = codes "checkpoint"

-- what belongs behind the first word: nothing, a number, a number or `-`, two numbers, a number and a value, two bounds,
-- a number and two bounds
pub data Form : Type 0 where
  Alone : Form
  WithNumber : Form
  WithReads : Form
  WithTwo : Form
  WithValue : Form
  WithBounds : Form
  WithRange : Form

abbrev pub form_of : Command → Form
form_of Insert = WithValue
form_of Upsert = WithValue
form_of Remove = WithNumber
form_of Delete = WithBounds
form_of Clear = Alone
form_of Discard = Alone
form_of Commit = WithReads
form_of Open = WithNumber
form_of Close = WithNumber
form_of Get = WithTwo
form_of Has = WithTwo
form_of Range = WithRange
form_of Near = WithTwo
form_of Audit = WithNumber
form_of Len = WithNumber
form_of Number = WithNumber
form_of Reclaim = Alone
form_of Slots = Alone
form_of Checkpoint = WithNumber

-- what follows the first word and a space has as many words as belong there
abbrev pub FitsForm : Form → List ℕ → Type 0
FitsForm Alone rest = ⊥
FitsForm WithNumber rest = Lacks 32 rest
FitsForm WithReads rest = Lacks 32 rest
FitsForm WithTwo rest = (one two : List ℕ) × AreTwo rest one two
FitsForm WithValue rest = (one value : List ℕ) × AreSplit rest one value
FitsForm WithBounds rest = (one two : List ℕ) × AreTwo rest one two
FitsForm WithRange rest = (one two three : List ℕ) × AreThree rest one two three

-- it has them, but one that is to be a number isn't
abbrev pub HasNoNumber : Form → List ℕ → Type 0
HasNoNumber WithNumber rest = Lacks 32 rest × (IsNumber rest → ⊥)
HasNoNumber WithReads rest = Lacks 32 rest × (rest ≢ codes "-") × (IsNumber rest → ⊥)
HasNoNumber WithTwo rest = (one two : List ℕ) × AreTwo rest one two × (IsNumber one × IsNumber two → ⊥)
HasNoNumber WithValue rest = (one value : List ℕ) × AreSplit rest one value × (IsNumber one → ⊥)
HasNoNumber WithRange rest = (one two three : List ℕ) × AreThree rest one two three × (IsNumber one → ⊥)
HasNoNumber form rest = ⊥

-- it has them, and each number before is one, but one that is to be a bound isn't
abbrev pub HasNoBound : Form → List ℕ → Type 0
HasNoBound WithBounds rest = (one two : List ℕ) × AreTwo rest one two × (IsBound one × IsBound two → ⊥)
HasNoBound WithRange rest = (one two three : List ℕ) × AreThree rest one two three × IsNumber one × (IsBound two × IsBound three → ⊥)
HasNoBound form rest = ⊥

-- the line has as many words as belong to its first
abbrev pub HasWords : Form → List ℕ → List ℕ → Type 0
HasWords Alone word line = line ≡ word
HasWords form word line = (rest : List ℕ) × (line ≡ word ++ 32 ∷ rest) × FitsForm form rest

-- no command begins with the first word of the line
abbrev pub MissesCommand : List ℕ → Type 0
MissesCommand line = (command : Command) → HasFirst (name_of command) line → ⊥

-- the line is known by its first word, but hasn't the words that belong to it
abbrev pub MissesWords : List ℕ → Type 0
MissesWords line = (command : Command) × HasFirst (name_of command) line × (HasWords (form_of command) (name_of command) line → ⊥)

-- the line has its words, but one that is to be a number isn't
abbrev pub MissesNumber : List ℕ → Type 0
MissesNumber line = (command : Command) × (rest : List ℕ) × (line ≡ name_of command ++ 32 ∷ rest) × HasNoNumber (form_of command) rest

-- the line has its words, but one that is to be a bound isn't
abbrev pub MissesBound : List ℕ → Type 0
MissesBound line = (command : Command) × (rest : List ℕ) × (line ≡ name_of command ++ 32 ∷ rest) × HasNoBound (form_of command) rest

-- why what follows the first word isn't what belongs there
abbrev pub IsUnfit : Form → List ℕ → Fault → Type 0
IsUnfit form rest faults.Words = FitsForm form rest → ⊥
IsUnfit form rest faults.Number = HasNoNumber form rest
IsUnfit form rest faults.Bound = HasNoBound form rest
IsUnfit form rest fault = ⊥

-- a text asks for this
abbrev pub Asks : List ℕ → Request → Type 0
Asks line (requests.Insert key value) = (key < 2 ^ 64) × (line ≡ codes "insert " ++ decimal key ++ 32 ∷ value)
Asks line (requests.Upsert key value) = (key < 2 ^ 64) × (line ≡ codes "upsert " ++ decimal key ++ 32 ∷ value)
Asks line (requests.Remove key) = (key < 2 ^ 64) × (line ≡ codes "remove " ++ decimal key)
Asks line (requests.Delete lower upper) = IsSmall lower × IsSmall upper × (line ≡ codes "delete " ++ bound_text lower ++ 32 ∷ bound_text upper)
Asks line requests.Discard = line ≡ codes "discard"
Asks line requests.Clear = line ≡ codes "clear"
Asks line (requests.Commit None) = line ≡ codes "commit -"
Asks line (requests.Commit (Some label)) = (label < 2 ^ 64) × (line ≡ codes "commit " ++ decimal label)
Asks line (requests.Open label) = (label < 2 ^ 64) × (line ≡ codes "open " ++ decimal label)
Asks line (requests.Get label key) = (label < 2 ^ 64) × (key < 2 ^ 64) × (line ≡ codes "get " ++ decimal label ++ 32 ∷ decimal key)
Asks line (requests.Has label key) = (label < 2 ^ 64) × (key < 2 ^ 64) × (line ≡ codes "has " ++ decimal label ++ 32 ∷ decimal key)
Asks line (requests.Range label lower upper) =
    (label < 2 ^ 64) × IsSmall lower × IsSmall upper × (line ≡ codes "range " ++ decimal label ++ 32 ∷ bound_text lower ++ 32 ∷ bound_text upper)
Asks line (requests.Near label key) = (label < 2 ^ 64) × (key < 2 ^ 64) × (line ≡ codes "near " ++ decimal label ++ 32 ∷ decimal key)
Asks line (requests.Audit label) = (label < 2 ^ 64) × (line ≡ codes "audit " ++ decimal label)
Asks line (requests.Close label) = (label < 2 ^ 64) × (line ≡ codes "close " ++ decimal label)
Asks line (requests.Len label) = (label < 2 ^ 64) × (line ≡ codes "len " ++ decimal label)
Asks line (requests.Number label) = (label < 2 ^ 64) × (line ≡ codes "number " ++ decimal label)
Asks line requests.Reclaim = line ≡ codes "reclaim"
Asks line requests.Slots = line ≡ codes "slots"
Asks line (requests.Checkpoint upto) = (upto < 2 ^ 64) × (line ≡ codes "checkpoint " ++ decimal upto)
Asks line (requests.Faulty faults.Command) = MissesCommand line
Asks line (requests.Faulty faults.Words) = MissesWords line
Asks line (requests.Faulty faults.Number) = MissesNumber line
Asks line (requests.Faulty faults.Bound) = MissesBound line
Asks line (requests.Faulty fault) = ⊥

-- a line asks for this: too long and not a text come before all else
abbrev pub LineAsksFor : List ℕ → Request → Type 0
LineAsksFor line (requests.Faulty faults.Long) = 65536 < length line
LineAsksFor line (requests.Faulty faults.Text) = (length line ≤ 65536) × (IsUtf8 line → ⊥)
LineAsksFor line request = (length line ≤ 65536) × IsUtf8 line × Asks line request
