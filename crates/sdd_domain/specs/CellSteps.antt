-- what calls say of a participant's steps on cells
use Rattle.std.specs.Prelude.{◌≡◌, ◌⊎◌, ◌≤◌, ℕ, ◌++◌, ◌∷◌, [], List, All, length}
use Rattle.domain_table.specs.Layout.{cell_word}
pub use Rattle.domain_table.specs.Layout.{packed, NamesWith}
pub use Rattle.domain_table.specs.declared.board.CellStep.{CellStep}
use Rattle.sdd_domain.specs.Tokens.{home_of}
use Rattle.sdd_domain.specs.declared.local.Local.{Local}

-- its steps on cells, in their order
abbrev pub cell_steps_of : {T : Type 0} → Local T → List CellStep
cell_steps_of l = l.seat.me.0.cell_steps

-- it made no step on a cell
abbrev pub StepsOnNoCell : {T : Type 0} → Local T → Local T → Type 0
StepsOnNoCell old new = cell_steps_of new ≡ cell_steps_of old

-- it made just these steps on cells
abbrev pub HasMade : {T : Type 0} → Local T → List CellStep → Local T → Type 0
HasMade old xs new = cell_steps_of new ≡ cell_steps_of old ++ xs

-- it made some steps on cells, maybe none
abbrev pub HasMadeSome : {T : Type 0} → Local T → Local T → Type 0
HasMadeSome old new = (xs : List CellStep) × HasMade old xs new

-- one of the steps that it made on cells was this one
abbrev pub HasMadeOne : {T : Type 0} → Local T → CellStep → Local T → Type 0
HasMadeOne old x new = (xs : List CellStep) × (ys : List CellStep) × HasMade old (xs ++ x ∷ ys) new

-- a step on this cell of its place, which found the one word and left the other
abbrev pub step_on : {T : Type 0} → Local T → ℕ → ℕ → ℕ → CellStep
step_on l cell w v = record { word = cell_word (home_of l).1 cell; found = w; left = v }

-- a step that read this cell of its place
abbrev pub IsReadOf : {T : Type 0} → Local T → ℕ → CellStep → Type 0
IsReadOf l cell x = x ≡ step_on l cell x.found x.found

-- it made one step, which read this cell: it had this tag and named what this code says
abbrev pub HasReadCell : {T : Type 0} → Local T → ℕ → ℕ → ℕ → Local T → Type 0
HasReadCell old cell t k new = (w : ℕ) × NamesWith w t k × HasMade old (step_on old cell w w ∷ []) new

-- it made one step, on this cell, which left this tag and this code where it found this word
abbrev pub HasStored : {T : Type 0} → Local T → ℕ → ℕ → ℕ → ℕ → Local T → Type 0
HasStored old cell w t k new = (v : ℕ) × NamesWith v t k × HasMade old (step_on old cell w v ∷ []) new

-- and that word had that tag and named what that code says
abbrev pub HasExchanged : {T : Type 0} → Local T → ℕ → ℕ → ℕ → ℕ → ℕ → Local T → Type 0
HasExchanged old cell t k t' k' new = (w : ℕ) × NamesWith w t k × HasStored old cell w t' k' new

-- it made no step on a cell, or one, by which a cell owned nothing from then on
abbrev pub HasEmptiedAtMost : {T : Type 0} → Local T → Local T → Type 0
HasEmptiedAtMost old new = StepsOnNoCell old new ⊎ ((cell : ℕ) × (t : ℕ) × (k : ℕ) × HasExchanged old cell t k 0 0 new)

-- it read this cell some times, and did nothing else to cells
abbrev pub HasOnlyRead : {T : Type 0} → Local T → ℕ → Local T → Type 0
HasOnlyRead old cell new = (xs : List CellStep) × All (IsReadOf old cell) xs × HasMade old xs new

-- it read this cell some times, and did nothing else to cells: the last time it had this tag and named what this code says
abbrev pub HasFoundLast : {T : Type 0} → Local T → ℕ → ℕ → ℕ → Local T → Type 0
HasFoundLast old cell t k new = (xs : List CellStep) × (w : ℕ) × All (IsReadOf old cell) xs × NamesWith w t k × HasMade old (xs ++ step_on old cell w w ∷ []) new

-- it read this cell at least this many times, and did nothing else to cells
abbrev pub HasReadOften : {T : Type 0} → Local T → ℕ → ℕ → Local T → Type 0
HasReadOften old cell n new = (xs : List CellStep) × All (IsReadOf old cell) xs × (n ≤ length xs) × HasMade old xs new

-- it read this cell some times, and then left this tag in it where it found that tag and code
abbrev pub HasRetagged : {T : Type 0} → Local T → ℕ → ℕ → ℕ → ℕ → Local T → Type 0
HasRetagged old cell t k u new = (xs : List CellStep) × (w : ℕ) × (v : ℕ) × All (IsReadOf old cell) xs × NamesWith w t k × NamesWith v u k × HasMade old (xs ++ step_on old cell w v ∷ []) new

-- it read the one cell, and then left in the other what that named, without a tag, or did nothing to it
abbrev pub HasCopied : {T : Type 0} → Local T → ℕ → ℕ → Local T → Type 0
HasCopied old from to new = (w : ℕ) × (t : ℕ) × (k : ℕ) × NamesWith w t k × (HasMade old (step_on old from w w ∷ []) new ⊎ ((v : ℕ) × (u : ℕ) × NamesWith u 0 k × HasMade old (step_on old from w w ∷ step_on old to v u ∷ []) new))
