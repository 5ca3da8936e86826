-- where sessions are opened, and why none is
use Rattle.std.specs.Prelude.{◌≡◌, ℕ, ◌<◌, Option}
use Rattle.sdd_domain.specs.Cells.{cell_number}
use Rattle.shared_versions.specs.Readers.{HasWidth}
use Rattle.shared_versions.specs.Sight.{Sight}
use Rattle.shared_sessions.specs.Sessions.{number_in}
use Rattle.shared_sessions.specs.declared.opening.OpenRefused.{OpenRefused}
use Rattle.shared_sessions.specs.declared.opening.OpenRefused.TheVariants as causes
use Rattle.shared_sessions.specs.declared.root.Root.{Root}

-- the number of the cell that is lent, among those of its place
abbrev pub root_number : {T : Type 0} → Root T → ℕ
root_number r = cell_number r.cell.now

-- what was loaded is no version of this width; or it is one, and its number, which the refusal has, is below the one asked for
abbrev pub RefusedFor : {K V : Type 0} → ℕ → ℕ → Option (Sight K V) → OpenRefused → Type 0
RefusedFor s at_least version causes.Nested = ⊥
RefusedFor s at_least version (causes.Earlier number) = HasWidth s version × (number ≡ number_in version) × (number < at_least)
RefusedFor s at_least version causes.NoVersion = HasWidth s version → ⊥

-- a refusal as an earlier one has a number below this
abbrev pub IsBelow : ℕ → OpenRefused → Type 0
IsBelow at_least causes.Nested = Unit {0}
IsBelow at_least (causes.Earlier number) = number < at_least
IsBelow at_least causes.NoVersion = Unit {0}
