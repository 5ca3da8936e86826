-- what cells show to clauses
use Rattle.std.specs.Prelude.{ℕ}
use Rattle.sdd_domain.specs.declared.atomic_shared.AtomicShared.{AtomicShared}

-- its number, among the cells of its place
abbrev pub cell_number : {T : Type 0} → AtomicShared T → ℕ
cell_number c = c.cell
