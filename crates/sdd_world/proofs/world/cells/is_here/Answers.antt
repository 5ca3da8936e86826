use Rattle.std.proofs.Common.{◌∙◌}
use Rattle.sdd_table.specs.State.{cell_at}
use Rattle.sdd_world.proofs.KindLemmas.{kind_is}
use Rattle.sdd_world.proofs.world.cells.is_here.Goals as goal

-- a cell in use is of its kind
pub returns-then-number-cells-clause-gone : goal.returns-then-number-cells-clause-gone
returns-then-number-cells-clause-gone g c = λ other used.
    let s = kind_is g.C.OwningCell.kind c.args.w.now (g.C.OwningCell.number c.args.cell.now) used in
    c.is_of.ensures.no other s.0 s.1 (c.cell.ensures ∙ (λ j. cell_at (c.w.view_is j) (c.number_of-number.ensures j)) ∙ s.2)
