use Rattle.std.proofs.Common.{sym, ◌∙◌}
use Rattle.sdd_table.specs.State.{emptiness}
use Rattle.sdd_table.specs.declared.status.Cell.TheVariants as cell
use Rattle.sdd_table.proofs.ListLemmas.{lists_same}
use Rattle.sdd_table.proofs.SlotLemmas.{cell_invariant, cell_in, emptiness_in}
use Rattle.sdd_table.proofs.table.Table.set_cell.Goals as goal

pub invariant_of-self : goal.invariant_of-self
invariant_of-self g c =
    let a = c.self.inside in
    let w = c.args.self.now in
    let was = emptiness_in a w c.args.c _ c.self.view_is c.requires.was_used in
    cell_invariant a c.args.c c.args.cell a.free_cells c.self.invariant (lists_same emptiness a.cells.items c.args.c c.args.cell cell.Free a.free_cells.items (cell_in a w c.args.c c.self.view_is c.requires.inside) (c.requires.used ∙ sym was) c.self.invariant.cells.lists) c.self.invariant.cells.room
