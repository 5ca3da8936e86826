use Rattle.std.proofs.Common.{refl, arith}
use Rattle.sdd_table.specs.State.{emptiness}
use Rattle.sdd_table.specs.declared.status.Cell.TheVariants as cell
use Rattle.sdd_table.proofs.ListLemmas.{lists_push}
use Rattle.sdd_table.proofs.SlotLemmas.{cell_invariant, cell_in, emptiness_in, stack_room, emptiness-one}
use Rattle.sdd_table.proofs.table.Table.free_cell.Goals as goal

pub keep_name-requires : goal.keep_name-requires
keep_name-requires g c =
    let a = c.self.inside in
    let w = c.args.self.now in
    stack_room emptiness emptiness-one a.cells.items c.args.c cell.Free a.free_cells c.self.invariant.cells (cell_in a w c.args.c c.self.view_is c.requires.inside) (emptiness_in a w c.args.c _ c.self.view_is c.requires.was_used)

pub invariant_of-self : goal.invariant_of-self
invariant_of-self g c =
    let a = c.self.inside in
    let w = c.args.self.now in
    let was = emptiness_in a w c.args.c _ c.self.view_is c.requires.was_used in
    cell_invariant a c.args.c cell.Free c.keep_name.new.stack c.self.invariant (lists_push emptiness a.cells.items c.args.c cell.Free cell.Free a.free_cells.items c.keep_name.new.stack.items c.keep_name.ensures.items (cell_in a w c.args.c c.self.view_is c.requires.inside) was refl c.self.invariant.cells.lists) (omega (arith, c.self.invariant.cells.room, c.keep_name.ensures.room))
