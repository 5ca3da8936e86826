use Rattle.std.proofs.Common.{subst, ◌≡◌, ◌<◌, length}
use Rattle.sdd_table.specs.State.{State, cell_at, emptiness}
use Rattle.sdd_table.specs.declared.status.Cell.TheVariants as cell
use Rattle.sdd_table.proofs.ListLemmas.{lists_some}
use Rattle.sdd_table.proofs.SlotLemmas.{empty-is, some_left}
use Rattle.sdd_table.proofs.table.Table.has_no_cell.Goals as goal

pub returns-clause-free : goal.returns-clause-free
returns-clause-free g c = λ no.
    let r = lists_some emptiness c.self.inside.cells.items cell.Free c.self.inside.free_cells.items c.self.invariant.cells.lists (some_left c.self.inside.free_cells c.is_empty.result c.is_empty.ensures no) in
    (r.0, subst (λ (w : State _). (r.0 < length w.cells) × (cell_at w r.0 ≡ cell.Free)) c.self.view_is (r.1, empty-is _ r.2))
