use Rattle.std.proofs.Common.{◌≡◌, ◌≤◌, replicate, vec_capacity}
use Rattle.sdd_table.specs.State.{emptiness}
use Rattle.sdd_table.specs.View.{Lists}
use Rattle.sdd_table.specs.declared.status.Cell.TheVariants as cell
use Rattle.sdd_table.proofs.table.free_cells.Given as goal

abbrev pub invariant-loop-i : goal.invariant-loop-i
invariant-loop-i l = record {
  cells : l.cells.items ≡ replicate l.i cell.Free;
  room : l.n ≤ vec_capacity l.free;
  free : Lists emptiness l.cells.items l.free.items;
}
