use Rattle.world_containers.proofs.Names.{ℕ, ◌<◌, ◌≤◌, not, IsNull, cell_of}
use Rattle.world_containers.proofs.world.row.find.Given as goal

abbrev pub invariant-loop-at : goal.invariant-loop-at
invariant-loop-at g l = record {
  passed : (k : ℕ) → l.from ≤ k → k < l.at → IsNull l.w (cell_of l.cells.items k) (not l.null);
}
