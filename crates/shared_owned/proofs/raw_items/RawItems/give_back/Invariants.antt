use Rattle.std.proofs.Common.{◌≡◌, ◌<◌, length}
use Rattle.std.specs.List.{All}
use Rattle.sdd_domain.specs.Cells.{cell_number}
use Rattle.sdd_domain.specs.Tokens.{cell_count, own_of, IsInNest}
use Rattle.shared_owned.proofs.raw_items.RawItems.give_back.Given as goal

abbrev pub invariant-loop-cell : goal.invariant-loop-cell
invariant-loop-cell g l = record {
  inside : All (λ c. cell_number c < cell_count l.domain) l.cells.items;
  same : IsInNest l.fn.local l.local;
  nesting : (own_of l.local).nesting ≡ (own_of l.fn.local).nesting;
}

abbrev pub decreases-loop-cell : goal.decreases-loop-cell
decreases-loop-cell g l = length l.cells.items
