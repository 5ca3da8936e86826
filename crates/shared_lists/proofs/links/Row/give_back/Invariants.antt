use Rattle.std.proofs.Common.{◌<◌, length}
use Rattle.std.specs.List.{All}
use Rattle.sdd_domain.specs.Cells.{cell_number}
use Rattle.sdd_domain.specs.Tokens.{cell_count}
use Rattle.shared_lists.specs.Lists.{IsAsBefore}
use Rattle.shared_lists.proofs.links.Row.give_back.Given as goal

abbrev pub invariant-loop-cell : goal.invariant-loop-cell
invariant-loop-cell g l = record { inside : All (λ c. cell_number c < cell_count l.domain) l.cells.items; same : IsAsBefore l.fn.local l.local }

abbrev pub decreases-loop-cell : goal.decreases-loop-cell
decreases-loop-cell g l = length l.cells.items
