use Rattle.std.proofs.Common.{◌<◌}
use Rattle.sdd_domain.specs.Cells.{cell_number}
use Rattle.sdd_domain.specs.Tokens.{cell_count}
use Rattle.shared_containers.specs.Containers.{IsAsBefore}
use Rattle.shared_containers.proofs.stack.Stack.copy_under.Given as goal

abbrev pub invariant-loop-i : goal.invariant-loop-i
invariant-loop-i g l = record { inside : cell_number l.end < cell_count l.domain; same : IsAsBefore l.fn.local l.local }
