use Rattle.std.proofs.Common.{◌≡◌, ◌<◌}
use Rattle.std.specs.List.{All}
use Rattle.std.specs.Prelude.{vec_len, vec_capacity}
use Rattle.sdd_domain.specs.Cells.{cell_number}
use Rattle.sdd_domain.specs.Tokens.{cell_count}
use Rattle.shared_lists.specs.Lists.{IsAsBefore}
use Rattle.shared_lists.proofs.links.Row.new.Given as goal

abbrev pub invariant-loop-i : goal.invariant-loop-i
invariant-loop-i g l = record {
  inside : All (λ c. cell_number c < cell_count l.domain) l.cells.items;
  room : vec_capacity l.cells ≡ l.count;
  filled : vec_len l.cells ≡ l._i;
  same : IsAsBefore l.fn.local l.local;
}
