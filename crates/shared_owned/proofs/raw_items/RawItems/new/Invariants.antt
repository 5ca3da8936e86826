use Rattle.std.proofs.Common.{◌≡◌, ◌<◌}
use Rattle.std.specs.List.{All}
use Rattle.std.specs.Prelude.{vec_len, vec_capacity}
use Rattle.sdd_domain.specs.Cells.{cell_number}
use Rattle.sdd_domain.specs.Tokens.{cell_count, slot_count, own_of, IsInNestButMisses}
use Rattle.shared_owned.proofs.raw_items.RawItems.new.Given as goal

abbrev pub invariant-loop-i : goal.invariant-loop-i
invariant-loop-i g l = record {
  inside : All (λ c. cell_number c < cell_count l.domain) l.cells.items;
  room : vec_capacity l.cells ≡ slot_count l.domain;
  filled : vec_len l.cells ≡ l._i;
  same : IsInNestButMisses l.fn.local l.local;
  nesting : (own_of l.local).nesting ≡ (own_of l.fn.local).nesting;
}
