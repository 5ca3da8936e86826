use Rattle.std.proofs.Common.{◌≢◌, ℕ, ◌<◌, slice_index_or}
use Rattle.domain_table.specs.declared.row.Row.{Row}
use Rattle.sdd_domain.proofs.local.seen_of.Given as goal

-- no row that was looked at is of the slot
abbrev pub invariant-loop-at : goal.invariant-loop-at
invariant-loop-at g l = record {
  others : (i : ℕ) (d : Row _) → i < l.at → (slice_index_or l.rows.items i d).slot ≢ l.slot;
}
