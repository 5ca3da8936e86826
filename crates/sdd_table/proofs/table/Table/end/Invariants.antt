use Rattle.std.proofs.Common.{◌≡◌, ℕ, get_or, None, is_some, false}
use Rattle.sdd_table.proofs.table.Table.end.Given as goal

abbrev pub invariant-loop-value : goal.invariant-loop-value
invariant-loop-value g l = (k : ℕ) → is_some (get_or l.values.items k None) ≡ false

abbrev pub decreases-loop-value : goal.decreases-loop-value
decreases-loop-value g l = goal.left-loop-value g l
