use Rattle.std.proofs.Common.{◌≡◌, ℕ, [], get_or, map}
use Rattle.sdd_table.specs.Groups.{no_group}
use Rattle.sdd_table.specs.Arena.{group_of}
use Rattle.sdd_table.proofs.groups.Groups.end.Given as goal

-- no entry that is left has a row
abbrev pub invariant-loop-row : goal.invariant-loop-row
invariant-loop-row l = (k : ℕ) → (get_or (map (λ e. group_of e) l.entries.items) k no_group).row ≡ []

abbrev pub decreases-loop-row : goal.decreases-loop-row
decreases-loop-row l = goal.left-loop-row l
