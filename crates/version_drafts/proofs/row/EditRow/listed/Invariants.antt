use Rattle.std.proofs.Common.{◌≡◌, ◌++◌, length}
use Rattle.version_drafts.proofs.row.EditRow.listed.Given as goal

-- those that are listed, and those that are left
abbrev pub invariant-loop-key : goal.invariant-loop-key
invariant-loop-key g l = l.noted.items ++ l.left ≡ l.tree.pairs

abbrev pub decreases-loop-key : goal.decreases-loop-key
decreases-loop-key g l = length l.left
