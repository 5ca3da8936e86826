use Rattle.std.proofs.Common.{◌≡◌, length}
use Rattle.shared_versions.specs.Nodes.{holds_in}
use Rattle.shared_versions.proofs.node.last_of.Given as goal

-- the owners are still there
abbrev pub invariant-popping : goal.invariant-popping
invariant-popping g l = holds_in l.rows.items ≡ holds_in l.fn.rows.items

abbrev pub decreases-popping : goal.decreases-popping
decreases-popping g l = length l.rows.items
