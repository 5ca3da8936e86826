use Rattle.std.proofs.Common.{◌≤◌, ◌-◌}
use Rattle.version_drafts.proofs.shelving.row_limit.Given as goal

abbrev pub invariant-loop-size : goal.invariant-loop-size
invariant-loop-size l = l.size ≤ 480

abbrev pub decreases-loop-size : goal.decreases-loop-size
decreases-loop-size l = 480 - l.size
