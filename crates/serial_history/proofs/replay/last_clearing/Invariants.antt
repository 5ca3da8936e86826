use Rattle.std.proofs.Common.{◌≤◌, length}
use Rattle.serial_history.proofs.replay.last_clearing.Given as goal

abbrev pub invariant-loop-left : goal.invariant-loop-left
invariant-loop-left g l = l.left ≤ length l.history

abbrev pub decreases-loop-left : goal.decreases-loop-left
decreases-loop-left g l = l.left
