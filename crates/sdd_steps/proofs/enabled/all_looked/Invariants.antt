use Rattle.std.proofs.Common.{◌≡◌}
use Rattle.sdd_steps.specs.Steps.{all_looked}
use Rattle.sdd_steps.proofs.enabled.all_looked.Given as goal

abbrev pub invariant-loop-left : goal.invariant-loop-left
invariant-loop-left l = all_looked l.p l.looked l.left ≡ all_looked l.p l.looked l.n

abbrev pub decreases-loop-left : goal.decreases-loop-left
decreases-loop-left l = l.left
