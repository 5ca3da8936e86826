use Rattle.std.proofs.Common.{◌≡◌, drop}
use Rattle.sdd_steps.specs.State.{has}
use Rattle.sdd_steps.proofs.enabled.has.Given as goal

abbrev pub invariant-loop-j : goal.invariant-loop-j
invariant-loop-j l = has l.i (drop l.j-index l.numbers) ≡ has l.i l.numbers
