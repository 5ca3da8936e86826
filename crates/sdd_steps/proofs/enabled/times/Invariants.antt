use Rattle.std.proofs.Common.{◌≡◌, drop, ◌+◌, ◌≤◌}
use Rattle.sdd_steps.specs.State.{times}
use Rattle.sdd_steps.proofs.enabled.times.Given as goal

abbrev pub invariant-loop-j : goal.invariant-loop-j
invariant-loop-j l = record {
  all : l.count + times l.i (drop l.j-index l.numbers) ≡ times l.i l.numbers;
  fits : l.count ≤ l.j-index;
}
