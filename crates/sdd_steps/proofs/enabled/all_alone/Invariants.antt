use Rattle.std.proofs.Common.{◌≡◌, drop}
use Rattle.sdd_steps.specs.Steps.{all_alone}
use Rattle.sdd_steps.proofs.enabled.all_alone.Given as goal

abbrev pub invariant-loop-c : goal.invariant-loop-c
invariant-loop-c l = all_alone l.cells (drop l.c-index l.some) ≡ all_alone l.cells l.some
