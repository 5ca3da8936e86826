use Rattle.std.proofs.Common.{◌≡◌, drop}
use Rattle.sdd_steps.specs.Steps.{was_loaded}
use Rattle.sdd_steps.proofs.enabled.was_loaded.Given as goal

abbrev pub invariant-loop-h : goal.invariant-loop-h
invariant-loop-h l = was_loaded l.i (drop l.h-index l.loaded) ≡ was_loaded l.i l.loaded
