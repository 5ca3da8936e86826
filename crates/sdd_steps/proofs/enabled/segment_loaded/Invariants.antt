use Rattle.std.proofs.Common.{◌≡◌, drop}
use Rattle.sdd_steps.specs.Steps.{segment_loaded}
use Rattle.sdd_steps.proofs.enabled.segment_loaded.Given as goal

abbrev pub invariant-loop-h : goal.invariant-loop-h
invariant-loop-h l = segment_loaded l.i l.k (drop l.h-index l.loaded) ≡ segment_loaded l.i l.k l.loaded
