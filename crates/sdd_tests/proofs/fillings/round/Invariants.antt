use Rattle.std.proofs.Common.{◌<◌, length}
use Rattle.sdd_tests.specs.Lines.{IsSomeLine}
use Rattle.sdd_tests.proofs.fillings.round.Given as goal

abbrev pub invariant-loop-number : goal.invariant-loop-number
invariant-loop-number g l = record { participant : 0 < length l.w.participants; list : IsSomeLine l.w l.line }
