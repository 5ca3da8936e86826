use Rattle.std.proofs.Common.{◌<◌, length}
use Rattle.sdd_tests.specs.Lines.{IsSomeLine}
use Rattle.sdd_tests.proofs.lists.on_a_line.Given as goal

abbrev pub invariant-loop-call : goal.invariant-loop-call
invariant-loop-call g l = record { participant : 0 < length l.w.participants; list : IsSomeLine l.w l.line }
