use Rattle.std.proofs.Common.{◌≡◌, ◌++◌, take}
use Rattle.serial_history.specs.Parts.{turned}
use Rattle.serial_history.specs.RemainingPairs.{IsAlone, remaining_of}
use Rattle.serial_history.proofs.scan.gives.Given as goal

-- what was told so far was given, and the rest is yet to be given
abbrev pub invariant-loop-i : goal.invariant-loop-i
invariant-loop-i g l = record {
  alone : IsAlone l.part (g.C.PairCursor.cursor l.cursor);
  given : take l.i (turned l.part l.told) ++ remaining_of g.K.Ord.cmp l.part (g.C.PairCursor.cursor l.cursor) ≡ remaining_of g.K.Ord.cmp l.part (g.C.PairCursor.cursor l.fn.cursor);
}
