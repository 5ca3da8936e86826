use Rattle.std.proofs.Common.{◌≡◌, ◌++◌, false, length}
use Rattle.serial_history.specs.Parts.{is_over}
use Rattle.serial_history.specs.RemainingPairs.{IsAlone, remaining_of}
use Rattle.serial_history.proofs.scan.given.Given as goal

-- what was given so far is copied, and no more than the part may have; the rest is yet to be given
abbrev pub invariant-copying : goal.invariant-copying
invariant-copying g l = record {
  alone : IsAlone l.part (g.C.PairCursor.cursor l.cursor);
  given : l.copy.items ++ remaining_of g.K.Ord.cmp l.part (g.C.PairCursor.cursor l.cursor) ≡ remaining_of g.K.Ord.cmp l.part (g.C.PairCursor.cursor l.fn.cursor);
  few : is_over l.part (length l.copy.items) ≡ false;
}

abbrev pub decreases-copying : goal.decreases-copying
decreases-copying g l = length (remaining_of g.K.Ord.cmp l.part (g.C.PairCursor.cursor l.cursor))
