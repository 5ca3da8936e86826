use Rattle.std.specs.List.{AllWithin}
use Rattle.serial_history.specs.Serial.{Holds}
use Rattle.serial_history.proofs.ordered_view.first_conflict.Given as goal

-- the reads so far hold
abbrev pub invariant-loop-i : goal.invariant-loop-i
invariant-loop-i g l = AllWithin (Holds g.K.Ord.cmp (g.L.OrderedView.pairs l.list)) l.reads 0 l.i
