use Rattle.std.proofs.Common.{◌≡◌, drop}
use Rattle.serial_history.specs.Serial.{after_all}
use Rattle.serial_history.proofs.replay.apply_history.Given as goal

-- the transactions that are left lead to the list that all lead to
abbrev pub invariant-loop-transaction : goal.invariant-loop-transaction
invariant-loop-transaction g l = after_all g.K.Ord.cmp (drop l.transaction-index l.history) l.list.pairs ≡ after_all g.K.Ord.cmp l.history l.fn.list.pairs
