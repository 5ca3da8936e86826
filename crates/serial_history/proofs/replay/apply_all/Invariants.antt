use Rattle.std.proofs.Common.{◌≡◌, drop}
use Rattle.version_views.specs.Writes.{after_writes}
use Rattle.serial_history.proofs.replay.apply_all.Given as goal

-- the writes that are left lead to the list that all lead to
abbrev pub invariant-loop-write : goal.invariant-loop-write
invariant-loop-write g l = after_writes g.K.Ord.cmp (drop l.write-index l.writes) l.list.pairs ≡ after_writes g.K.Ord.cmp l.writes l.fn.list.pairs
