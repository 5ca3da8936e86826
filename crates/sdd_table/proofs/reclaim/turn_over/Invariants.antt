use Rattle.std.proofs.Common.{length}
use Rattle.sdd_table.specs.State.{participant_at}
use Rattle.sdd_table.proofs.RotationLemmas.{Turning}
use Rattle.sdd_table.proofs.reclaim.turn_over.Given as goal

abbrev pub invariant-loop : goal.invariant-loop
invariant-loop g l = Turning (g.T.Holds.holds) l.p l.initial.table l.table

abbrev pub decreases-loop : goal.decreases-loop
decreases-loop g l = length (participant_at l.table l.p).due
