use Rattle.std.proofs.Common.{◌≡◌, drop}
use Rattle.sdd_steps.specs.Steps.{taken_up}
use Rattle.sdd_steps.specs.Snapshots.{snapshot_state}
use Rattle.sdd_steps.proofs.snapshot.Snapshot.take_up.Given as goal

abbrev pub invariant-loop-c : goal.invariant-loop-c
invariant-loop-c l = record (snapshot_state l.self) { cells = taken_up l.i (drop l.c-index l.cells) (snapshot_state l.self).cells } ≡ record (snapshot_state l.fn.self) { cells = taken_up l.i l.cells (snapshot_state l.fn.self).cells }
