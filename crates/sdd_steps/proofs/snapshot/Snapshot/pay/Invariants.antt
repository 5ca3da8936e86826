use Rattle.std.proofs.Common.{◌≡◌, drop}
use Rattle.sdd_steps.specs.Steps.{paid}
use Rattle.sdd_steps.specs.Snapshots.{snapshot_state}
use Rattle.sdd_steps.proofs.snapshot.Snapshot.pay.Given as goal

abbrev pub invariant-loop-k : goal.invariant-loop-k
invariant-loop-k l = record (snapshot_state l.self) { items = paid (drop l.k-index l.holds) (snapshot_state l.self).items } ≡ record (snapshot_state l.fn.self) { items = paid l.holds (snapshot_state l.fn.self).items }
