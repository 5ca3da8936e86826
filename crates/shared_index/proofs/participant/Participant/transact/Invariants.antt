use Rattle.std.specs.Prelude.{◌≡◌}
use Rattle.shared_index.proofs.participant.Participant.transact.Given as goal

abbrev pub invariant-loop-retry : goal.invariant-loop-retry
invariant-loop-retry g l = (l.share ≡ l.fn.share) × goal.F-IsAlwaysCallable g l.plan
