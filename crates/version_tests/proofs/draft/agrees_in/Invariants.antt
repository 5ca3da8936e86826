use Rattle.std.proofs.Common.{◌≤◌}
use Rattle.version_tests.proofs.draft.agrees_in.Given as goal

-- each round makes one version
abbrev pub invariant-loop : goal.invariant-loop
invariant-loop g l = l.store.present.number ≤ l.counter
