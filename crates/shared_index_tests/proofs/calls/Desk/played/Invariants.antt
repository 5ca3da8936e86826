use Rattle.shared_index.specs.SharedInvariant.{IsUnengaged}
use Rattle.shared_index_tests.proofs.calls.Desk.played.Given as goal

abbrev pub invariant-loop-at : goal.invariant-loop-at
invariant-loop-at g l = IsUnengaged g.L.Naming.place l.local
