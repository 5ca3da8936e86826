use Rattle.shared_index.specs.SharedInvariant.{IsUnengaged}
use Rattle.shared_index_tests.proofs.calls.Desk.readings.Given as goal

abbrev pub invariant-loop-turn : goal.invariant-loop-turn
invariant-loop-turn g l = IsUnengaged g.L.Naming.place l.local
