use Rattle.shared_index.specs.SharedInvariant.{IsUnengaged}
use Rattle.shared_index_tests.proofs.calls.Desk.read_often.Given as goal

abbrev pub invariant-loop-value : goal.invariant-loop-value
invariant-loop-value g l = IsUnengaged g.L.Naming.place l.local
