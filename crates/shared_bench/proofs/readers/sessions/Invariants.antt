use Rattle.std.proofs.Common.{◌≡◌}
use Rattle.sdd_domain.specs.Tokens.{own_of, IsSame}
use Rattle.shared_bench.proofs.readers.sessions.Given as goal

abbrev pub invariant-loop-round : goal.invariant-loop-round
invariant-loop-round l = record { same : IsSame l.fn.local l.local; closed : (own_of l.local).nesting ≡ 0 }
