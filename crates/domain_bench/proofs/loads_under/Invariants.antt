use Rattle.std.proofs.Common.{◌≡◌}
use Rattle.sdd_domain.specs.Tokens.{own_of, IsInNest}
use Rattle.domain_bench.proofs.loads_under.Given as goal

abbrev pub invariant-loop-i : goal.invariant-loop-i
invariant-loop-i l = IsInNest l.initial.local l.local × ((own_of l.local).nesting ≡ (own_of l.initial.local).nesting)
