use Rattle.std.proofs.Common.{◌≡◌}
use Rattle.sdd_domain.specs.Tokens.{own_of}
use Rattle.domain_tests.proofs.play.apart.Given as goal

abbrev pub invariant-loop-row : goal.invariant-loop-row
invariant-loop-row l = (own_of l.stage.here).nesting ≡ 0
