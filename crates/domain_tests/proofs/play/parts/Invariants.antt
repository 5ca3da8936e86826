use Rattle.std.proofs.Common.{◌≡◌}
use Rattle.sdd_domain.specs.Tokens.{own_of}
use Rattle.domain_tests.proofs.play.parts.Given as goal

abbrev pub invariant-loop-part : goal.invariant-loop-part
invariant-loop-part g l = (own_of l.stage.here).nesting ≡ 0
