use Rattle.std.proofs.Common.{◌≡◌}
use Rattle.sdd_domain.specs.CellSteps.{StepsOnNoCell}
use Rattle.sdd_domain.specs.Tokens.{IsSame, own_of}
use Rattle.shared_versions.proofs.reclaiming.reclaim.Given as goal

abbrev pub invariant-loop-turn : goal.invariant-loop-turn
invariant-loop-turn g l = record { closed : (own_of l.local).nesting ≡ 0; same : IsSame l.fn.local l.local; cells : StepsOnNoCell l.fn.local l.local }
