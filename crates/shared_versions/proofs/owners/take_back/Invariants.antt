use Rattle.std.proofs.Common.{◌≡◌, length}
use Rattle.sdd_domain.specs.CellSteps.{StepsOnNoCell}
use Rattle.sdd_domain.specs.Tokens.{hand_of}
use Rattle.shared_versions.specs.Placing.{IsStill}
use Rattle.shared_versions.proofs.owners.take_back.Given as goal

-- what the item still holds is in hand, and the participant is the same
abbrev pub invariant-releasing : goal.invariant-releasing
invariant-releasing g l = record { hand : hand_of l.local ≡ g.T.Holds.holds l.item; same : IsStill l.fn.local l.local; cells : StepsOnNoCell l.fn.local l.local }

abbrev pub decreases-releasing : goal.decreases-releasing
decreases-releasing g l = length (g.T.Holds.holds l.item)
