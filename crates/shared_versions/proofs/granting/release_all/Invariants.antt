use Rattle.std.proofs.Common.{◌≡◌, length}
use Rattle.std.specs.List.{All}
use Rattle.sdd_domain.specs.CellSteps.{StepsOnNoCell}
use Rattle.sdd_domain.specs.Tokens.{place_of, hand_of}
use Rattle.shared_versions.specs.Placing.{IsGrantedIn, IsStill}
use Rattle.shared_versions.proofs.granting.release_all.Given as goal

-- the owners that are left are of the place, and the participant is the same
abbrev pub invariant-releasing : goal.invariant-releasing
invariant-releasing g l = record {
  owners : All (λ r. IsGrantedIn (place_of l.fn.domain).0 r.segments) l.granted.items;
  hand : hand_of l.local ≡ hand_of l.fn.local;
  same : IsStill l.fn.local l.local;
  cells : StepsOnNoCell l.fn.local l.local;
}

abbrev pub decreases-releasing : goal.decreases-releasing
decreases-releasing g l = length l.granted.items
