use Rattle.std.proofs.Common.{◌≡◌, length}
use Rattle.std.specs.List.{All}
use Rattle.sdd_domain.specs.CellSteps.{StepsOnNoCell}
use Rattle.sdd_domain.specs.Tokens.{place_of, hand_of}
use Rattle.shared_versions.specs.Placing.{IsNewIn, IsStill}
use Rattle.shared_versions.proofs.keeping.release_new.Given as goal

-- the owners that are left are of the place, and the participant is the same
abbrev pub invariant-releasing : goal.invariant-releasing
invariant-releasing g l = record {
  to_keep : All (IsNewIn (place_of l.fn.domain).0) l.to_keep.items;
  hand : hand_of l.local ≡ hand_of l.fn.local;
  same : IsStill l.fn.local l.local;
  cells : StepsOnNoCell l.fn.local l.local;
}

abbrev pub decreases-releasing : goal.decreases-releasing
decreases-releasing g l = length l.to_keep.items
