use Rattle.std.proofs.Common.{◌≤◌, ◌-◌, ℕ, List}
use Rattle.version_views.specs.Rows.{between}
use Rattle.version_drafts.specs.Shelves.{IsShelving, LiesInRow, TakesMore}
use Rattle.version_drafts.proofs.shelving.put_pieces.Given as goal

-- the first pieces are taken
abbrev pub invariant-loop-at : goal.invariant-loop-at
invariant-loop-at g l = record {
  begins : l.from ≤ l.at;
  within : l.at ≤ l.upto;
  taken : (ends : List ℕ) → LiesInRow ends l.from l.upto → IsShelving l.old ends l.fn.out → TakesMore l.old ends (between l.from l.at l.old) 0 l.fn.out l.out;
}

abbrev pub decreases-loop-at : goal.decreases-loop-at
decreases-loop-at g l = l.upto - l.at
