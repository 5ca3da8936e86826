use Rattle.std.proofs.Common.{◌≤◌, ◌<◌, ◌-◌}
use Rattle.version_views.specs.Rows.{between}
use Rattle.version_drafts.specs.Shelves.{HasPlace, TakesMore}
use Rattle.version_drafts.proofs.shelving.put_stretch.Given as goal

-- the first segments are taken, and the row is that of the next one
abbrev pub invariant-loop-at : goal.invariant-loop-at
invariant-loop-at g l = record {
  begins : l.from ≤ l.at;
  within : l.at ≤ l.upto;
  taken : TakesMore l.old l.rows.ends.items (between l.from l.at l.old) 0 l.fn.out l.out;
  next : l.at < l.upto → HasPlace l.rows.ends.items l.row l.at;
}

abbrev pub decreases-loop-at : goal.decreases-loop-at
decreases-loop-at g l = l.upto - l.at
