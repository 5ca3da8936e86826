use Rattle.std.proofs.Common.{◌≤◌, take}
use Rattle.leaf_array.specs.Pairs.{IsAscending}
use Rattle.version_drafts.proofs.listed.rising_until.Given as goal

-- the keys before this place rise
abbrev pub invariant-loop-at : goal.invariant-loop-at
invariant-loop-at g l = record {
  rising : IsAscending g.K.Ord.cmp (take l.at l.pairs);
  some : 1 ≤ l.at;
}
