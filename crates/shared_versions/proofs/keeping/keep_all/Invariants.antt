use Rattle.std.proofs.Common.{◌≡◌, ◌+◌, ◌≤◌, ◌++◌, length, map, reverse}
use Rattle.std.specs.List.{All, AllPairs}
use Rattle.std.specs.Prelude.{vec_capacity}
use Rattle.sdd_domain.specs.Tokens.{place_of}
use Rattle.shared_versions.specs.Placing.{AreApart, IsKeptRow, IsSameIn, IsToKeep, blocks_kept, blocks_to_keep, moved_from}
use Rattle.shared_versions.proofs.keeping.keep_all.Given as goal

-- the first owners are kept; those of the others are still where they were
abbrev pub invariant-moving : goal.invariant-moving
invariant-moving g l = record {
  blocks : reverse (map (blocks_to_keep (map blocks_kept l.fn.kept.items)) l.fn.to_keep.items) ≡ map blocks_kept l.kept.items ++ reverse (map (blocks_to_keep (map blocks_kept l.fn.kept.items)) l.to_keep.items);
  to_keep : All (IsToKeep (place_of l.fn.domain).0 (length l.fn.kept.items)) l.to_keep.items;
  there : All (IsSameIn l.fn.kept.items l.older.items) l.to_keep.items;
  apart : AllPairs AreApart (reverse (map moved_from l.to_keep.items));
  kept : All (IsKeptRow (place_of l.fn.domain).0) l.kept.items;
  left : All (IsKeptRow (place_of l.fn.domain).0) l.older.items;
  places : length l.older.items ≡ length l.fn.kept.items;
  room : length l.to_keep.items + length l.kept.items ≤ vec_capacity l.kept;
}

abbrev pub decreases-moving : goal.decreases-moving
decreases-moving g l = length l.to_keep.items
