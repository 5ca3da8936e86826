use Rattle.std.proofs.Common.{◌≡◌, ◌++◌, length}
use Rattle.tree_index.specs.declared.cursor.End.TheVariants.{Unopened}
use Rattle.serial_history.specs.RemainingPairs.{remaining_pairs}
use Rattle.serial_history.proofs.replay.gathered.Given as goal

-- what was given so far is in the list, and the rest is yet to be given
abbrev pub invariant-gathering : goal.invariant-gathering
invariant-gathering g l = record {
  alone : (g.C.PairCursor.cursor l.cursor).backward ≡ Unopened;
  given : l.list.pairs ++ remaining_pairs g.K.Ord.cmp (g.C.PairCursor.cursor l.cursor) ≡ (g.C.PairCursor.cursor l.fn.cursor).pairs;
}

abbrev pub decreases-gathering : goal.decreases-gathering
decreases-gathering g l = length (remaining_pairs g.K.Ord.cmp (g.C.PairCursor.cursor l.cursor))
