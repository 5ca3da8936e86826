use Rattle.std.proofs.Common.{◌≡◌, ◌<◌, length, map, reverse}
use Rattle.sdd_table.specs.Steps.{released_each}
use Rattle.sdd_table.specs.Tokens.{kept_slot}
use Rattle.sdd_table.proofs.reclaim.give_row.Given as goal

-- what is left of the row makes of the place what all of it makes
abbrev pub invariant-loop-kept : goal.invariant-loop-kept
invariant-loop-kept g l = record {
  participant : l.p < length l.table.participants;
  rest : released_each l.p (reverse (map kept_slot l.row.items)) l.table ≡ released_each l.p (reverse (map kept_slot l.initial.row.items)) l.initial.table;
}

abbrev pub decreases-loop-kept : goal.decreases-loop-kept
decreases-loop-kept g l = goal.left-loop-kept g l
