use Rattle.std.proofs.Common.{◌≡◌, ◌≤◌, ◌-◌, ◌++◌, take, drop}
use Rattle.leaf_slots.specs.Places.{no_places}
use Rattle.leaf_slots.proofs.CutLemmas.{lower_part, upper_part}
use Rattle.leaf_slots.proofs.slots.Slots.cut.Given as goal

-- up to `from` both rows are as they will be, and behind that as they were
abbrev pub invariant-loop-from : goal.invariant-loop-from
invariant-loop-from g l = record {
  begun : l.at ≤ l.from;
  within : l.from ≤ 15;
  mine : l.self ≡ take l.from (lower_part l.at l.initial.self) ++ drop l.from l.initial.self;
  others : l.upper ≡ take (l.from - l.at) (upper_part l.at l.initial.self) ++ drop (l.from - l.at) no_places;
}

abbrev pub decreases-loop-from : goal.decreases-loop-from
decreases-loop-from g l = 15 - l.from
