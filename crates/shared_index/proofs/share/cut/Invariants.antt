use Rattle.std.proofs.Common.{◌≡◌, ◌+◌, ◌≤◌, ◌++◌, length, replicate, vec_capacity}
use Rattle.shared_index.proofs.share.cut.Given as goal

abbrev pub invariant-loop-i : goal.invariant-loop-i
invariant-loop-i g l = record {
  parts : l.mark.parts + l._i ≡ l.count;
  amount : l.mark.amount ≡ 0;
  made : l.room.items ≡ l.initial.room.items ++ replicate l._i 0;
  room : length l.initial.room.items + l.count ≤ vec_capacity l.room;
}
