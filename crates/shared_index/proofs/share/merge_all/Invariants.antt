use Rattle.std.proofs.Common.{◌≡◌, ◌+◌, length}
use Rattle.std.specs.List.{sum}
use Rattle.shared_index.proofs.share.merge_all.Given as goal

abbrev pub invariant-loop-share : goal.invariant-loop-share
invariant-loop-share g l = record {
  parts : l.all.parts + length l.shares.items ≡ l.initial.all.parts + length l.initial.shares.items;
  amount : l.all.amount + sum l.shares.items ≡ l.initial.all.amount + sum l.initial.shares.items;
}

abbrev pub decreases-loop-share : goal.decreases-loop-share
decreases-loop-share g l = goal.left-loop-share g l
