use Rattle.std.specs.Prelude.{◌≡◌, ◌≤◌, ◌+◌, length, vec_capacity}
use Rattle.shared_index.proofs.tasks.assigned_to.Given as goal

abbrev pub invariant-loop-task : goal.invariant-loop-task
invariant-loop-task g l = record {
  many : length l.tasks.items ≡ length l.shares.items;
  all : length l.room.items + length l.tasks.items ≡ length l.fn.tasks.items;
  fits : length l.fn.tasks.items ≤ vec_capacity l.room;
}

abbrev pub decreases-loop-task : goal.decreases-loop-task
decreases-loop-task g l = length l.tasks.items
