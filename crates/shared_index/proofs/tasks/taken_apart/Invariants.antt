use Rattle.std.specs.Prelude.{◌≡◌, ◌≤◌, ◌+◌, length, vec_capacity, map}
use Rattle.shared_index.proofs.tasks.taken_apart.Given as goal

abbrev pub invariant-loop-task : goal.invariant-loop-task
invariant-loop-task g l = record {
  shares : length l.shares.items + length l.assigned.items ≡ length l.fn.assigned.items;
  ended : length l.ended.items ≡ length l.shares.items;
  counts : l.shares.items ≡ map (λ e. e.commits) l.ended.items;
  fits : (length l.fn.assigned.items ≤ vec_capacity l.shares) × (length l.fn.assigned.items ≤ vec_capacity l.ended);
}

abbrev pub decreases-loop-task : goal.decreases-loop-task
decreases-loop-task g l = length l.assigned.items
