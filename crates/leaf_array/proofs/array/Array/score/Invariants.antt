use Rattle.std.proofs.Common.{◌≡◌, ◌-◌, ◌+◌, ◌*◌, ◌≤◌}
use Rattle.leaf_array.specs.Words.{ranks_in_order, rises}
use Rattle.leaf_array.proofs.array.Array.score.Given as goal

abbrev pub invariant-loop-place : goal.invariant-loop-place
invariant-loop-place g l = record {
  rest : l.score + 2 * rises l.before (ranks_in_order l.place (15 - l.place) l.self.labels) ≡ 1 + 2 * rises 0 (ranks_in_order 0 15 l.self.labels);
  within : l.score ≤ 1 + 2 * l.place;
}
