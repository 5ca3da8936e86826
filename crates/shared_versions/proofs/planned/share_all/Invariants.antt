use Rattle.std.proofs.Common.{◌≡◌, ◌≤◌, ◌++◌, ◌+◌, ◌-◌, length, map, take, vec_capacity}
use Rattle.shared_versions.specs.Nodes.{segment_pairs}
use Rattle.shared_versions.proofs.planned.share_all.Given as goal

-- the first segments are shared, and there is room for the others
abbrev pub invariant-loop-one : goal.invariant-loop-one
invariant-loop-one g l = record {
  shared : map segment_pairs l.segments.items ≡ map segment_pairs l.fn.segments.items ++ map segment_pairs (take l.one-index l.more);
  room : length l.segments.items + (length l.more - l.one-index) ≤ vec_capacity l.segments;
}
