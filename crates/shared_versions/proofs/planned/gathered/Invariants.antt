use Rattle.std.proofs.Common.{◌≡◌, ◌+◌, ◌++◌, ◌≤◌, length, map}
use Rattle.std.specs.Prelude.{IsFalse, IsTrue}
use Rattle.std.specs.List.{All}
use Rattle.std.specs.Vec.Iter.{into_iter_items, into_iter_len}
use Rattle.version_drafts.specs.Parts.{blocks_of_parts, made_in}
use Rattle.version_drafts.specs.Shelves.{LiesInside}
use Rattle.shared_versions.specs.Nodes.{blocks_of, own_segments, segment_pairs}
use Rattle.shared_versions.proofs.planned.gathered.Given as goal

-- the segments of the parts so far are there, and the others are left
abbrev pub invariant-loop-part : goal.invariant-loop-part
invariant-loop-part g l =
    let rest = into_iter_items l.part-iterator in
    record {
      counted : into_iter_len l.part-iterator ≡ length rest;
      blocks : map segment_pairs l.segments.items ++ blocks_of_parts (blocks_of (own_segments l.own) l.old) rest ≡ blocks_of_parts (blocks_of (own_segments l.own) l.old) l.fn.parts.items;
      lies : All (LiesInside l.old.ends.items) rest;
      new : IsTrue l.new → 1 + made_in rest ≤ made_in l.fn.parts.items;
      made : made_in rest ≤ made_in l.fn.parts.items;
      older : IsFalse l.new → made_in l.fn.parts.items ≡ made_in rest;
    }
