use Rattle.std.proofs.Common.{◌≡◌, ◌≤◌, ◌++◌, length}
use Rattle.std.specs.List.{All}
use Rattle.std.specs.Vec.Iter.{into_iter_items, into_iter_len}
use Rattle.version_drafts.specs.Parts.{LiesWithin, blocks_of_parts, made_in}
use Rattle.version_drafts.specs.Shelves.{IsShelving, blocks_given, trees_given}
use Rattle.version_drafts.proofs.shelves.shelved.Given as goal

-- the parts so far are taken
abbrev pub invariant-loop-part : goal.invariant-loop-part
invariant-loop-part g l =
    let rest = into_iter_items l.part-iterator in
    record {
      all : l.yielded ++ rest ≡ l.fn.segments.parts.items;
      counted : into_iter_len l.part-iterator ≡ length rest;
      whole : IsShelving l.old l.rows.ends.items l.out;
      given : blocks_given l.old l.out ≡ blocks_of_parts l.old l.yielded;
      trees : trees_given l.out ≡ made_in l.yielded;
      within : All (LiesWithin (length l.old)) rest;
      some : All (λ b. 1 ≤ length b) (blocks_of_parts l.old rest);
    }
