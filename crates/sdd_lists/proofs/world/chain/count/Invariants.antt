use Rattle.std.proofs.Common.{List, ◌≤◌}
use Rattle.sdd_world.specs.Tokens.{shared_cell}
use Rattle.sdd_world.specs.declared.tag.Tag.{Tag}
use Rattle.sdd_lists.specs.Chain.{Entry, IsList, Hangs, PassedEntries}
use Rattle.sdd_lists.proofs.world.chain.count.Given as goal

abbrev pub invariant-loop-passed : goal.invariant-loop-passed
invariant-loop-passed g l = record {
  hangs : Hangs g.L.LinkedList.link l.w (shared_cell l.at);
  counted : (t : Tag) (es : List (Entry _)) → IsList g.L.LinkedList.link l.w (shared_cell l.cell) t es → PassedEntries g.L.LinkedList.link l.w es l._passed l.count (shared_cell l.at);
  small : l.count ≤ l._passed;
}
