use Rattle.std.proofs.Common.{List}
use Rattle.sdd_world.specs.Tokens.{shared_cell}
use Rattle.sdd_world.specs.declared.tag.Tag.{Tag}
use Rattle.sdd_lists.specs.Chain.{Entry, IsList, Hangs, Skipped}
use Rattle.sdd_lists.proofs.world.chain.skip_from.Given as goal

abbrev pub invariant-loop-passed : goal.invariant-loop-passed
invariant-loop-passed g l = record {
  hangs : Hangs g.L.LinkedList.link l.w (shared_cell l.at);
  skipped : (t : Tag) (es : List (Entry _)) → IsList g.L.LinkedList.link l.w (shared_cell l.cell) t es → Skipped g.L.LinkedList.link l.w t es l._passed (shared_cell l.at);
}
