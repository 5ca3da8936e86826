use Rattle.std.proofs.Common.{List, ◌<◌, length}
use Rattle.sdd_world.specs.Frame.{OnlyParticipant}
use Rattle.sdd_world.specs.Tokens.{shared_cell}
use Rattle.sdd_world.specs.declared.tag.Tag.{Tag}
use Rattle.sdd_lists.specs.Chain.{Entry, IsList, Hangs, Cut, Stays}
use Rattle.sdd_lists.proofs.world.chain.clear.Given as goal

abbrev pub invariant-loop-passed : goal.invariant-loop-passed
invariant-loop-passed g l = record {
  participant : l.p < length l.w.participants;
  hangs : Hangs g.L.LinkedList.link l.w (shared_cell l.cell);
  cut : (t : Tag) (es : List (Entry _)) → IsList g.L.LinkedList.link l.initial.w (shared_cell l.cell) t es → Cut g.L.LinkedList.link l.initial.w l.w (shared_cell l.cell) t es l._passed;
  only : OnlyParticipant l.p l.initial.w l.w;
  stays : Stays l.initial.w l.w;
}
