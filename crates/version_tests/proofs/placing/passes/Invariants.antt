use Rattle.std.proofs.Common.{◌<◌, List, length}
use Rattle.sdd_world.specs.Counting.{Counted}
use Rattle.sdd_world.specs.Holding.{Hold}
use Rattle.version_views.specs.Items.{held_by}
use Rattle.version_tests.proofs.placing.passes.Given as goal

abbrev pub invariant-loop : goal.invariant-loop
invariant-loop l = record {
  participants : 0 < length l.w.participants;
  counted : (hand : List Hold) → Counted held_by hand l.fn.w → Counted held_by hand l.w;
}
