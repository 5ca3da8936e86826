use Rattle.std.proofs.Common.{◌<◌, List, length}
use Rattle.sdd_world.specs.Counting.{Counted}
use Rattle.sdd_world.specs.Holding.{Hold}
use Rattle.sdd_world.specs.Place.{IsOpen}
use Rattle.version_views.specs.Items.{held_by}
use Rattle.version_tests.proofs.schedule.play.Given as goal

abbrev pub invariant-loop-turn : goal.invariant-loop-turn
invariant-loop-turn g l = record {
  participants : 1 < length l.w.participants;
  reader : IsOpen l.fn.w 0 → IsOpen l.w 0;
  counted : (hand : List Hold) → Counted held_by hand l.fn.w → Counted held_by hand l.w;
}
