use Rattle.std.proofs.Common.{◌<◌, length}
use Rattle.world_containers.specs.Bags.{IsSomeBag, bag_cells}
use Rattle.sdd_tests.proofs.bags.play.Given as goal

abbrev pub invariant-loop-at : goal.invariant-loop-at
invariant-loop-at g l = record {
  participant : 0 < length l.w.participants;
  list : IsSomeBag g.row.N l.w (bag_cells l.bag);
}
