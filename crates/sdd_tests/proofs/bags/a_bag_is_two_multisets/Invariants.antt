use Rattle.std.proofs.Common.{◌<◌, length}
use Rattle.world_containers.specs.Bags.{IsSomeBag, bag_cells}
use Rattle.sdd_tests.proofs.bags.a_bag_is_two_multisets.Given as goal

abbrev pub invariant-loop-step : goal.invariant-loop-step
invariant-loop-step g l = record {
  participant : 0 < length l.w.participants;
  list : IsSomeBag 3 l.w (bag_cells l.bag);
}
