use Rattle.std.proofs.Common.{◌≡◌, ◌<◌, length}
use Rattle.world_containers.specs.Bags.{IsSomeBag, bag_cells}
use Rattle.world_containers.specs.MutableIteration.{IsSomeLeft, walk_cells}
use Rattle.sdd_tests.proofs.writing_walks.raise.Given as goal

abbrev pub invariant-loop-passed : goal.invariant-loop-passed
invariant-loop-passed g l = record {
  same : l.walk.place.ghost_name ≡ l.initial.walk.place.ghost_name;
  left : IsSomeLeft l.walk.place.now (walk_cells l.walk);
  list : IsSomeBag g.row.N l.walk.place.now (bag_cells l.bag);
  participant : 0 < length l.walk.place.now.participants;
}
