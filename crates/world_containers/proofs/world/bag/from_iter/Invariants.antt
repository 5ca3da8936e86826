use Rattle.world_containers.proofs.Names.{◌≡◌, bag_cells}
use Rattle.world_containers.proofs.FromIterLemmas.{BuiltBag}
use Rattle.world_containers.proofs.world.bag.from_iter.Given as goal

abbrev pub invariant-loop-value : goal.invariant-loop-value
invariant-loop-value g l = record {
  built : BuiltBag l.fn.w g.row.ARRAY_LEN l.w (bag_cells l.bag) l.yielded;
  participants : l.w.participants ≡ l.fn.w.participants;
}
