use Rattle.world_containers.proofs.Names.{◌≡◌, reverse, stack_cell}
use Rattle.world_containers.proofs.FromIterLemmas.{BuiltStack}
use Rattle.world_containers.proofs.world.stack.from_iter.Given as goal

abbrev pub invariant-loop-value : goal.invariant-loop-value
invariant-loop-value g l = record {
  built : BuiltStack l.fn.w l.w (stack_cell l.stack) (reverse l.yielded);
  participants : l.w.participants ≡ l.fn.w.participants;
}
