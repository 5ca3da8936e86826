use Rattle.shared_containers.specs.Containers.{IsAsBefore}
use Rattle.shared_containers.proofs.queue.Queue.from_iter.Given as goal

abbrev pub invariant-loop-value : goal.invariant-loop-value
invariant-loop-value g l = IsAsBefore l.fn.local l.local
