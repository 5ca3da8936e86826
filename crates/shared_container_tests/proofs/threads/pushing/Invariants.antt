use Rattle.shared_container_tests.specs.Any.{Rests}
use Rattle.shared_container_tests.proofs.threads.pushing.Given as goal

abbrev pub invariant-loop-value : goal.invariant-loop-value
invariant-loop-value l = Rests l.scene.domain.now l.local
