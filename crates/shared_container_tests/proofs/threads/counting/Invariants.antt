use Rattle.shared_container_tests.specs.Any.{Rests}
use Rattle.shared_container_tests.proofs.threads.counting.Given as goal

abbrev pub invariant-loop-i : goal.invariant-loop-i
invariant-loop-i l = Rests l.scene.domain.now l.local
