use Rattle.shared_containers.specs.Containers.{IsAsBefore, IsBagOf}
use Rattle.shared_container_tests.proofs.walks.takes_apart.Given as goal

abbrev pub invariant-loop-step : goal.invariant-loop-step
invariant-loop-step l = record { same : IsAsBefore l.fn.local l.local; bag : IsBagOf l.items.bag l.domain }
