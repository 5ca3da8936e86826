use Rattle.std.proofs.Common.{◌≡◌}
use Rattle.sdd_domain.proofs.domain.Domain.register.Given as goal

abbrev pub invariant-loop-number : goal.invariant-loop-number
invariant-loop-number g l = record { same : l.ledger ≡ l.initial.ledger }
