use Rattle.std.proofs.Common.{sym, ◌∙◌}
use Rattle.sdd_domain.proofs.domain.Domain.close.Goals as goal

-- the ledger that the place was made with is empty
pub reclaim_left-ledger-requires : goal.reclaim_left-ledger-requires
reclaim_left-ledger-requires g c = c.args.self.noted c.in-Some.ledger (sym c.take.ensures.value ∙ c.in-Some.is)
