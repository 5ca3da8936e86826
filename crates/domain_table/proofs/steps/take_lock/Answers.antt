use Rattle.std.proofs.Common.{rules}
use Rattle.domain_table.proofs.Locks.{locks}
use Rattle.domain_table.proofs.steps.take_lock.Goals as goal

pub compare_exchange-found-requires : goal.compare_exchange-found-requires
compare_exchange-found-requires g c = let r = c.requires.2 in (search rules, search rules, locks _ _ _ _ _ _ r.0 r.4)
