use Rattle.std.proofs.Common.{refl}
use Rattle.sdd_domain.proofs.local.turn.Goals as goal

pub returns-then-own-epoch-clause-reclaimed : goal.returns-then-own-epoch-clause-reclaimed
returns-then-own-epoch-clause-reclaimed g c = let m = c.args.seat.now.me in (m.0.slot, m.0.waits, refl)
