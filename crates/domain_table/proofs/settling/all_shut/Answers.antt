use Rattle.std.proofs.Common.{refl, arith}
use Rattle.domain_table.proofs.settling.all_shut.Goals as goal

pub loop-other-init : goal.loop-other-init
loop-other-init g c = record { seat = (refl, refl); looked = (c.args.seat.now.me.0.known.looked, refl, λ q low. absurd (omega arith)) }
