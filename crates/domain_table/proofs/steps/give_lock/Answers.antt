use Rattle.std.proofs.Common.{rules, arith, ⊎_elim}
use Rattle.domain_table.proofs.Locks.{unlocks}
use Rattle.domain_table.specs.Plays.{Scans}
use Rattle.domain_table.proofs.steps.give_lock.Goals as goal

pub store-requires : goal.store-requires
store-requires g c = (search rules, search rules, ⊎_elim (λ (r : Scans c.args.seat.now c.args.number c.args.epoch 1). let z = r.4 in unlocks _ _ _ _ _ _ r.0 (omega arith)) (λ (r : Scans c.args.seat.now c.args.number c.args.epoch 2). let z = r.4 in unlocks _ _ _ _ _ _ r.0 (omega arith)) c.requires.lock.2)
