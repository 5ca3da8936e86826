use Rattle.domain_table.proofs.Leased.{leased_ahead, filled_home}
use Rattle.domain_table.proofs.leases.give_rows.Goals as goal

pub refill-requires-clause-out : goal.refill-requires-clause-out
refill-requires-clause-out g c = let o = c.requires.out in leased_ahead g.H.Holding.holds c.args.seat.now.me c.turn.new.self.me o.0 o.1 c.turn.ensures.2

pub returns-clause-filled : goal.returns-clause-filled
returns-clause-filled g c = λ k is. let f = c.refill.ensures.filled in filled_home g.H.Holding.holds c.args.seat.now.me c.turn.new.self.me k is c.turn.ensures.2 f.0 c.refill.new.seat.me c.turn-2.new.self.me f.1 f.2 c.turn-2.ensures.2
