use Rattle.std.proofs.Common.{lit<}
use Rattle.local_index.proofs.DeskLemmas.{closing-one, closing-open}
use Rattle.local_index.proofs.desk.Desk.end.Goals as goal

pub close_ticket-requires : goal.close_ticket-requires
close_ticket-requires g c =
    (lit< tt, closing-open c.args.self c.args.index.now c.closing.tickets.items c.pop.new.self.items c.in-Some.ticket c.closing.index (rw c.in-Some.is at c.pop.ensures.items) c.closing.invariant)

pub closing-preserved : goal.closing-preserved
closing-preserved g c =
    closing-one c.args.self c.args.index.now c.closing.tickets.items c.pop.new.self.items c.in-Some.ticket c.closing.index c.close_ticket.new.index (rw c.in-Some.is at c.pop.ensures.items) c.close_ticket.ensures c.closing.invariant
