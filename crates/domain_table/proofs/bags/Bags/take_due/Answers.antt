use Rattle.std.proofs.Common.{◌++◌}
use Rattle.domain_table.proofs.WaitLemmas.{lists_of, due_behind, due_taken}
use Rattle.domain_table.proofs.bags.Bags.take_due.Goals as goal

pub take_first-slot-requires-clause-bag : goal.take_first-slot-requires-clause-bag
take_first-slot-requires-clause-bag g c = let n = c.args.place.sizes.now.slots in let ws = c.args.seat.now.me.0.waits in let t = lists_of n ws c.args.self.now c.requires.waits in (t.cs ++ (t.ps ++ t.ns), t.ds, due_behind n c.args.self.now ws t, t.due)

pub take_first-slot-requires-clause-acts : goal.take_first-slot-requires-clause-acts
take_first-slot-requires-clause-acts g c = (c.requires.acts, (lists_of c.args.place.sizes.now.slots c.args.seat.now.me.0.waits c.args.self.now c.requires.waits).below)

pub returns-clause-taken : goal.returns-clause-taken
returns-clause-taken g c = let n = c.args.place.sizes.now.slots in let ws = c.args.seat.now.me.0.waits in due_taken n c.args.self.now ws c.take_first-slot.result.1 (lists_of n ws c.args.self.now c.requires.waits) c.take_first-slot.result.0 c.take_first-slot.ensures.taken
