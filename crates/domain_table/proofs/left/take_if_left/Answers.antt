use Rattle.std.proofs.Common.{◌∙◌, ap}
use Rattle.atomic_table.specs.Table.{Me}
use Rattle.domain_table.specs.declared.board.Acting.{Acting}
use Rattle.domain_table.proofs.left.take_if_left.Goals as goal

pub take_over-requires-clause-taken : goal.take_over-requires-clause-taken
take_over-requires-clause-taken g c = let o = c.take_left-chain.ensures.taken in (o.0, c.args.seat.now.me.0.waits, ap (λ (m : Me _ Acting). m.0.waits) o.3, o.1, o.2, c.requires.waits)

pub returns-clause-taken : goal.returns-clause-taken
returns-clause-taken g c = let o = c.take_left-chain.ensures.taken in let w = c.take_over.ensures.waits in (w.0, w.2, w.3 ∙ λ j. (record (o.3 j).0 { waits = w.0 }, (o.3 j).1))
