use Rattle.std.proofs.Common.{arith}
use Rattle.domain_table.proofs.Leavings.{leaves_at}
use Rattle.domain_table.proofs.LeftCodes.{ends_low}
use Rattle.domain_table.proofs.left.tell.Goals as goal

pub word_of-requires : goal.word_of-requires
word_of-requires g c = ends_low c.args.place.sizes.now.slots c.args.seat.now.me.0.waits c.args.bag c.requires.table.3.2 c.requires.bag.0.0 c.requires.bag.1

pub store-requires : goal.store-requires
store-requires g c = let t = c.requires.table in let long = t.4 in let low = t.5 in let r = c.requires.rests in let b = c.requires.bag in (t.0, omega arith, leaves_at _ _ _ _ _ c.args.number _ c.args.seat.now.me r.1 r.0 r.2 r.3 r.4 c.requires.known b.0.1 (c.word_of.ensures c.args.seat.now.me.0.waits b.0.0))
