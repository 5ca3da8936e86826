use Rattle.domain_table.proofs.Rereads.{rereads}
use Rattle.domain_garbage.proofs.private.reread.Goals as goal

pub load-requires : goal.load-requires
load-requires g c = let t = c.requires.table in let seat = c.args.seat.now in (t.0, t.1, rereads _ _ c.args.words.now.key c.args.words.now.table_id.slots seat.id seat.me c.requires.«open».0 c.requires.«open».1)
