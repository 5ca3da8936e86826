use Rattle.domain_table.specs.Contents.{IsIn}
use Rattle.domain_table.proofs.Gathers.{empties}
use Rattle.domain_garbage.proofs.emptying.empty.Goals as goal

pub load-requires : goal.load-requires
load-requires g c = let t = c.requires.table in let plan = c.args.words.now.key in let seat = c.args.seat.now in let f = c.requires.emptied.1 in (t.0, t.1, empties _ (IsIn g.H.Holding.holds) plan c.args.words.now.table_id.slots seat.id 0 seat.me f.0 f.1 c.requires.emptied.0 f.2)
