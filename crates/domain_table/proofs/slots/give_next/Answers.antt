use Rattle.domain_table.specs.Contents.{IsIn}
use Rattle.domain_table.proofs.Claims.{fill_gives}
use Rattle.domain_table.proofs.Told.{are_told}
use Rattle.domain_table.proofs.slots.give_next.Goals as goal

pub load-requires : goal.load-requires
load-requires g c = let t = c.requires.table in let plan = c.args.words.now.key in let seat = c.args.seat.now in let f = c.requires.filling.1 in (t.0, t.1, fill_gives _ (IsIn g.H.Holding.holds) plan c.args.words.now.table_id.slots seat.id 0 seat.me f.0 f.1 f.2 f.3 (are_told g.H.Holding.holds) c.requires.filling.0 f.4)
