use Rattle.domain_table.specs.Contents.{IsIn}
use Rattle.domain_table.proofs.Loads.{loads_own}
use Rattle.domain_table.proofs.cells.load_own.Goals as goal

pub load-requires : goal.load-requires
load-requires g c = let t = c.requires.table in let seat = c.args.seat.now in let o = c.requires.owner in
    (t.0, t.1, loads_own _ (IsIn g.H.Holding.holds) c.args.words.now.key c.args.words.now.table_id.slots seat.id 0 seat.me o.0 o.1 c.requires.«open».0 c.requires.«open».1 o.2)
