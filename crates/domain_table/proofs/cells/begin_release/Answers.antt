use Rattle.domain_table.specs.Contents.{IsIn}
use Rattle.domain_table.proofs.Begins.{begins}
use Rattle.domain_table.proofs.cells.begin_release.Goals as goal

pub load-requires : goal.load-requires
load-requires g c = let t = c.requires.table in let seat = c.args.seat.now in let o = c.requires.owner in
    (t.0, t.1, begins _ (IsIn g.H.Holding.holds) c.args.words.now.key c.args.words.now.table_id.slots seat.id 0 seat.me o.0 o.1 c.requires.ready.0 c.requires.ready.1 o.2 o.3)
