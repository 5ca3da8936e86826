use Rattle.domain_table.specs.Contents.{IsIn}
use Rattle.domain_table.proofs.Reclaims.{opens}
use Rattle.domain_garbage.proofs.emptying.open.Goals as goal

pub load-requires : goal.load-requires
load-requires g c = let t = c.requires.table in let plan = c.args.words.now.key in let seat = c.args.seat.now in let w = c.requires.waits in (t.0, t.1, opens _ (IsIn g.H.Holding.holds) plan c.args.words.now.table_id.slots seat.id 0 seat.me w.0 w.1 c.requires.ready.0 c.requires.ready.1 w.2 w.3)

pub returns-clause-inside : goal.returns-clause-inside
returns-clause-inside g c = λ w ws waits. (c.load.ensures.2 w ws waits).0

pub returns-clause-opened : goal.returns-clause-opened
returns-clause-opened g c = λ w ws waits. (c.load.ensures.2 w ws waits).1
