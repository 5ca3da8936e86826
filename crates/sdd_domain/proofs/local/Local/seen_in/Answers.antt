use Rattle.sdd_domain.proofs.Leased.{in_nest, has_row}
use Rattle.sdd_domain.proofs.local.Local.seen_in.Goals as goal

pub returns-clause-nest : goal.returns-clause-nest
returns-clause-nest g c = in_nest c.args.self.now c.args.slot c.seen_of.result c.seen_of.ensures.row

pub returns-clause-item : goal.returns-clause-item
returns-clause-item g c = has_row c.args.self.now.rows.items c.args.slot c.seen_of.result c.seen_of.ensures.row
