use Rattle.sdd_domain.proofs.Values.{is_lent}
use Rattle.sdd_domain.proofs.pointer.Loaded.under.Goals as goal

pub returns-clause-item : goal.returns-clause-item
returns-clause-item g c = λ x loaded. let e = c.as_ref-item.ensures in is_lent c.args.self.now.seen c.as_ref-item.result x loaded e.item e.null.1
