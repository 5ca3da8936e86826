use Rattle.std.proofs.Common.{ap, ◌∙◌, arith}
use Rattle.domain_table.specs.declared.row.Row.{Row}
use Rattle.domain_table.proofs.Leased.{row_at}
use Rattle.domain_table.proofs.leases.row_of.Goals as goal

pub returns-clause-free : goal.returns-clause-free
returns-clause-free g c = λ has. let f = row_at c.args.rows.now.items c.args.slot has in let low = f.2 in let all = c.args.rows.now.ok.0 in let long = c.len-at-end.ensures in let end = c.loop-at-test.false in c.loop-at.invariant.others f.0 f.1 (omega arith) (ap (λ (r : Row _). r.slot) (f.3 f.1) ∙ f.4)
