use Rattle.std.proofs.Common.{ℕ, ap, ◌∙◌, arith}
use Rattle.domain_table.specs.declared.row.Row.{Row}
use Rattle.domain_table.proofs.Rows.{row_at}
use Rattle.domain_table.proofs.leases.seen_like.Goals as goal

pub returns-clause-under : goal.returns-clause-under
returns-clause-under g c = λ life ls told. let rows = c.args.rows.now.items in let low = c.requires.row in let long = c.args.rows.now.ok.0 in let r = row_at life rows ls c.args.at told (omega arith) in
    c.see_like.ensures.1 ∙ (ap (λ (x : Row _). x.lent.pledge.until) (c.index.ensures ∙ r.is c.index.result.now) ∙ ap (λ (t : ℕ × ℕ × ℕ × ℕ). t.3) r.told)
