use Rattle.std.proofs.Common.{ap, ◌∙◌, sym, arith}
use Rattle.domain_table.specs.declared.row.Row.{Row}
use Rattle.domain_table.proofs.Leased.{row_at}
use Rattle.sdd_domain.proofs.Leased.{row_in}
use Rattle.sdd_domain.proofs.local.seen_of.Goals as goal

pub returns-then-index-slot-clause-row : goal.returns-then-index-slot-clause-row
returns-then-index-slot-clause-row g c = let rows = c.args.rows.now.items in let all = c.args.rows.now.ok.0 in let long = c.len-at-end.ensures in let low = c.loop-at-test.true in
    let f = row_in rows c.loop-at.at (omega arith) in let is = c.index.ensures ∙ f.2 c.index.result.now in let again = c.index-then-index-slot.ensures ∙ f.2 c.index-then-index-slot.result.now in
    (f.0, f.1, sym (ap (λ (r : Row _). r.slot) is) ∙ c.if-index-slot.true, c.see.ensures.0 ∙ ap (λ (r : Row _). r.lent.seen.value) again, c.see.ensures.1 ∙ ap (λ (r : Row _). r.lent.pledge.until) again)

pub returns-clause-free : goal.returns-clause-free
returns-clause-free g c = λ has. let f = row_at c.args.rows.now.items c.args.slot has in let low = f.2 in let all = c.args.rows.now.ok.0 in let long = c.len-at-end.ensures in let end = c.loop-at-test.false in c.loop-at.invariant.others f.0 f.1 (omega arith) (ap (λ (r : Row _). r.slot) (f.3 f.1) ∙ f.4)
