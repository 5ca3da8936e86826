use Rattle.std.proofs.Common.{sym, subst}
use Rattle.version_drafts.specs.Gone.{IsEndAt}
use Rattle.version_drafts.specs.declared.gone.Gone.{Gone}
use Rattle.version_drafts.proofs.SpanLemmas.{span_of}
use Rattle.version_drafts.proofs.gone.range_of.Goals as goal

pub returns-clause-span : goal.returns-clause-span
returns-clause-span g c =
    let cmp = g.K.Ord.cmp in
    let blocks = c.args.old.now in
    let range : Gone g.row.K.Denot = record { lower = c.in_ok-copied.field-0; upper = c.in_ok-copied-2.field-0; from = c.end_of-from.result; upto = c.end_of-upto.result } in
    span_of g.met.K.Ord.total blocks range (subst (λ b. IsEndAt cmp blocks b c.end_of-from.result) (sym c.in_ok-copied.ensures) c.end_of-from.ensures) (subst (λ b. IsEndAt cmp blocks b c.end_of-upto.result) (sym c.in_ok-copied-2.ensures) c.end_of-upto.ensures)
