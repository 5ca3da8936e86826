use Rattle.std.proofs.Common.{◌≡◌, get_or, inl, inr, sym, ap, ◌∙◌, subst, arith}
use Rattle.std.proofs.lemmas.Bool.{false≢true, cases_lt}
use Rattle.std.proofs.lemmas.List.{get_or_default}
use Rattle.version_drafts.specs.Gone.{IsNear}
use Rattle.version_drafts.proofs.SpanLemmas.{none_near}
use Rattle.version_drafts.proofs.gone.nears.Goals as goal

pub returns : goal.returns
returns g c = λ e b here.
    none_near g.K.Ord.cmp c.args.old.now c.args.gone.now c.args.place b c.requires
    (λ i d lt. c.loop-range.invariant i d (let all = c.loop-range-test.false in let upto = c.loop-range.auto.range-index-end in omega (arith, lt, all, upto))) here

pub loop-range-init : goal.loop-range-init
loop-range-init g c = λ i d lt. absurd (omega (arith, lt))

pub returns-then-is_near : goal.returns-then-is_near
returns-then-is_near g c = λ e. absurd (false≢true (sym e))

pub loop-range-preserved : goal.loop-range-preserved
loop-range-preserved g c = λ i d lt near.
    let gone = c.args.gone.now in
    let at = c.loop-range.range-index in
    elim (cases_lt i at) [
      | inl less ↦ c.loop-range.invariant i d less near
      | inr more ↦
          let here : i ≡ at = omega (arith, lt, more) in
          let same : get_or gone i d ≡ c.range-item.result = ap (λ k. get_or gone k d) here ∙ (get_or_default gone at d c.range-item.result (omega (arith, c.loop-range-test.true)) ∙ sym c.range-item.is) in
          false≢true (c.if-is_near.ensures.1 (subst (λ r. IsNear r c.args.place) same near))
    ]
