use Rattle.std.proofs.Common.{arith}
use Rattle.version_drafts.proofs.SpanLemmas.{none_near}
use Rattle.version_drafts.proofs.gone.apart_upto.Goals as goal

pub returns-clause-apart : goal.returns-clause-apart
returns-clause-apart g c = λ i b from less here.
    none_near g.K.Ord.cmp c.args.old.now c.args.gone.now i b c.requires
    (λ j d lt. c.loop-range.invariant.apart j d (let all = c.loop-range-test.false in let upto = c.loop-range.auto.range-index-end in omega (arith, lt, all, upto)) i from less) here
