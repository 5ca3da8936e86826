use Rattle.std.proofs.Common.{arith, refl, subst}
use Rattle.version_drafts.specs.Gone.{IsCovered}
use Rattle.version_drafts.proofs.SpanLemmas.{covered_at}
use Rattle.version_drafts.proofs.gone.covers.Goals as goal

pub returns-then-is_inside : goal.returns-then-is_inside
returns-then-is_inside g c = λ yes b here.
    covered_at g.K.Ord.cmp c.args.old.now c.args.gone.now c.loop-range.range-index c.range-item.result c.args.place b (omega (arith, c.loop-range-test.true)) c.requires
    (subst (λ r. IsCovered r c.args.place) c.range-item.is (c.if-is_inside.ensures.0 refl)) here
