use Rattle.std.proofs.Common.{◌∙◌, sym, arith}
use Rattle.version_drafts.proofs.ListedLemmas.{is_less, is_not_less, rising_first, rising_more, rising_only}
use Rattle.version_drafts.proofs.listed.rising_until.Goals as goal

pub loop-at-init : goal.loop-at-init
loop-at-init g c = record { rising = rising_first g.K.Ord.cmp c.args.pairs.now; some = omega arith }

pub loop-at-preserved : goal.loop-at-preserved
loop-at-preserved g c =
    let i = c.loop-at.invariant in
    let less = sym c.cmp.ensures ∙ is_less c.cmp.result c.if-ne.ensures in
    record {
      rising = rising_more g.K.Ord.cmp c.args.pairs.now c.loop-at.at c.index-pairs-at.result c.index-pairs-at-in-loop-at.result i.some c.loop-at-test.true g.met.K.Ord.total less i.rising;
      some = omega arith;
    }

pub returns-then-ne-clause-ends : goal.returns-then-ne-clause-ends
returns-then-ne-clause-ends g c = λ within up.
    is_not_less c.cmp.result c.if-ne.ensures (c.cmp.ensures ∙ rising_only g.K.Ord.cmp c.args.pairs.now c.loop-at.at c.index-pairs-at.result c.index-pairs-at-in-loop-at.result c.loop-at.invariant.some within up)
