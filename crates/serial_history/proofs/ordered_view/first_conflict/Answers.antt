use Rattle.std.proofs.Common.{refl, sym, subst, arith}
use Rattle.std.proofs.lemmas.Bool.{false≢true}
use Rattle.std.proofs.lemmas.List.{get_or_read}
use Rattle.std.proofs.lemmas.List.Elements.{AllWithin-more}
use Rattle.serial_history.specs.Serial.{Holds}
use Rattle.serial_history.proofs.ordered_view.first_conflict.Goals as goal

pub loop-i-preserved : goal.loop-i-preserved
loop-i-preserved g c =
    AllWithin-more (Holds g.K.Ord.cmp (g.L.OrderedView.pairs c.args.list.now)) c.args.reads.now 0 c.loop-i.i c.loop-i.invariant
    (λ d. subst (Holds g.K.Ord.cmp (g.L.OrderedView.pairs c.args.list.now)) (get_or_read _ _ _ c.loop-i-test.true c.index-reads-i.is d) (c.if-not-holds.ensures.0 refl))

pub returns-clause-none : goal.returns-clause-none
returns-clause-none g c = λ place d within. c.loop-i.invariant place d (omega arith) (omega (arith, within, c.loop-i-test.false))

pub returns-then-not-holds-clause-some : goal.returns-then-not-holds-clause-some
returns-then-not-holds-clause-some g c = record {
  within = c.loop-i-test.true;
  earlier = c.loop-i.invariant;
  differs = λ d held.
      let at = get_or_read c.args.reads.now c.loop-i.i c.index-reads-i.result c.loop-i-test.true c.index-reads-i.is d in
      false≢true (c.if-not-holds.ensures.1 (subst (Holds g.K.Ord.cmp (g.L.OrderedView.pairs c.args.list.now)) (sym at) held));
}

pub loop-i-init : goal.loop-i-init
loop-i-init g c = λ k d least most. absurd (omega (arith, most))
