use Rattle.std.proofs.Common.{◌+◌, drop, sym, ap, ◌∙◌, arith}
use Rattle.std.proofs.lemmas.List.{drop_more, drop_all}
use Rattle.version_views.specs.Writes.{after_writes}
use Rattle.serial_history.specs.Serial.{after_all}
use Rattle.serial_history.specs.declared.transaction.Transaction.{Transaction}
use Rattle.serial_history.proofs.replay.apply_history.Goals as goal

pub loop-transaction-preserved : goal.loop-transaction-preserved
loop-transaction-preserved g c =
    let cmp = g.K.Ord.cmp in
    let ts = c.args.history.now in
    let i = c.loop-transaction.transaction-index in
    let transaction = c.transaction-item.result in
    let old = c.loop-transaction.list.pairs in
    let made = c.in_ok-apply_all.ensures ∙ ap (λ ws. after_writes cmp ws old) c.as_slice.ensures ∙ ap (λ (t : Transaction _ _). after_writes cmp t.writes old) c.transaction-item.is in
    ap (after_all cmp (drop (i + 1) ts)) made
    ∙ ap (λ us. after_all cmp us old) (sym (drop_more ts i transaction c.loop-transaction-test.true)) ∙ c.loop-transaction.invariant

pub returns : goal.returns
returns g c =
    let none = drop_all c.loop-transaction.transaction-index c.args.history.now (omega (arith, c.loop-transaction-test.false)) in
    ap (λ ts. after_all g.K.Ord.cmp ts c.loop-transaction.list.pairs) (sym none) ∙ c.loop-transaction.invariant
