use Rattle.std.proofs.Common.{◌++◌, ◌∷◌, [], get_or, take, sym, ap, ◌∙◌}
use Rattle.std.proofs.lemmas.List.{take_all, take_more}
use Rattle.shared_index.proofs.book.feed.copied_all.Goals as goal

pub loop-transaction-preserved : goal.loop-transaction-preserved
loop-transaction-preserved g c =
    let all = c.args.transactions.now in
    let i = c.loop-transaction.transaction-index in
    let d = c.transaction-item.result in
    let same = c.in_ok-copied.ensures ∙ c.transaction-item.is in
    c.in_ok-push.ensures.items ∙ ap (λ one. c.loop-transaction.copy.items ++ one ∷ []) same ∙ ap (λ copy. copy ++ get_or all i d ∷ []) c.loop-transaction.invariant ∙ sym (take_more all i d c.loop-transaction-test.true)

pub returns : goal.returns
returns g c = c.loop-transaction.invariant ∙ take_all c.loop-transaction.transaction-index c.args.transactions.now c.loop-transaction-test.false
