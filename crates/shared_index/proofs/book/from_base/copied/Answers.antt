use Rattle.std.proofs.Common.{◌++◌, ◌∷◌, [], get_or, take, sym, ap, ◌∙◌}
use Rattle.std.proofs.lemmas.List.{take_all, take_more}
use Rattle.shared_index.proofs.book.from_base.copied.Goals as goal

pub loop-pair-preserved : goal.loop-pair-preserved
loop-pair-preserved g c =
    let all = c.args.pairs.now in
    let i = c.loop-pair.pair-index in
    let d = c.pair-item.result in
    let same = c.in_ok-copied_pair.ensures ∙ c.pair-item.is in
    c.in_ok-push.ensures.items ∙ ap (λ one. c.loop-pair.copy.items ++ one ∷ []) same ∙ ap (λ copy. copy ++ get_or all i d ∷ []) c.loop-pair.invariant ∙ sym (take_more all i d c.loop-pair-test.true)

pub returns : goal.returns
returns g c = c.loop-pair.invariant ∙ take_all c.loop-pair.pair-index c.args.pairs.now c.loop-pair-test.false
