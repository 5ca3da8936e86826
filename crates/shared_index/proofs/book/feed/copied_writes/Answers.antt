use Rattle.std.proofs.Common.{◌++◌, ◌∷◌, [], get_or, take, sym, ap, ◌∙◌}
use Rattle.std.proofs.lemmas.List.{take_all, take_more}
use Rattle.shared_index.proofs.book.feed.copied_writes.Goals as goal

pub loop-write-preserved : goal.loop-write-preserved
loop-write-preserved g c =
    let all = c.args.writes.now in
    let i = c.loop-write.write-index in
    let d = c.write-item.result in
    let same = c.in_ok-copied_write.ensures ∙ c.write-item.is in
    c.in_ok-push.ensures.items ∙ ap (λ one. c.loop-write.copy.items ++ one ∷ []) same ∙ ap (λ copy. copy ++ get_or all i d ∷ []) c.loop-write.invariant ∙ sym (take_more all i d c.loop-write-test.true)

pub returns : goal.returns
returns g c = c.loop-write.invariant ∙ take_all c.loop-write.write-index c.args.writes.now c.loop-write-test.false
