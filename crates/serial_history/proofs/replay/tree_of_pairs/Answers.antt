use Rattle.std.proofs.Common.{◌++◌, ◌∷◌, [], get_or, sym, ap, ◌∙◌, subst}
use Rattle.std.proofs.lemmas.List.{take_all, take_more}
use Rattle.tree_index.specs.Depth.{IsAbove}
use Rattle.serial_history.proofs.BaseLemmas.{above_taken}
use Rattle.serial_history.proofs.replay.tree_of_pairs.Goals as goal

pub push_last-requires-clause-above : goal.push_last-requires-clause-above
push_last-requires-clause-above g c =
    let cmp = g.K.Ord.cmp in
    let pairs = c.args.pairs.now in
    let i = c.loop-pair.pair-index in
    let d = c.pair-item.result in
    let key = ap (λ (p : _ × _). p.0) (c.in_ok-key.ensures ∙ c.pair-item.is) in
    subst (λ k. IsAbove cmp k c.loop-pair.tree.pairs) (sym key) (subst (IsAbove cmp _) (sym c.loop-pair.invariant) (above_taken cmp pairs i d c.requires.rising c.loop-pair-test.true))

pub loop-pair-preserved : goal.loop-pair-preserved
loop-pair-preserved g c =
    let pairs = c.args.pairs.now in
    let i = c.loop-pair.pair-index in
    let d = c.pair-item.result in
    let same = c.in_ok-key.ensures ∙ c.pair-item.is in
    c.in-Ok.ensures.pushed ∙ ap (λ p. c.loop-pair.tree.pairs ++ p ∷ []) same ∙ ap (λ ts. ts ++ get_or pairs i d ∷ []) c.loop-pair.invariant ∙ sym (take_more pairs i d c.loop-pair-test.true)

pub returns : goal.returns
returns g c = c.loop-pair.invariant ∙ take_all c.loop-pair.pair-index c.args.pairs.now c.loop-pair-test.false
