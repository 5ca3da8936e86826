use Rattle.std.proofs.Common.{◌+◌, ◌≡◌, ◌∷◌, drop, true, false, sym, ap, ◌∙◌}
use Rattle.std.specs.Ordering.{is_eq}
use Rattle.std.proofs.lemmas.List.{drop_more}
use Rattle.leaf_array.proofs.plain.find_value.Goals as goal

pub returns-then-is_eq : goal.returns-then-is_eq
returns-then-is_eq g c =
    let here = drop_more c.args.pairs.now c.loop-pair.pair-index c.pair-item.result c.loop-pair-test.true ∙ ap (λ p. p ∷ drop (c.loop-pair.pair-index + 1) c.args.pairs.now) (sym c.pair-item.is) in
    let same : is_eq (g.K.Ord.cmp c.args.key.now c.pair-item.result.0) ≡ true = ap is_eq (sym c.cmp.ensures) ∙ (sym c.is_eq.ensures ∙ c.if-is_eq.true) in
    rw same at (rw here at c.loop-pair.invariant)

pub loop-pair-preserved : goal.loop-pair-preserved
loop-pair-preserved g c =
    let here = drop_more c.args.pairs.now c.loop-pair.pair-index c.pair-item.result c.loop-pair-test.true ∙ ap (λ p. p ∷ drop (c.loop-pair.pair-index + 1) c.args.pairs.now) (sym c.pair-item.is) in
    let other : is_eq (g.K.Ord.cmp c.args.key.now c.pair-item.result.0) ≡ false = ap is_eq (sym c.cmp.ensures) ∙ (sym c.is_eq.ensures ∙ c.if-is_eq.false) in
    rw other at (rw here at c.loop-pair.invariant)
