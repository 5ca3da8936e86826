use Rattle.std.proofs.Common.{◌++◌, ap, ◌∙◌, decimal, length}
use Rattle.std.proofs.lemmas.List.{take_all}
use Rattle.std.specs.Prelude.{codes}
use Rattle.std.specs.String.{string_bytes}
use Rattle.index_script.specs.Replies.{pair_texts}
use Rattle.index_script.proofs.TextLemmas.{pairs_more}
use Rattle.index_script.proofs.reply.write_pairs.Goals as goal

pub loop-pair-preserved : goal.loop-pair-preserved
loop-pair-preserved c =
    pairs_more _ _ _ c.args.pairs.now c.loop-pair.pair-index c.pair-item.result c.loop-pair-test.true c.pair-item.is c.loop-pair.invariant c.in_ok-write_pair.ensures

pub returns : goal.returns
returns c =
    c.loop-pair.invariant
    ∙ ap (λ ps. (string_bytes c.args.text.now ++ codes "pairs " ++ decimal (length c.args.pairs.now) ++ codes "\n") ++ pair_texts ps) (take_all c.loop-pair.pair-index c.args.pairs.now c.loop-pair-test.false)
