use Rattle.std.proofs.Common.{◌+◌, drop, sym, ap, ◌∙◌, arith}
use Rattle.std.proofs.lemmas.List.{drop_more, drop_all}
use Rattle.version_views.specs.Writes.{after_write, after_writes}
use Rattle.serial_history.proofs.replay.apply_all.Goals as goal

pub loop-write-preserved : goal.loop-write-preserved
loop-write-preserved g c =
    let cmp = g.K.Ord.cmp in
    let ws = c.args.writes.now in
    let i = c.loop-write.write-index in
    let write = c.write-item.result in
    let old = c.loop-write.list.pairs in
    ap (after_writes cmp (drop (i + 1) ws)) (c.in_ok-apply.ensures ∙ ap (λ w. after_write cmp w old) c.write-item.is)
    ∙ ap (λ us. after_writes cmp us old) (sym (drop_more ws i write c.loop-write-test.true)) ∙ c.loop-write.invariant

pub returns : goal.returns
returns g c =
    let none = drop_all c.loop-write.write-index c.args.writes.now (omega (arith, c.loop-write-test.false)) in
    ap (λ ws. after_writes g.K.Ord.cmp ws c.loop-write.list.pairs) (sym none) ∙ c.loop-write.invariant
