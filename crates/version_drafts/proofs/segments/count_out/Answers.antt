use Rattle.std.proofs.Common.{ap, length, ◌∙◌, arith, length-append}
use Rattle.version_views.specs.Cuts.{pairs_in}
use Rattle.version_views.proofs.ChangeScanLemmas.{block_at}
use Rattle.std.proofs.Common.{◌+◌, drop}
use Rattle.version_drafts.proofs.segments.count_out.Goals as goal

pub overflow_sub-out : goal.overflow_sub-out
overflow_sub-out g c =
    let blocks = c.args.old.now in
    let b = c.args.here.now.tree.now.pairs in
    let rest = ap length (block_at c.args.here.now.place blocks b c.requires.there) ∙ length-append b (pairs_in (drop (c.args.here.now.place + 1) blocks)) in
    omega (arith, c.requires.counted, rest, c.len.ensures.count)

pub returns-clause-counted : goal.returns-clause-counted
returns-clause-counted g c =
    let blocks = c.args.old.now in
    let b = c.args.here.now.tree.now.pairs in
    let rest = ap length (block_at c.args.here.now.place blocks b c.requires.there) ∙ length-append b (pairs_in (drop (c.args.here.now.place + 1) blocks)) in
    omega (arith, c.requires.counted, rest, c.len.ensures.count)
