use Rattle.std.proofs.Common.{◌++◌, length, sym, ap, ◌∙◌, subst, arith}
use Rattle.leaf_array.specs.Pairs.{IsAscending}
use Rattle.tree_index.specs.Tree.{Tree}
use Rattle.version_drafts.proofs.segments.absorb.Goals as goal

pub append-requires-clause-rising : goal.append-requires-clause-rising
append-requires-clause-rising g c =
    let same = ap (λ (t : Tree g.row.K.Denot g.row.V.Denot). t.pairs) c.tree.ensures.same in
    let both = ap (λ ps. ps ++ c.tree.result.now.pairs) c.in_ok-both.ensures ∙ ap (λ ps. c.args.tree.now.pairs ++ ps) same in
    subst (IsAscending g.K.Ord.cmp) (sym both) c.requires.rising

pub append-requires-clause-room : goal.append-requires-clause-room
append-requires-clause-room g c =
    let same = ap (λ (t : Tree g.row.K.Denot g.row.V.Denot). length t.pairs) c.tree.ensures.same in
    let both = ap length c.in_ok-both.ensures in
    omega (arith, same, both, c.requires.room)

pub returns : goal.returns
returns g c =
    let same = ap (λ (t : Tree g.row.K.Denot g.row.V.Denot). t.pairs) c.tree.ensures.same in
    c.in_ok-append.ensures ∙ ap (λ ps. ps ++ c.tree.result.now.pairs) c.in_ok-both.ensures ∙ ap (λ ps. c.args.tree.now.pairs ++ ps) same
