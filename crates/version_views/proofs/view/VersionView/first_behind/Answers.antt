use Rattle.std.proofs.Common.{◌+◌, ◌≡◌, ap, ◌∙◌, arith}
use Rattle.std.specs.declared.ops.Bound.TheVariants.{Unbounded}
use Rattle.tree_index.proofs.InsertionPointLemmas.{start_none}
use Rattle.tree_index.specs.Cursor.{moved_forth, next_of}
use Rattle.version_views.specs.CursorEnds.{pairs_before_block}
use Rattle.version_views.proofs.CursorEndLemmas.{block_some, found_fore, none_fore}
use Rattle.version_views.proofs.view.VersionView.first_behind.Goals as goal

pub unreachable-requires : goal.unreachable-requires
unreachable-requires g c =
    let cmp = g.K.Ord.cmp in
    let b = c.tree.result.now.pairs in
    let answer = c.next.ensures.steps.0 ∙ ap (next_of cmp) c.iter-cursor.ensures.cursor in
    let none = none_fore cmp c.args.self.now (c.args.segment + 1) b c.tree.ensures.pairs 0 c.next.result Unbounded answer c.in-None.is in
    let some = block_some cmp c.args.self.now (c.args.segment + 1) b c.requires.rising c.tree.ensures.pairs in
    omega (arith, none, some, start_none cmp b)

pub returns-clause-some : goal.returns-clause-some
returns-clause-some g c =
    let cmp = g.K.Ord.cmp in
    let b = c.tree.result.now.pairs in
    let i = c.args.segment + 1 in
    let answer = c.next.ensures.steps.0 ∙ ap (next_of cmp) c.iter-cursor.ensures.cursor in
    let moved = c.next.ensures.steps.1 ∙ ap (moved_forth cmp) c.iter-cursor.ensures.cursor in
    let starts : pairs_before_block c.args.self.now i ≡ pairs_before_block c.args.self.now i + _ = omega (arith, start_none cmp b) in
    found_fore cmp c.args.self.now i b c.tree.ensures.pairs (pairs_before_block c.args.self.now i) c.next.result Unbounded starts answer c.in-Some.pair c.in-Some.is c.next.new.self moved
