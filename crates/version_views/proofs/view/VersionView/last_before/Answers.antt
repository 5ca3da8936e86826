use Rattle.std.proofs.Common.{◌+◌, ◌-◌, ◌≡◌, ap, ◌∙◌, sym, arith}
use Rattle.std.specs.declared.ops.Bound.TheVariants.{Unbounded}
use Rattle.tree_index.proofs.InsertionPointLemmas.{end_none}
use Rattle.tree_index.specs.Cursor.{moved_back, next_back_of, up_to_end}
use Rattle.version_views.specs.CursorEnds.{pairs_before_block}
use Rattle.version_views.proofs.CursorEndLemmas.{block_some, found_rear, none_rear}
use Rattle.version_views.proofs.PlaceLemmas.{next_before}
use Rattle.version_views.proofs.view.VersionView.last_before.Goals as goal

pub unreachable-requires : goal.unreachable-requires
unreachable-requires g c =
    let cmp = g.K.Ord.cmp in
    let b = c.tree.result.now.pairs in
    let i = c.args.segment - 1 in
    let answer = c.next_back.ensures.steps.0 ∙ ap (next_back_of cmp) c.iter-cursor.ensures.cursor in
    let none = none_rear cmp c.args.self.now i b c.tree.ensures.pairs 0 c.next_back.result Unbounded answer c.in-None.is in
    let some = block_some cmp c.args.self.now i b c.requires.rising c.tree.ensures.pairs in
    omega (arith, none, some, end_none cmp b)

pub returns-clause-some : goal.returns-clause-some
returns-clause-some g c =
    let cmp = g.K.Ord.cmp in
    let blocks = c.args.self.now in
    let b = c.tree.result.now.pairs in
    let i = c.args.segment - 1 in
    let answer = c.next_back.ensures.steps.0 ∙ ap (next_back_of cmp) c.iter-cursor.ensures.cursor in
    let moved = c.next_back.ensures.steps.1 ∙ ap (moved_back cmp) c.iter-cursor.ensures.cursor in
    let one : i + 1 ≡ c.args.segment = omega (arith, c.if-segment-eq0.false) in
    let ends : pairs_before_block blocks c.args.segment ≡ pairs_before_block blocks i + up_to_end cmp Unbounded b = sym (ap (pairs_before_block blocks) one) ∙ next_before blocks i b c.tree.ensures.pairs ∙ ap (λ n. pairs_before_block blocks i + n) (sym (end_none cmp b)) in
    found_rear cmp blocks i b c.tree.ensures.pairs (pairs_before_block blocks c.args.segment) c.next_back.result Unbounded ends answer c.in-Some.pair c.in-Some.is c.next_back.new.self moved
