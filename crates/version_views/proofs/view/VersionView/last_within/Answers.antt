use Rattle.std.proofs.Common.{◌-◌, ◌≡◌, ap, ◌∙◌, arith, subst}
use Rattle.std.specs.Prelude.{IfSome, IfNone}
use Rattle.std.specs.Borrow.{Bor}
use Rattle.std.specs.Range.Bound.{bound_map}
use Rattle.std.specs.declared.ops.Bound.TheVariants.{Unbounded}
use Rattle.tree_index.specs.Cursor.{Cursor, moved_back, next_back_of, up_to_end}
use Rattle.version_views.specs.Cuts.{pairs_in}
use Rattle.version_views.specs.CursorEnds.{pairs_before_block, IsRearAt, IsPairAt}
use Rattle.version_views.proofs.CursorEndLemmas.{found_rear, none_rear}
use Rattle.version_views.proofs.view.VersionView.last_within.Goals as goal

pub returns-in-Some-clause-some : goal.returns-in-Some-clause-some
returns-in-Some-clause-some g c =
    let cmp = g.K.Ord.cmp in
    let blocks = c.args.self.now in
    let b = c.tree.result.now.pairs in
    let upper = bound_map (λ (k : Bor g.row.K.Denot). k.now) c.args.upper in
    let answer = c.next_back.ensures.steps.0 ∙ ap (next_back_of cmp) c.range-range.ensures.cursor in
    let moved = c.next_back.ensures.steps.1 ∙ ap (moved_back cmp) c.range-range.ensures.cursor in
    let ends = c.place_upto-segment.ensures.place b c.tree.ensures.pairs in
    let kept = c.from-cursor.ensures ∙ ap (λ (r : Cursor g.row.K.Denot g.row.V.Denot). record r { lower = Unbounded; upper = Unbounded }) moved in
    found_rear cmp blocks c.place_upto-segment.result b c.tree.ensures.pairs (up_to_end cmp upper (pairs_in blocks)) c.next_back.result upper ends answer c.in-Some.pair c.in-Some.is c.from-cursor.result kept

-- the pairs of the segment all lie behind the bound
abbrev same_place : (g : _) (c : goal.After-last_before g) → pairs_before_block c.args.self.now c.place_upto-segment.result ≡ up_to_end g.K.Ord.cmp (bound_map (λ k. k.now) c.args.upper) (pairs_in c.args.self.now)
same_place g c =
    let cmp = g.K.Ord.cmp in
    let blocks = c.args.self.now in
    let b = c.tree.result.now.pairs in
    let i = c.place_upto-segment.result in
    let upper = bound_map (λ (k : Bor g.row.K.Denot). k.now) c.args.upper in
    let answer = c.next_back.ensures.steps.0 ∙ ap (next_back_of cmp) c.range-range.ensures.cursor in
    let ends = c.place_upto-segment.ensures.place b c.tree.ensures.pairs in
    let none = none_rear cmp blocks i b c.tree.ensures.pairs 0 c.next_back.result upper answer c.in-None.is in
    omega (arith, ends, none)

pub returns-in-None-clause-some : goal.returns-in-None-clause-some
returns-in-None-clause-some g c = subst (λ n. IfSome c.last_before.result (λ f. IsRearAt c.args.self.now n f.0 × IsPairAt c.args.self.now (n - 1) f.1)) (same_place g c) c.last_before.ensures.some

pub returns-in-None-clause-none : goal.returns-in-None-clause-none
returns-in-None-clause-none g c = subst (λ n. IfNone c.last_before.result (n ≡ 0)) (same_place g c) c.last_before.ensures.none
