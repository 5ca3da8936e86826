use Rattle.std.proofs.Common.{◌+◌, ◌≡◌, ap, ◌∙◌, arith, length, subst}
use Rattle.std.specs.Prelude.{IfSome, IfNone}
use Rattle.std.specs.Borrow.{Bor}
use Rattle.std.specs.Range.Bound.{bound_map}
use Rattle.std.specs.declared.ops.Bound.TheVariants.{Unbounded}
use Rattle.tree_index.specs.Cursor.{Cursor, before_start, moved_forth, next_of}
use Rattle.tree_index.proofs.InsertionPointLemmas.{start_all}
use Rattle.version_views.specs.Cuts.{pairs_in}
use Rattle.version_views.specs.CursorEnds.{pairs_before_block, IsForeAt, IsPairAt}
use Rattle.version_views.proofs.CursorEndLemmas.{found_fore, none_fore}
use Rattle.version_views.proofs.PlaceLemmas.{next_before}
use Rattle.version_views.proofs.view.VersionView.first_within.Goals as goal

pub returns-in-Some-clause-some : goal.returns-in-Some-clause-some
returns-in-Some-clause-some g c =
    let cmp = g.K.Ord.cmp in
    let blocks = c.args.self.now in
    let b = c.tree.result.now.pairs in
    let lower = bound_map (λ (k : Bor g.row.K.Denot). k.now) c.args.lower in
    let answer = c.next.ensures.steps.0 ∙ ap (next_of cmp) c.range-range.ensures.cursor in
    let moved = c.next.ensures.steps.1 ∙ ap (moved_forth cmp) c.range-range.ensures.cursor in
    let starts = c.place_from-segment.ensures.place b c.tree.ensures.pairs in
    let kept = c.from-cursor.ensures ∙ ap (λ (r : Cursor g.row.K.Denot g.row.V.Denot). record r { lower = Unbounded; upper = Unbounded }) moved in
    found_fore cmp blocks c.place_from-segment.result b c.tree.ensures.pairs (before_start cmp lower (pairs_in blocks)) c.next.result lower starts answer c.in-Some.pair c.in-Some.is c.from-cursor.result kept

-- the pairs of the segment all lie before the bound
abbrev same_place : (g : _) (c : goal.After-first_behind g) → pairs_before_block c.args.self.now (c.place_from-segment.result + 1) ≡ before_start g.K.Ord.cmp (bound_map (λ k. k.now) c.args.lower) (pairs_in c.args.self.now)
same_place g c =
    let cmp = g.K.Ord.cmp in
    let blocks = c.args.self.now in
    let b = c.tree.result.now.pairs in
    let i = c.place_from-segment.result in
    let lower = bound_map (λ (k : Bor g.row.K.Denot). k.now) c.args.lower in
    let answer = c.next.ensures.steps.0 ∙ ap (next_of cmp) c.range-range.ensures.cursor in
    let starts = c.place_from-segment.ensures.place b c.tree.ensures.pairs in
    let none = none_fore cmp blocks i b c.tree.ensures.pairs 0 c.next.result lower answer c.in-None.is in
    omega (arith, starts, none, start_all cmp lower b, next_before blocks i b c.tree.ensures.pairs)

pub returns-in-None-clause-some : goal.returns-in-None-clause-some
returns-in-None-clause-some g c = subst (λ n. IfSome c.first_behind.result (λ f. IsForeAt c.args.self.now n f.0 × IsPairAt c.args.self.now n f.1)) (same_place g c) c.first_behind.ensures.some

pub returns-in-None-clause-none : goal.returns-in-None-clause-none
returns-in-None-clause-none g c = subst (λ n. IfNone c.first_behind.result (n ≡ length (pairs_in c.args.self.now))) (same_place g c) c.first_behind.ensures.none
