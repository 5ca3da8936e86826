use Rattle.std.proofs.Common.{◌≡◌, ◌+◌, List, Some, sym, subst}
use Rattle.std.specs.Prelude.{slice_get}
use Rattle.std.specs.Borrow.{Bor}
use Rattle.std.specs.declared.ops.Bound.{Bound}
use Rattle.std.specs.Range.Bound.{bound_map}
use Rattle.tree_index.specs.Cursor.{before_start}
use Rattle.version_views.specs.Cuts.{pairs_in}
use Rattle.version_views.specs.CursorEnds.{pairs_before_block}
use Rattle.version_views.proofs.PlaceLemmas.{start_included, start_excluded, start_first}
use Rattle.version_views.proofs.view.VersionView.place_from.Goals as goal

pub returns-in-Included-clause-place : goal.returns-in-Included-clause-place
returns-in-Included-clause-place g c =
    let blocks = c.args.self.now in
    let cmp = g.K.Ord.cmp in
    let Parts : Bound (Bor g.row.K.Denot) → Type 0 = λ lower. (b : List (g.row.K.Denot × g.row.V.Denot)) → slice_get blocks c.around.result ≡ Some b → before_start cmp (bound_map (λ k. k.now) lower) (pairs_in blocks) ≡ pairs_before_block blocks c.around.result + before_start cmp (bound_map (λ k. k.now) lower) b in
    subst Parts (sym c.in-Included.is) (λ b here. start_included cmp g.met.K.Ord.total c.in-Included.key.now blocks c.around.result c.around.ensures b here)

pub returns-in-Excluded-clause-place : goal.returns-in-Excluded-clause-place
returns-in-Excluded-clause-place g c =
    let blocks = c.args.self.now in
    let cmp = g.K.Ord.cmp in
    let Parts : Bound (Bor g.row.K.Denot) → Type 0 = λ lower. (b : List (g.row.K.Denot × g.row.V.Denot)) → slice_get blocks c.around-in-Excluded.result ≡ Some b → before_start cmp (bound_map (λ k. k.now) lower) (pairs_in blocks) ≡ pairs_before_block blocks c.around-in-Excluded.result + before_start cmp (bound_map (λ k. k.now) lower) b in
    subst Parts (sym c.in-Excluded.is) (λ b here. start_excluded cmp g.met.K.Ord.total c.in-Excluded.key.now blocks c.around-in-Excluded.result c.around-in-Excluded.ensures b here)

pub returns-in-Unbounded-clause-place : goal.returns-in-Unbounded-clause-place
returns-in-Unbounded-clause-place g c =
    let blocks = c.args.self.now in
    let cmp = g.K.Ord.cmp in
    let Parts : Bound (Bor g.row.K.Denot) → Type 0 = λ lower. (b : List (g.row.K.Denot × g.row.V.Denot)) → slice_get blocks 0 ≡ Some b → before_start cmp (bound_map (λ k. k.now) lower) (pairs_in blocks) ≡ pairs_before_block blocks 0 + before_start cmp (bound_map (λ k. k.now) lower) b in
    subst Parts (sym c.in-Unbounded.is) (λ b here. start_first cmp blocks b here)
