use Rattle.std.proofs.Common.{◌≡◌, ◌+◌, ◌-◌, List, Some, sym, subst, arith}
use Rattle.std.specs.Prelude.{slice_get}
use Rattle.std.specs.Borrow.{Bor}
use Rattle.std.specs.declared.ops.Bound.{Bound}
use Rattle.std.specs.Range.Bound.{bound_map}
use Rattle.tree_index.specs.Cursor.{up_to_end}
use Rattle.version_views.specs.Cuts.{pairs_in}
use Rattle.version_views.specs.CursorEnds.{pairs_before_block}
use Rattle.version_views.proofs.PlaceLemmas.{end_at_included, end_at_excluded, end_last}
use Rattle.version_views.proofs.view.VersionView.place_upto.Goals as goal

pub returns-in-Included-clause-place : goal.returns-in-Included-clause-place
returns-in-Included-clause-place g c =
    let blocks = c.args.self.now in
    let cmp = g.K.Ord.cmp in
    let Parts : Bound (Bor g.row.K.Denot) → Type 0 = λ upper. (b : List (g.row.K.Denot × g.row.V.Denot)) → slice_get blocks c.around.result ≡ Some b → up_to_end cmp (bound_map (λ k. k.now) upper) (pairs_in blocks) ≡ pairs_before_block blocks c.around.result + up_to_end cmp (bound_map (λ k. k.now) upper) b in
    subst Parts (sym c.in-Included.is) (λ b here. end_at_included cmp g.met.K.Ord.total c.in-Included.key.now blocks c.around.result c.around.ensures b here)

pub returns-in-Excluded-clause-place : goal.returns-in-Excluded-clause-place
returns-in-Excluded-clause-place g c =
    let blocks = c.args.self.now in
    let cmp = g.K.Ord.cmp in
    let Parts : Bound (Bor g.row.K.Denot) → Type 0 = λ upper. (b : List (g.row.K.Denot × g.row.V.Denot)) → slice_get blocks c.around-in-Excluded.result ≡ Some b → up_to_end cmp (bound_map (λ k. k.now) upper) (pairs_in blocks) ≡ pairs_before_block blocks c.around-in-Excluded.result + up_to_end cmp (bound_map (λ k. k.now) upper) b in
    subst Parts (sym c.in-Excluded.is) (λ b here. end_at_excluded cmp g.met.K.Ord.total c.in-Excluded.key.now blocks c.around-in-Excluded.result c.around-in-Excluded.ensures b here)

pub returns-in-Unbounded-clause-place : goal.returns-in-Unbounded-clause-place
returns-in-Unbounded-clause-place g c =
    let blocks = c.args.self.now in
    let cmp = g.K.Ord.cmp in
    let Parts : Bound (Bor g.row.K.Denot) → Type 0 = λ upper. (b : List (g.row.K.Denot × g.row.V.Denot)) → slice_get blocks (c.segment_count.result - 1) ≡ Some b → up_to_end cmp (bound_map (λ k. k.now) upper) (pairs_in blocks) ≡ pairs_before_block blocks (c.segment_count.result - 1) + up_to_end cmp (bound_map (λ k. k.now) upper) b in
    subst Parts (sym c.in-Unbounded.is) (λ b here. end_last cmp blocks b (c.segment_count.result - 1) here (omega (arith, c.segment_count.ensures, c.requires)))
