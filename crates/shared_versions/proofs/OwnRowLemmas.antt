-- Rows that a version has itself, when more are put behind them.
use Rattle.std.proofs.Common.{◌≡◌, List, [], ◌∷◌, ◌++◌, map, refl, sym, ap, ◌∙◌, subst, arith, length-append}
use Rattle.std.specs.Global.{Global}
use Rattle.std.specs.List.{All}
use Rattle.std.specs.declared.sync.Arc.{Arc}
use Rattle.std.proofs.lemmas.List.{get_or_append_left}
use Rattle.std.proofs.lemmas.List.Elements.{All-head, All-tail, All-weaker}
use Rattle.tree_index.specs.Tree.{Tree}
use Rattle.version_views.specs.declared.row.Row.{Row}
use Rattle.shared_versions.specs.Nodes.{OwnsRow, row_segments, segment_pairs}
use Rattle.shared_versions.specs.Placing.{Continues, owner_face, row_face}
use Rattle.shared_versions.specs.declared.node.RowOwner.{RowOwner}
use Rattle.shared_versions.specs.declared.node.RowOwner.TheVariants as owners

module _ {K V : Type 0} (own more : List (List (Arc (Tree K V) Global))) where
  -- a row that was there is there, with the same segments
  still_owns : (row : RowOwner K V) → OwnsRow own row → OwnsRow (own ++ more) row
  still_owns (owners.Item h) is = is
  still_owns (owners.Own at) is = omega (arith, is, length-append own more)

  same_segments : (row : RowOwner K V) → OwnsRow own row → row_segments (own ++ more) row ≡ row_segments own row
  same_segments (owners.Item h) is = refl
  same_segments (owners.Own at) is = get_or_append_left own more [] at is

  same_faces : (rows : List (Row K (RowOwner K V))) → All (λ r. OwnsRow own r.segments) rows → map (row_face (owner_face (own ++ more))) rows ≡ map (row_face (owner_face own)) rows
  same_faces [] all = refl
  same_faces (row ∷ rows) all =
      let here = All-head (λ (r : Row K (RowOwner K V)). OwnsRow own r.segments) row rows all in
      let rest = All-tail (λ (r : Row K (RowOwner K V)). OwnsRow own r.segments) row rows all in
      ap (λ f. f ∷ map (row_face (owner_face (own ++ more))) rows) (ap (λ s. row_face (λ _. (map segment_pairs s, (owner_face own row.segments).1)) row) (same_segments row.segments here))
      ∙ ap (λ fs. row_face (owner_face own) row ∷ fs) (same_faces rows rest)

module _ {K V : Type 0} (own now : List (List (Arc (Tree K V) Global))) (goes : Continues own now) (rows : List (Row K (RowOwner K V))) (all : All (λ r. OwnsRow own r.segments) rows) where
  pub faces_still : map (row_face (owner_face now)) rows ≡ map (row_face (owner_face own)) rows
  faces_still = ap (λ o. map (row_face (owner_face o)) rows) goes.1 ∙ same_faces own goes.0 rows all

  pub owned_still : All (λ r. OwnsRow now r.segments) rows
  owned_still = subst (λ o. All (λ (r : Row K (RowOwner K V)). OwnsRow o r.segments) rows) (sym goes.1) (All-weaker (λ (r : Row K (RowOwner K V)). OwnsRow own r.segments) (λ r. OwnsRow (own ++ goes.0) r.segments) (λ r is. still_owns own goes.0 r.segments is) rows all)
