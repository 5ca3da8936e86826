use Rattle.std.proofs.Common.{◌≡◌, ◌<◌, Some, List, length, slice_get, refl, sym, ap, ◌∙◌, subst}
use Rattle.std.proofs.lemmas.Option.{slice_get-get_or, slice_get_read}
use Rattle.version_views.proofs.RowViewLemmas.{at_there, block_there, row_there, segment_there}
use Rattle.version_views.proofs.view.tree_at.Goals as goal

pub tree-requires : goal.tree-requires
tree-requires g c =
    let v = c.requires.view in
    let i = c.requires.inside in
    let rows = c.args.directory.now.rows.items in
    let row = slice_get_read rows (length rows) c.args.spot.row c.index.result.now refl (row_there v c.args.spot i) c.index.ensures in
    let at = at_there v c.args.spot i c.index.result.now row in
    let owner = slice_get-get_or c.owners.result.now c.args.spot.at _ (subst (λ (os : List g.row.W-Owner.Denot). c.args.spot.at < length os) (sym c.owners.ensures) at) ∙ ap Some (sym c.index-owners-spot.is) in
    segment_there v c.args.spot i c.index.result.now row c.index-owners-spot.result (subst (λ (os : List g.row.W-Owner.Denot). slice_get os c.args.spot.at ≡ Some c.index-owners-spot.result) c.owners.ensures owner)

pub returns-clause-pairs : goal.returns-clause-pairs
returns-clause-pairs g c =
    let v = c.requires.view in
    let i = c.requires.inside in
    let rows = c.args.directory.now.rows.items in
    let row = slice_get_read rows (length rows) c.args.spot.row c.index.result.now refl (row_there v c.args.spot i) c.index.ensures in
    let at = at_there v c.args.spot i c.index.result.now row in
    let owner = slice_get-get_or c.owners.result.now c.args.spot.at _ (subst (λ (os : List g.row.W-Owner.Denot). c.args.spot.at < length os) (sym c.owners.ensures) at) ∙ ap Some (sym c.index-owners-spot.is) in
    block_there v c.args.spot i c.index.result.now row c.index-owners-spot.result (subst (λ (os : List g.row.W-Owner.Denot). slice_get os c.args.spot.at ≡ Some c.index-owners-spot.result) c.owners.ensures owner) ∙ ap Some (sym c.tree.ensures.pairs)
