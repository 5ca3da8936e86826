use Rattle.std.proofs.Common.{◌≡◌, ◌≤◌, Some, List, length, slice_get, refl, sym, ap, ◌∙◌, subst, arith}
use Rattle.std.proofs.lemmas.Option.{slice_get-get_or, slice_get_read}
use Rattle.version_views.specs.Views.{blocks_at}
use Rattle.version_views.proofs.RowViewLemmas.{blocks_counted, greatest_in_row, greatest_of_row, row_there}
use Rattle.version_views.proofs.view.VersionView.greatest_near.Goals as goal

pub spot_near-spot-requires : goal.spot_near-spot-requires
spot_near-spot-requires g c = let count = blocks_counted c.self.invariant ∙ ap length c.self.view_is in omega (arith, c.requires, count)

pub returns-in-Some : goal.returns-in-Some
returns-in-Some g c = λ b is.
    let v = c.self.invariant in
    let d = c.self.inside.directory.now in
    let spot = c.spot_near-spot.result in
    let i = c.spot_near-spot.ensures.inside in
    let row = c.index-row.result.now in
    let here = slice_get_read d.rows.items (length d.rows.items) spot.row row refl (row_there v spot i) c.index-row.ensures in
    let block = ap (slice_get (blocks_at (g.W.Trees.owners c.self.inside.source.now) (g.W.Trees.pairs c.self.inside.source.now) d)) c.spot_near-spot.ensures.place ∙ ap (λ bs. slice_get bs c.args.place) c.self.view_is ∙ sym is in
    let found = c.in-Some.ensures.lookup in
    let key = slice_get-get_or c.keys.result.now spot.at c.in-Some.key.now found.3.0 ∙ sym (ap Some found.1) in
    sym (greatest_in_row v spot i row here b c.in-Some.key.now block (subst (λ (ks : List g.row.K.Denot). slice_get ks spot.at ≡ Some c.in-Some.key.now) c.keys.ensures key))

pub returns-in-Some-get : goal.returns-in-Some-get
returns-in-Some-get g c = λ b is.
    let v = c.self.invariant in
    let d = c.self.inside.directory.now in
    let spot = c.spot_near-spot.result in
    let i = c.spot_near-spot.ensures.inside in
    let row = c.index-row.result.now in
    let here = slice_get_read d.rows.items (length d.rows.items) spot.row row refl (row_there v spot i) c.index-row.ensures in
    let block = ap (slice_get (blocks_at (g.W.Trees.owners c.self.inside.source.now) (g.W.Trees.pairs c.self.inside.source.now) d)) c.spot_near-spot.ensures.place ∙ ap (λ bs. slice_get bs c.args.place) c.self.view_is ∙ sym is in
    let found = c.in-Some-get.ensures.lookup in
    let key = slice_get-get_or c.deref.result.now spot.row c.in-Some-get.key.now found.3.0 ∙ sym (ap Some found.1) in
    let past = c.in_default.ensures.lookup in
    sym (greatest_of_row v spot i row here b c.in-Some-get.key.now block (subst (λ (ks : List g.row.K.Denot). length ks ≤ spot.at) c.keys.ensures past.3) (subst (λ (ks : List g.row.K.Denot). slice_get ks spot.row ≡ Some c.in-Some-get.key.now) c.deref.ensures.value key))
