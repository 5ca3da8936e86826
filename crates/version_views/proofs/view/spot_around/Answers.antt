use Rattle.std.proofs.Common.{◌≤◌, ◌+◌, ◌*◌, ◌-◌, ◌^◌, List, length, refl, subst, arith}
use Rattle.std.proofs.lemmas.Option.{slice_get_read}
use Rattle.version_views.specs.SeparatorSearch.{IsPlaceOf}
use Rattle.version_views.proofs.RowViewLemmas.{found_cost, found_inside, found_place, row_found}
use Rattle.version_views.proofs.view.spot_around.Goals as goal

pub returns-clause-inside : goal.returns-clause-inside
returns-clause-inside g c =
    let v = c.requires.view in
    let key = c.args.key.now in
    let rows = c.args.directory.now.rows.items in
    let row = c.place_of_counted-row.result in
    let found = subst (λ (ks : List g.row.K.Denot). IsPlaceOf g.K.Ord.cmp key ks row) c.deref.ensures.value c.place_of_counted-row.ensures.place in
    let here = slice_get_read rows (length rows) row c.index.result.now refl (row_found v key row found c.requires.some) c.index.ensures in
    let inner = subst (λ (ks : List g.row.K.Denot). IsPlaceOf g.K.Ord.cmp key ks c.place_of_counted-at.result) c.keys.ensures c.place_of_counted-at.ensures.place in
    found_inside v key row found c.requires.some c.index.result.now here c.place_of_counted-at.result inner

pub returns-clause-place : goal.returns-clause-place
returns-clause-place g c =
    let v = c.requires.view in
    let key = c.args.key.now in
    let rows = c.args.directory.now.rows.items in
    let row = c.place_of_counted-row.result in
    let found = subst (λ (ks : List g.row.K.Denot). IsPlaceOf g.K.Ord.cmp key ks row) c.deref.ensures.value c.place_of_counted-row.ensures.place in
    let here = slice_get_read rows (length rows) row c.index.result.now refl (row_found v key row found c.requires.some) c.index.ensures in
    let inner = subst (λ (ks : List g.row.K.Denot). IsPlaceOf g.K.Ord.cmp key ks c.place_of_counted-at.result) c.keys.ensures c.place_of_counted-at.ensures.place in
    found_place v key row found c.requires.some c.index.result.now here c.place_of_counted-at.result inner

-- one search after the other
pub returns-clause-cost : goal.returns-clause-cost
returns-clause-cost g c = λ digits fits.
    let v = c.requires.view in
    let key = c.args.key.now in
    let rows = c.args.directory.now.rows.items in
    let row = c.place_of_counted-row.result in
    let found = subst (λ (ks : List g.row.K.Denot). IsPlaceOf g.K.Ord.cmp key ks row) c.deref.ensures.value c.place_of_counted-row.ensures.place in
    let here = slice_get_read rows (length rows) row c.index.result.now refl (row_found v key row found c.requires.some) c.index.ensures in
    let inner = subst (λ (ks : List g.row.K.Denot). IsPlaceOf g.K.Ord.cmp key ks c.place_of_counted-at.result) c.keys.ensures c.place_of_counted-at.ensures.place in
    let first = c.place_of_counted-row.new.steps.count - c.args.steps.now.count in
    let second = c.place_of_counted-at.new.steps.count - c.place_of_counted-row.new.steps.count in
    let one = subst (λ (ks : List g.row.K.Denot). 2 ^ first ≤ 2 * length ks + 1) c.deref.ensures.value c.place_of_counted-row.ensures.cost in
    let two = subst (λ (ks : List g.row.K.Denot). 2 ^ second ≤ 2 * length ks + 1) c.keys.ensures c.place_of_counted-at.ensures.cost in
    let both = found_cost v key row found c.requires.some c.index.result.now here c.place_of_counted-at.result inner first second one two digits fits in
    omega (arith, both, c.place_of_counted-row.ensures.raised, c.place_of_counted-at.ensures.raised)
