use Rattle.std.proofs.Common.{◌≡◌, length, ap, sym, ◌∙◌, arith, get_or, subst}
use Rattle.sdd_world.specs.Tokens.{loaded_slot}
use Rattle.sdd_world.specs.Groups.{name_of}
use Rattle.local_versions.specs.Placing.{IsStretch}
use Rattle.local_versions.proofs.RowStretchLemmas.{ends_there, place_counted, read_at, stretch_there_is, there_by_place}
use Rattle.local_versions.proofs.placing.row_of.Goals as goal

pub directory_at-dir-requires : goal.directory_at-dir-requires
directory_at-dir-requires g c =
    (omega arith, (there_by_place c.args.w.now (loaded_slot c.args.older.now) c.args.place c.requires.there c.requires.place))

pub spot_near-spot-requires : goal.spot_near-spot-requires
spot_near-spot-requires g c =
    let o = loaded_slot c.args.older.now in
    let t = there_by_place c.args.w.now o c.args.place c.requires.there c.requires.place in
    let is = c.directory_at-dir.ensures t.0 t.1 in
    place_counted c.args.w.now o t.0 c.directory_at-dir.result.now c.args.place t.1 t.2 is c.requires.place

pub bounds-rows-spot : goal.bounds-rows-spot
bounds-rows-spot g c =
    let o = loaded_slot c.args.older.now in
    let t = there_by_place c.args.w.now o c.args.place c.requires.there c.requires.place in
    let is = c.directory_at-dir.ensures t.0 t.1 in
    let ends = ends_there c.args.w.now t.0 c.directory_at-dir.result.now t.2 is in
    let count = ends.count in
    let inside = c.spot_near-spot.ensures.inside.row in
    let rows = ap length c.rows.ensures in
    omega (arith, count, inside, rows)

pub returns-clause-stretch : goal.returns-clause-stretch
returns-clause-stretch g c = λ upto lies.
    let w = c.args.w.now in
    let o = loaded_slot c.args.older.now in
    let t = there_by_place w o c.args.place c.requires.there c.requires.place in
    let dir = c.directory_at-dir.result.now in
    let is = c.directory_at-dir.ensures t.0 t.1 in
    let spot = c.spot_near-spot.result in
    let ends = ends_there w t.0 dir t.2 is in
    let count = ends.count in
    let inside = c.spot_near-spot.ensures.inside.row in
    let row = c.index-rows-spot.result in
    let here = read_at dir.rows.items spot.row row (omega (arith, count, inside)) (subst (λ rs. row ≡ get_or rs spot.row row) c.rows.ensures c.index-rows-spot.is) in
    let name = c.name.ensures ∙ ap name_of c.owners.ensures in
    subst (λ k. IsStretch w o k spot.at c.args.place upto) (sym name) (stretch_there_is w o t.0 dir t.1 t.2 is spot c.spot_near-spot.ensures.inside c.args.place c.spot_near-spot.ensures.place row here upto lies)

pub returns-clause-within : goal.returns-clause-within
returns-clause-within g c = let at = c.spot_near-spot.ensures.place in omega (arith, at)
