use Rattle.std.proofs.Common.{◌≡◌, ◌≤◌, ◌-◌, ◌+◌, ◌++◌, List, length, map, take, drop, ap, ◌∙◌, arith, subst}
use Rattle.std.specs.Prelude.{OnOk}
use Rattle.shared_versions.specs.Nodes.{own_segments, row_segments, segment_pairs}
use Rattle.shared_versions.proofs.SharingLemmas.{cut_in_rows, end_counted, share_pairs, share_within}
use Rattle.shared_versions.proofs.planned.share.Goals as goal

pub spot_of-spot-requires : goal.spot_of-spot-requires
spot_of-spot-requires g c =
    let d = c.args.old.now in
    let lies = c.requires.lies in
    let within = end_counted (own_segments c.args.own.now) d c.requires.whole lies.row lies.inside in
    let all = (cut_in_rows (own_segments c.args.own.now) d c.requires.whole).upto in
    omega (arith, lies.some, lies.stops, within, all)

pub offset_bounds-row-spot : goal.offset_bounds-row-spot
offset_bounds-row-spot g c =
    let within = share_within (own_segments c.args.own.now) c.args.old.now c.requires.whole c.args.from c.args.upto c.requires.lies c.spot_of-spot.result c.spot_of-spot.ensures.inside c.spot_of-spot.ensures.place c.rows.result.now c.index-rows-spot.result c.rows.ensures c.index-rows-spot.is in
    let long = ap (λ r. length (row_segments (own_segments c.args.own.now) r)) c.owners.ensures in
    let same = ap length c.segments_of-row.ensures in
    let room = c.segments_of-row.type_inv.1 in
    omega (arith, within, long, same, room)

pub slice_bounds-share_all-end : goal.slice_bounds-share_all-end
slice_bounds-share_all-end g c =
    let within = share_within (own_segments c.args.own.now) c.args.old.now c.requires.whole c.args.from c.args.upto c.requires.lies c.spot_of-spot.result c.spot_of-spot.ensures.inside c.spot_of-spot.ensures.place c.rows.result.now c.index-rows-spot.result c.rows.ensures c.index-rows-spot.is in
    let long = ap (λ r. length (row_segments (own_segments c.args.own.now) r)) c.owners.ensures in
    let same = ap length c.segments_of-row.ensures in
    let all : c.spot_of-spot.result.at + (c.args.upto - c.args.from) ≤ length c.segments_of-row.result.now = omega (arith, within, long, same) in
    all

pub returns : goal.returns
returns g c =
    let pairs = share_pairs (own_segments c.args.own.now) c.args.old.now c.requires.whole c.args.from c.args.upto c.requires.lies c.spot_of-spot.result c.spot_of-spot.ensures.inside c.spot_of-spot.ensures.place c.rows.result.now c.index-rows-spot.result c.rows.ensures c.index-rows-spot.is in
    let at = c.spot_of-spot.result.at in
    let count : at + (c.args.upto - c.args.from) - at ≡ c.args.upto - c.args.from = omega arith in
    let same = c.segments_of-row.ensures ∙ ap (row_segments (own_segments c.args.own.now)) c.owners.ensures in
    let is = ap (λ n. map segment_pairs (take n (drop at c.segments_of-row.result.now))) count ∙ ap (λ (xs : List _). map segment_pairs (take (c.args.upto - c.args.from) (drop at xs))) same ∙ pairs in
    subst (λ bs. OnOk c.share_all.result (map segment_pairs c.share_all.new.segments.items ≡ map segment_pairs c.args.segments.now.items ++ bs)) is c.share_all.ensures
