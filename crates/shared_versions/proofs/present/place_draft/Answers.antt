use Rattle.std.proofs.Common.{◌≡◌, length, map, reverse, sym, ap, ◌∙◌, subst, arith}
use Rattle.std.specs.List.{All, AllPairs}
use Rattle.std.proofs.lemmas.List.{length-map, length-reverse}
use Rattle.version_views.specs.declared.directory.Directory.{Directory}
use Rattle.version_views.specs.declared.row.Row.{Row}
use Rattle.shared_versions.specs.Nodes.{OwnsRow, own_segments, rows_of}
use Rattle.shared_versions.specs.Placing.{AreApart, IsToKeep, blocks_kept, blocks_to_keep, granted_face, moved_from, owner_face, planned_face, row_face, sight_in, sight_kept, taken_from}
use Rattle.shared_versions.specs.Sight.{Sight}
use Rattle.shared_versions.proofs.DirectoryLemmas.{placed_alike, planned_whole}
use Rattle.shared_versions.proofs.MovingLemmas.{all_new}
use Rattle.shared_versions.proofs.PresentLemmas.{owned_version, placed_present, planned_apart}
use Rattle.shared_versions.proofs.present.place_draft.Goals as goal

-- each row has been granted, and each has room
pub hold_rows-rows-requires-clause-room : goal.hold_rows-rows-requires-clause-room
hold_rows-rows-requires-clause-room g c =
    let many = ap length c.in-Some.ensures.faces in
    let rows = c.into_parts-shelves.result.0.rows.items in
    let named = map blocks_kept c.args.kept.now.items in
    let granted = length-map c.in-Some.granted.items (row_face granted_face) in
    let turned = length-reverse (map (row_face granted_face) c.in-Some.granted.items) in
    let same = ap (λ (d : Directory _ _). length d.rows.items) c.into_parts-number.ensures in
    let planned = length-map c.into_parts-number.result.2.items (row_face (planned_face named)) in
    (omega (arith, many, granted, turned, same, planned, c.into_parts-shelves.ensures.room.rows), omega (arith, many, granted, turned, same, planned, c.into_parts-shelves.ensures.room.own))

pub new-requires : goal.new-requires
new-requires g c =
    let is = c.new-directory.ensures in
    let same = c.into_parts-number.ensures ∙ c.into_parts-shelves.ensures.shelves in
    let faces = c.hold_rows-rows.ensures.faces ∙ c.in-Some.ensures.faces in
    (planned_whole (own_segments c.hold_rows-rows.result.1.items) g.K.Ord.cmp g.row.S (sight_kept c.args.kept.now.items) c.args.draft c.new-directory.result c.requires.placeable
    (subst (λ (d : Directory _ _). All (λ (r : Row _ _). OwnsRow (own_segments c.hold_rows-rows.result.1.items) r.segments) d.rows.items) (sym is) c.hold_rows-rows.ensures.owned)
    (ap (λ (d : Directory _ _). map (row_face (owner_face (own_segments c.hold_rows-rows.result.1.items))) d.rows.items) is ∙ faces ∙ ap (λ (d : Directory _ _). map (row_face (planned_face (map blocks_kept c.args.kept.now.items))) d.rows.items) same)
    (ap (λ (d : Directory _ _). d.separators.items) is ∙ ap (λ (d : Directory _ _). d.separators.items) same)
    (ap (λ (d : Directory _ _). d.ends.items) is ∙ ap (λ (d : Directory _ _). d.ends.items) same)
    (ap (λ (d : Directory _ _). d.length) is ∙ ap (λ (d : Directory _ _). d.length) same)).0

pub keep_all-requires-clause-to_keep : goal.keep_all-requires-clause-to_keep
keep_all-requires-clause-to_keep g c =
    let place = c.args.domain.now.table.shared.table_id in
    let kept = c.args.kept.now.items in
    let now = c.grant_all.new.kept.items in
    let many = sym (length-map kept blocks_kept) ∙ (sym (ap length c.grant_all.ensures.still) ∙ length-map now blocks_kept) in
    subst (λ n. All (IsToKeep place n) c.in-Some.to_keep.items) many c.in-Some.ensures.to_keep

pub keep_all-requires-clause-apart : goal.keep_all-requires-clause-apart
keep_all-requires-clause-apart g c =
    let same = c.into_parts-number.ensures ∙ c.into_parts-shelves.ensures.shelves in
    let from = c.in-Some.ensures.from ∙ ap (λ (d : Directory _ _). map (λ (r : Row _ _). taken_from r.segments) d.rows.items) same in
    subst (AllPairs AreApart) (sym from) (planned_apart g.K.Ord.cmp g.met.K.Ord.total g.row.S (sight_kept c.args.kept.now.items) c.args.draft c.requires.placeable)

pub keep_all-requires-clause-room : goal.keep_all-requires-clause-room
keep_all-requires-clause-room g c =
    let many = ap length c.in-Some.ensures.from in
    let moved = length-map c.in-Some.to_keep.items moved_from in
    let turned = length-reverse (map moved_from c.in-Some.to_keep.items) in
    let same = ap (λ (d : Directory _ _). length d.rows.items) c.into_parts-number.ensures in
    let planned = length-map c.into_parts-number.result.2.items (λ (r : Row _ _). taken_from r.segments) in
    omega (arith, many, moved, turned, same, planned, c.into_parts-shelves.ensures.room.kept)

pub release_new-requires-clause-new : goal.release_new-requires-clause-new
release_new-requires-clause-new g c = all_new c.args.domain.now.table.shared.table_id (length c.args.kept.now.items) c.in-Some.to_keep.items c.in-Some.ensures.to_keep

-- the version has the pairs that were planned
pub returns-in-Ok-clause-made : goal.returns-in-Ok-clause-made
returns-in-Ok-clause-made g c =
    let sight = c.new.ensures in
    let is = c.new-directory.ensures in
    let same = c.into_parts-number.ensures ∙ c.into_parts-shelves.ensures.shelves in
    let faces = c.hold_rows-rows.ensures.faces ∙ c.in-Some.ensures.faces in
    let planned = planned_whole (own_segments c.hold_rows-rows.result.1.items) g.K.Ord.cmp g.row.S (sight_kept c.args.kept.now.items) c.args.draft c.new-directory.result c.requires.placeable
    (subst (λ (d : Directory _ _). All (λ (r : Row _ _). OwnsRow (own_segments c.hold_rows-rows.result.1.items) r.segments) d.rows.items) (sym is) c.hold_rows-rows.ensures.owned)
    (ap (λ (d : Directory _ _). map (row_face (owner_face (own_segments c.hold_rows-rows.result.1.items))) d.rows.items) is ∙ faces ∙ ap (λ (d : Directory _ _). map (row_face (planned_face (map blocks_kept c.args.kept.now.items))) d.rows.items) same)
    (ap (λ (d : Directory _ _). d.separators.items) is ∙ ap (λ (d : Directory _ _). d.separators.items) same)
    (ap (λ (d : Directory _ _). d.ends.items) is ∙ ap (λ (d : Directory _ _). d.ends.items) same)
    (ap (λ (d : Directory _ _). d.length) is ∙ ap (λ (d : Directory _ _). d.length) same) in
    let made = ap sight_in (owned_version c.in-Ok.both.0 c.new.result c.in-Ok.ensures.item.0) in
    record {
      number = ap (λ (v : Sight _ _). v.number) (made ∙ sight) ∙ (ap (λ (d : Directory _ _). d.number) is ∙ ap (λ (d : Directory _ _). d.number) same);
      width = ap (λ (v : Sight _ _). v.width) (made ∙ sight);
      blocks = ap (λ (v : Sight _ _). v.blocks) (made ∙ sight) ∙ planned.1;
    }

-- what is kept are its rows
pub returns-in-Ok-clause-present : goal.returns-in-Ok-clause-present
returns-in-Ok-clause-present g c =
    let place = c.args.domain.now.table.shared.table_id in
    let sight = c.new.ensures in
    let is = c.new-directory.ensures in
    let named = map blocks_kept c.args.kept.now.items in
    let all = c.grant_all.ensures in
    let rows = c.hold_rows-rows.result.0.items in
    let planned = c.into_parts-number.result.2.items in
    let faces = c.hold_rows-rows.ensures.faces ∙ c.in-Some.ensures.faces in
    let placed = placed_alike (owner_face (own_segments c.hold_rows-rows.result.1.items)) (planned_face named) rows planned faces in
    let stays = ap (λ bs. reverse (map (blocks_to_keep bs) c.in-Some.to_keep.items)) all.still in
    let blocks = c.keep_all.ensures.blocks ∙ stays ∙ c.in-Some.ensures.blocks ∙ sym placed ∙ sym (ap rows_of is) ∙ sym (ap (λ (v : Sight _ _). v.rows) sight) in
    placed_present g.row.S place c.in-Ok.both.0 c.new.result c.keep_all.new.kept.items c.in-Ok.ensures.home.0 c.in-Ok.ensures.item.0 (ap (λ (v : Sight _ _). v.width) sight) blocks c.keep_all.ensures.kept
