use Rattle.std.proofs.Common.{◌≡◌, length, map, refl, sym, ap, ◌∙◌, arith, subst}
use Rattle.sdd_world.specs.State.{placed}
use Rattle.sdd_world.specs.Tokens.{shared_slot}
use Rattle.sdd_world.specs.declared.groups.Group.{Group}
use Rattle.sdd_world.specs.declared.status.Status.TheVariants as status
use Rattle.version_views.specs.Items.{names_of, row_keys}
use Rattle.version_views.specs.declared.directory.Directory.{Directory}
use Rattle.version_views.specs.declared.item.Item.TheVariants as item
use Rattle.version_views.specs.declared.row.Row.{Row}
use Rattle.version_drafts.specs.Shelves.{made_on_all, shelf_blocks}
use Rattle.version_drafts.specs.declared.shelves.Shelf.{Shelf}
use Rattle.local_versions.specs.Placing.{AreRowsOf, StandOn, blocks_at, older_slot}
use Rattle.local_versions.specs.Rooms.{RoomsFit, new_sizes}
use Rattle.local_versions.proofs.NamingLemmas.{named_placeable, named_settled, no_name}
use Rattle.local_versions.proofs.PlacingLemmas.{keeps_refl, no_vacancy}
use Rattle.local_versions.proofs.WholePlacingLemmas.{named_room, place_whole, rows_ready}
use Rattle.local_versions.proofs.placing.place.Goals as goal

pub place_rows-rows-requires : goal.place_rows-rows-requires
place_rows-rows-requires g c =
    let cmp = g.K.Ord.cmp in
    let u = c.args.w.now in
    let v = c.room_for.new.w in
    let older = older_slot c.args.older in
    let is = c.into_parts-number.ensures ∙ c.into_shelves.ensures in
    let long = ap (λ (d : Directory _ (Shelf _ _)). length d.rows.items) is in
    let many = ap length c.rows.ensures in
    let room = c.in-Ok.ensures.rows.1 in
    let rooms = subst (λ rows. RoomsFit c.in-Ok.room.1.items (new_sizes rows)) (c.rows.ensures ∙ sym (ap (λ (d : Directory _ (Shelf _ _)). d.rows.items) is)) c.in-Ok.ensures.rooms in
    let made = ap (λ (d : Directory _ (Shelf _ _)). made_on_all d.rows.items) is in
    let named = named_room cmp u v c.in-Ok.ensures.come c.in-Ok.ensures.keeps in
    let enough = c.if-free_slots-slots.false in
    let free = c.free_slots.ensures in
    let slots = c.slots.ensures.count in
    let names = c.in-Ok.ensures.names in
    let settled = named_settled u v c.in-Ok.ensures.come c.in-Ok.ensures.keeps c.requires.settled in
    let can = named_placeable u v c.in-Ok.ensures.come c.in-Ok.ensures.keeps cmp older c.args.built c.requires.settled c.requires.placeable in
    let rows = subst (λ (d : Directory _ (Shelf _ _)). AreRowsOf cmp v older d.rows.items) (sym is) (rows_ready cmp v older c.args.built can) in
    (omega arith, (c.in-Ok.ensures.rows.0, (omega (arith, long, many, room), (rooms, (omega (arith, made, named, enough, free, slots), (omega (arith, long, many, names), (settled, rows)))))))

pub unreachable-requires : goal.unreachable-requires
unreachable-requires g c =
    let is = ap (λ (d : Directory _ (Shelf _ _)). made_on_all d.rows.items) (c.into_parts-number.ensures ∙ c.into_shelves.ensures) in
    let named = named_room g.K.Ord.cmp c.args.w.now c.room_for.new.w c.in-Ok.ensures.come c.in-Ok.ensures.keeps in
    let none = no_vacancy c.place_rows-rows.new.w.states c.in-Err-new.ensures.refused.2 in
    let all = c.place_rows-rows.ensures.placed.adds.frees in
    let room = c.if-free_slots-slots.false in
    let free = c.free_slots.ensures in
    let slots = c.slots.ensures.count in
    omega (arith, is, named, none, all, room, free, slots)

pub returns-clause-placed : goal.returns-clause-placed
returns-clause-placed g c =
    let cmp = g.K.Ord.cmp in
    let u = c.args.w.now in
    let u1 = c.room_for.new.w in
    let v = c.place_rows-rows.new.w in
    let older = older_slot c.args.older in
    let root = shared_slot c.in-Ok-new.root in
    let rows = c.place_rows-rows.result in
    let is = c.into_parts-number.ensures ∙ c.into_shelves.ensures in
    let stand = subst (λ (d : Directory _ (Shelf _ _)). StandOn (made_on_all d.rows.items) (names_of rows.items) (map (λ (r : Row _ (Shelf _ _)). shelf_blocks (blocks_at u1 older) r.segments) d.rows.items) u1 v) is c.place_rows-rows.ensures.placed in
    let keys = subst (λ (d : Directory _ (Shelf _ _)). map row_keys rows.items ≡ map row_keys d.rows.items) is c.place_rows-rows.ensures.keys in
    let same = c.new-directory.ensures ∙ ap (λ (d : Directory _ (Shelf _ _)). record { number = d.number; length = d.length; rows = rows; separators = d.separators; ends = d.ends }) is in
    let put = c.in-Ok-new.ensures.placed.1 ∙ ap (λ (d : Directory _ Group). placed root (item.Directory d) (status.Shared 1) v) same in
    place_whole cmp g.met.K.Ord.total u u1 v c.new.new.w older c.args.built root rows c.requires.settled c.requires.placeable c.in-Ok.ensures.come c.in-Ok.ensures.keeps stand keys c.laws.ensures c.in-Ok-new.ensures.placed.0 put c.in-Ok-new.ensures.keeps

pub returns-clause-keeps : goal.returns-clause-keeps
returns-clause-keeps g c = (returns-clause-placed g c).adds.keeps

-- nothing has come yet
pub returns-then-free_slots-slots-clause-refused : goal.returns-then-free_slots-slots-clause-refused
returns-then-free_slots-slots-clause-refused g c = no_name c.args.w.now

pub returns-then-free_slots-slots-clause-keeps : goal.returns-then-free_slots-slots-clause-keeps
returns-then-free_slots-slots-clause-keeps g c = keeps_refl c.args.w.now

pub returns-then-free_slots-slots-clause-same : goal.returns-then-free_slots-slots-clause-same
returns-then-free_slots-slots-clause-same g c = λ e. refl
