use Rattle.std.proofs.Common.{◌≡◌, ◌<◌, ◌++◌, Some, get_or, length, sym, ap, arith, subst}
use Rattle.std.specs.List.{All}
use Rattle.sdd_world.specs.Groups.{name_of}
use Rattle.version_drafts.specs.Shelves.{made_on, shelf_blocks}
use Rattle.local_versions.specs.Placing.{CanBeRaised, CanPlace, HasOlder, StandsOn, blocks_at, names_at, older_slot}
use Rattle.local_versions.specs.Rooms.{RoomsFit, new_size}
use Rattle.local_versions.proofs.PlaceableRowLemmas.{has_rows}
use Rattle.local_versions.proofs.RaisingLemmas.{row_inside, row_raised}
use Rattle.local_versions.proofs.RowRoomLemmas.{room_last}
use Rattle.local_versions.proofs.placing.place_row.Goals as goal

pub raise_row-requires : goal.raise_row-requires
raise_row-requires g c =
    let cmp = g.K.Ord.cmp in
    let w = c.args.w.now in
    let can = subst (λ s. CanPlace cmp w (older_slot c.args.older) s) c.in-Older.is c.requires.there in
    let there = has_rows cmp w (older_slot (Some c.in-Some.at)) (subst (λ o. HasOlder cmp w (older_slot o)) c.in-Some.is can.there) in
    let row = subst (λ o. c.in-Older.row < length (names_at w (older_slot o))) c.in-Some.is (row_inside cmp w (older_slot c.args.older) c.in-Older.row _ _ can) in
    let raised = subst (λ o. All (CanBeRaised w) (names_at w (older_slot o))) c.in-Some.is can.raised in
    (omega arith, (there, (row, raised)))

pub unreachable-requires : goal.unreachable-requires
unreachable-requires g c =
    let cmp = g.K.Ord.cmp in
    let can = subst (λ s. CanPlace cmp c.args.w.now (older_slot c.args.older) s) c.in-Older.is c.requires.there in
    let inside = subst (λ o. c.in-Older.row < length (names_at c.args.w.now (older_slot o))) c.in-None.is (row_inside cmp c.args.w.now (older_slot c.args.older) c.in-Older.row _ _ can) in
    omega (arith, inside)

pub returns-in-Some-clause-stands : goal.returns-in-Some-clause-stands
returns-in-Some-clause-stands g c =
    let cmp = g.K.Ord.cmp in
    let u = c.args.w.now in
    let w = c.raise_row.new.w in
    let older = older_slot c.args.older in
    let can = subst (λ s. CanPlace cmp u older s) c.in-Older.is c.requires.there in
    let name = subst (λ o. name_of c.raise_row.result ≡ get_or (names_at u (older_slot o)) c.in-Older.row 0) (sym c.in-Some.is) c.raise_row.ensures.name in
    subst (λ s. StandsOn (made_on s) (name_of c.raise_row.result) (shelf_blocks (blocks_at u older) s) u w) (sym c.in-Older.is) (row_raised cmp u w older c.in-Older.row _ _ can (name_of c.raise_row.result) name c.raise_row.ensures.raised c.raise_row.ensures.keeps)

pub place_new-requires : goal.place_new-requires
place_new-requires g c =
    let shelf = c.in-New.is in
    let more = c.requires.fits.0 in
    let old = c.args.rooms.now.items in
    let rooms = subst (λ s. RoomsFit old (new_size s ++ more)) shelf c.requires.fits.1 in
    let last = room_last _ more old c.pop.new.self.items c.in-Some-pop.room c.in-Some-pop.ensures.items rooms in
    let free = c.requires.free in
    let same = ap made_on shelf in
    let can = subst (λ s. CanPlace g.K.Ord.cmp c.args.w.now (older_slot c.args.older) s) shelf c.requires.there in
    (omega arith, (last.1, (omega (arith, free, same), (c.requires.names, (can.1, can.0)))))

pub returns-in-Some-pop-clause-stands : goal.returns-in-Some-pop-clause-stands
returns-in-Some-pop-clause-stands g c =
    let older = older_slot c.args.older in
    subst (λ s. StandsOn (made_on s) (name_of c.place_new.result) (shelf_blocks (blocks_at c.args.w.now older) s) c.args.w.now c.place_new.new.w) (sym c.in-New.is) c.place_new.ensures

pub returns-in-Some-pop-clause-left : goal.returns-in-Some-pop-clause-left
returns-in-Some-pop-clause-left g c = λ more h. (room_last _ more c.args.rooms.now.items c.pop.new.self.items c.in-Some-pop.room c.in-Some-pop.ensures.items (subst (λ s. RoomsFit c.args.rooms.now.items (new_size s ++ more)) c.in-New.is h)).0
