use Rattle.std.proofs.Common.{◌∷◌, [], ◌++◌, sym, ap, ◌∙◌, subst, arith}
use Rattle.version_drafts.specs.Parts.{segments_in}
use Rattle.local_versions.specs.Rooms.{RoomsFit, new_size}
use Rattle.local_versions.proofs.RowRoomLemmas.{room_first}
use Rattle.local_versions.proofs.rooms.add_room.Goals as goal

pub returns-clause-fits : goal.returns-clause-fits
returns-clause-fits g c = λ sizes h.
    let old = c.args.rooms.now.items in
    let new = c.push_reserved.new.self.items in
    let room = c.in_ok-with_capacity.field-0 in
    let some = c.in_ok-with_capacity.ensures in
    let size = segments_in c.in-New.parts.items in
    let count = c.in-Some.ensures.counted ∙ ap segments_in c.deref.ensures.value in
    let is = c.push_reserved.ensures.items ∙ ap (λ rooms. rooms ++ room ∷ []) c.in_ok-reserve.ensures.items in
    subst (λ s. RoomsFit new (new_size s ++ sizes)) (sym c.in-New.is) (room_first size sizes old new room is (some.items, omega (arith, count, some.capacity)) h)
