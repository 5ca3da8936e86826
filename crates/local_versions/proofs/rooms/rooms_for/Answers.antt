use Rattle.std.proofs.Common.{◌≡◌, ◌+◌, ◌-◌, ◌∷◌, ◌++◌, drop, sym, ap, ◌∙◌, subst, arith}
use Rattle.std.proofs.lemmas.List.{drop_more}
use Rattle.local_versions.specs.Rooms.{RoomsFit, new_size, new_sizes}
use Rattle.local_versions.proofs.RowRoomLemmas.{are_unused}
use Rattle.local_versions.proofs.rooms.rooms_for.Goals as goal

-- room for one row more
pub loop-left-preserved : goal.loop-left-preserved
loop-left-preserved g c =
    let i = c.loop-left.invariant in
    let rows = c.args.shelves.now in
    let left = c.loop-left.left in
    let rest = drop (left - 1 + 1) rows in
    let row = c.index-shelves-left.result in
    let rooms = c.add_room.new.rooms.items in
    let some = c.loop-left-test.true in
    let within = i.within in
    let back : left - 1 + 1 ≡ left = omega (arith, some) in
    let next = drop_more rows (left - 1) row (omega (arith, some, within)) ∙ ap (λ r. r ∷ rest) (sym c.index-shelves-left.is) in
    let last = subst (λ n. RoomsFit c.loop-left.rooms.items (new_sizes (drop n rows))) (sym back) i.fits in
    let more = subst (λ s. RoomsFit rooms (new_size s ++ new_sizes rest)) c.owners.ensures (c.in-Ok.ensures.fits (new_sizes rest) last) in
    record { within = omega (arith, within); fits = subst (λ rs. RoomsFit rooms (new_sizes rs)) (sym next) more }

pub end_all-requires : goal.end_all-requires
end_all-requires g c =
    let sizes = new_sizes (drop c.loop-left.left c.args.shelves.now) in
    are_unused c.add_room.new.rooms.items sizes (subst (λ rooms. RoomsFit rooms sizes) (sym c.in-Err.ensures.same) c.loop-left.invariant.fits)
