use Rattle.std.proofs.Common.{Some, length, ap, arith}
use Rattle.std.proofs.lemmas.List.Elements.{All-pop}
use Rattle.local_versions.specs.Rooms.{IsUnused}
use Rattle.local_versions.proofs.rooms.end_all.Goals as goal

pub destroy_empty-requires : goal.destroy_empty-requires
destroy_empty-requires c =
    let none = ap length (All-pop IsUnused c.loop-room.rooms.items c.pop.new.self.items (Some c.in-Some.room) c.in-Some.ensures.items c.loop-room.invariant).1 in
    omega (arith, none, c.in-Some.room.ok.0)

pub loop-room-preserved : goal.loop-room-preserved
loop-room-preserved c = (All-pop IsUnused c.loop-room.rooms.items c.pop.new.self.items (Some c.in-Some.room) c.in-Some.ensures.items c.loop-room.invariant).0
