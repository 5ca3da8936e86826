use Rattle.leaf_array.proofs.SoundLemmas.{room_at, sound_place}
use Rattle.leaf_array.proofs.array.Array.place.Goals as goal

pub insert-requires : goal.insert-requires
insert-requires g c =
    room_at g.K.Ord.cmp g.met.K.Ord.total c.args.key c.self.inside.slots c.self.inside.len c.self.inside.used c.args.at c.self.invariant
    (rw (← c.self.view_is) at c.requires.room) (rw (← c.self.view_is) at c.requires.place)

pub invariant_of-self : goal.invariant_of-self
invariant_of-self g c =
    let is = rw c.slot_of-slot.ensures.slot at c.insert.ensures.places in
    (sound_place g.K.Ord.cmp g.met.K.Ord.total c.args.key c.args.val c.self.inside.slots c.insert.new.self c.self.inside.len c.self.inside.used c.args.at c.self.invariant
    (rw (← c.self.view_is) at c.requires.room) (rw (← c.self.view_is) at c.requires.place) (rw (← c.self.view_is) at c.requires.absent) c.insert.ensures.count is).0

pub returns : goal.returns
returns g c =
    let is = rw c.slot_of-slot.ensures.slot at c.insert.ensures.places in
    rw (← c.self.view_is) ((sound_place g.K.Ord.cmp g.met.K.Ord.total c.args.key c.args.val c.self.inside.slots c.insert.new.self c.self.inside.len c.self.inside.used c.args.at c.self.invariant
    (rw (← c.self.view_is) at c.requires.room) (rw (← c.self.view_is) at c.requires.place) (rw (← c.self.view_is) at c.requires.absent) c.insert.ensures.count is).1 c.self.inside.frozen c.self.inside.retired)
