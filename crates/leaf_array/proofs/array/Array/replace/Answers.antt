use Rattle.leaf_array.proofs.SoundLemmas.{live_at_key, room_behind_live, sound_replace}
use Rattle.leaf_array.proofs.array.Array.replace.Goals as goal

pub renew-dead-requires-clause-count : goal.renew-dead-requires-clause-count
renew-dead-requires-clause-count g c = c.self.invariant.count

pub renew-dead-requires-clause-live : goal.renew-dead-requires-clause-live
renew-dead-requires-clause-live g c =
    live_at_key g.K.Ord.cmp g.met.K.Ord.total c.args.key c.self.inside.slots c.self.inside.len c.self.inside.used c.args.at c.self.invariant
    (rw (← c.self.view_is) at c.requires.place) (rw (← c.self.view_is) at c.requires.there)

pub insert-requires : goal.insert-requires
insert-requires g c =
    let mid = rw c.slot_of.ensures.slot at c.renew-dead.ensures.places in
    rw c.from.ensures (room_behind_live g.K.Ord.cmp g.met.K.Ord.total c.args.key c.args.val c.self.inside.slots c.renew-dead.new.self c.self.inside.len c.self.inside.used c.args.at c.self.invariant
    (rw (← c.self.view_is) at c.requires.room) (rw (← c.self.view_is) at c.requires.place) (rw (← c.self.view_is) at c.requires.there) mid c.renew-dead.ensures.count)

pub invariant_of-self : goal.invariant_of-self
invariant_of-self g c =
    let mid = rw c.slot_of.ensures.slot at c.renew-dead.ensures.places in
    let is = rw c.from.ensures at c.insert.ensures.places in
    (sound_replace g.K.Ord.cmp g.met.K.Ord.total c.args.key c.args.val c.self.inside.slots c.renew-dead.new.self c.insert.new.self c.renew-dead.result c.self.inside.len c.self.inside.used c.args.at c.self.invariant
    (rw (← c.self.view_is) at c.requires.room) (rw (← c.self.view_is) at c.requires.place) (rw (← c.self.view_is) at c.requires.there) c.insert.ensures.count c.renew-dead.ensures.old mid c.renew-dead.ensures.count is).0

pub returns : goal.returns
returns g c =
    let mid = rw c.slot_of.ensures.slot at c.renew-dead.ensures.places in
    let is = rw c.from.ensures at c.insert.ensures.places in
    rw (← c.self.view_is) ((sound_replace g.K.Ord.cmp g.met.K.Ord.total c.args.key c.args.val c.self.inside.slots c.renew-dead.new.self c.insert.new.self c.renew-dead.result c.self.inside.len c.self.inside.used c.args.at c.self.invariant
    (rw (← c.self.view_is) at c.requires.room) (rw (← c.self.view_is) at c.requires.place) (rw (← c.self.view_is) at c.requires.there) c.insert.ensures.count c.renew-dead.ensures.old mid c.renew-dead.ensures.count is).1 c.self.inside.frozen c.self.inside.retired)
