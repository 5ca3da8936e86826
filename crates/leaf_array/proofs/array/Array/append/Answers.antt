use Rattle.std.proofs.Common.{◌≡◌, ◌<◌, ◌-◌, sym, ◌∙◌, refl, length}
use Rattle.leaf_array.specs.Cells.{lesser}
use Rattle.leaf_slots.specs.Places.{live_pairs}
use Rattle.leaf_array.proofs.SoundLemmas.{room_at, sound_append}
use Rattle.leaf_array.proofs.array.Array.append.Goals as goal

pub insert-requires : goal.insert-requires
insert-requires g c =
    let room : c.self.inside.used < 15 = rw (← c.self.view_is) at c.requires.room in
    let last : lesser g.K.Ord.cmp c.args.key (live_pairs c.self.inside.slots) ≡ length (live_pairs c.self.inside.slots) = rw (← c.self.view_is) at c.requires.last in
    room_at g.K.Ord.cmp g.met.K.Ord.total c.args.key c.self.inside.slots c.self.inside.len c.self.inside.used c.from-2.result c.self.invariant room (c.from-2.ensures ∙ c.self.invariant.live ∙ sym last)

pub invariant_of-self : goal.invariant_of-self
invariant_of-self g c =
    let room : c.self.inside.used < 15 = rw (← c.self.view_is) at c.requires.room in
    let last : lesser g.K.Ord.cmp c.args.key (live_pairs c.self.inside.slots) ≡ length (live_pairs c.self.inside.slots) = rw (← c.self.view_is) at c.requires.last in
    let is = rw (c.slot_of-slot.ensures.slot, c.from-2.ensures) at c.insert.ensures.places in
    (sound_append g.K.Ord.cmp g.met.K.Ord.total c.args.key c.args.val c.self.inside.slots c.insert.new.self c.self.inside.len c.self.inside.used (c.from.result - c.top.result) c.self.invariant room last
    (rw (c.from.ensures, c.top.ensures) refl) c.insert.ensures.count is).0

pub returns : goal.returns
returns g c =
    let room : c.self.inside.used < 15 = rw (← c.self.view_is) at c.requires.room in
    let last : lesser g.K.Ord.cmp c.args.key (live_pairs c.self.inside.slots) ≡ length (live_pairs c.self.inside.slots) = rw (← c.self.view_is) at c.requires.last in
    let is = rw (c.slot_of-slot.ensures.slot, c.from-2.ensures) at c.insert.ensures.places in
    rw (← c.self.view_is) ((sound_append g.K.Ord.cmp g.met.K.Ord.total c.args.key c.args.val c.self.inside.slots c.insert.new.self c.self.inside.len c.self.inside.used (c.from.result - c.top.result) c.self.invariant room last
    (rw (c.from.ensures, c.top.ensures) refl) c.insert.ensures.count is).1 c.self.inside.frozen c.self.inside.retired)
