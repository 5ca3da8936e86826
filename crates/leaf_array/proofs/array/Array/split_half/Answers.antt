use Rattle.std.proofs.Common.{false, ◌∷◌}
use Rattle.leaf_slots.specs.declared.place.Place.TheVariants.{Empty}
use Rattle.leaf_slots.specs.Places.{no_half}
use Rattle.leaf_array.proofs.PackLemmas.{sound_halves, low_length, packed_front, packed_back}
use Rattle.leaf_array.proofs.array.Array.split_half.Goals as goal

pub invariant_of-self : goal.invariant_of-self
invariant_of-self g c =
    (sound_halves g.K.Ord.cmp c.self.inside.slots c.split_half-slots.new.self c.split_half-slots.result c.renumber.new.self c.renumber-2.new.self c.self.inside.len c.self.inside.used c.min-len.result c.self.invariant c.split_half-slots.ensures.mine c.split_half-slots.ensures.lower
    c.split_half-slots.ensures.mine_count c.split_half-slots.ensures.lower_count (low_length _ _ c.self.inside.len 8 c.self.invariant.live c.min-len.ensures) c.renumber.ensures.places c.renumber-2.ensures.places).1.0

pub invariant_of-result-2 : goal.invariant_of-result-2
invariant_of-result-2 g c =
    (sound_halves g.K.Ord.cmp c.self.inside.slots c.split_half-slots.new.self c.split_half-slots.result c.renumber.new.self c.renumber-2.new.self c.self.inside.len c.self.inside.used c.min-len.result c.self.invariant c.split_half-slots.ensures.mine c.split_half-slots.ensures.lower
    c.split_half-slots.ensures.mine_count c.split_half-slots.ensures.lower_count (low_length _ _ c.self.inside.len 8 c.self.invariant.live c.min-len.ensures) c.renumber.ensures.places c.renumber-2.ensures.places).0.0

pub returns-clause-lower : goal.returns-clause-lower
returns-clause-lower g c =
    rw (← c.self.view_is) ((sound_halves g.K.Ord.cmp c.self.inside.slots c.split_half-slots.new.self c.split_half-slots.result c.renumber.new.self c.renumber-2.new.self c.self.inside.len c.self.inside.used c.min-len.result c.self.invariant c.split_half-slots.ensures.mine c.split_half-slots.ensures.lower
    c.split_half-slots.ensures.mine_count c.split_half-slots.ensures.lower_count (low_length _ _ c.self.inside.len 8 c.self.invariant.live c.min-len.ensures) c.renumber.ensures.places c.renumber-2.ensures.places).0.1 false)

pub returns-clause-upper : goal.returns-clause-upper
returns-clause-upper g c =
    rw (← c.self.view_is) ((sound_halves g.K.Ord.cmp c.self.inside.slots c.split_half-slots.new.self c.split_half-slots.result c.renumber.new.self c.renumber-2.new.self c.self.inside.len c.self.inside.used c.min-len.result c.self.invariant c.split_half-slots.ensures.mine c.split_half-slots.ensures.lower
    c.split_half-slots.ensures.mine_count c.split_half-slots.ensures.lower_count (low_length _ _ c.self.inside.len 8 c.self.invariant.live c.min-len.ensures) c.renumber.ensures.places c.renumber-2.ensures.places).1.1 c.self.inside.frozen)

pub renumber-requires : goal.renumber-requires
renumber-requires g c = packed_front 8 c.self.inside.slots no_half c.split_half-slots.result c.self.invariant.packed tt c.split_half-slots.ensures.lower

pub renumber-requires-2 : goal.renumber-requires-2
renumber-requires-2 g c = packed_back 8 c.self.inside.slots (Empty ∷ no_half) c.split_half-slots.new.self c.self.invariant.packed tt c.split_half-slots.ensures.mine
