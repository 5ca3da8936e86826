use Rattle.std.proofs.Common.{false}
use Rattle.leaf_slots.specs.Places.{live_pairs}
use Rattle.leaf_array.proofs.PackLemmas.{sound_cut, whole_take, packed_fore, packed_rear}
use Rattle.leaf_array.proofs.array.Array.split_off.Goals as goal

pub invariant_of-self : goal.invariant_of-self
invariant_of-self g c =
    (sound_cut g.K.Ord.cmp c.self.inside.slots c.cut-slots.new.self c.cut-slots.result c.renumber-2.new.self c.renumber.new.self c.self.inside.len c.self.inside.used c.args.at c.args.at c.self.invariant c.cut-slots.ensures.lower c.cut-slots.ensures.upper
    c.cut-slots.ensures.lower_count c.cut-slots.ensures.upper_count (whole_take c.args.at (live_pairs c.self.inside.slots) (rw (← c.self.view_is) at c.requires)) c.renumber-2.ensures.places c.renumber.ensures.places).0.0

pub invariant_of-result-2 : goal.invariant_of-result-2
invariant_of-result-2 g c =
    (sound_cut g.K.Ord.cmp c.self.inside.slots c.cut-slots.new.self c.cut-slots.result c.renumber-2.new.self c.renumber.new.self c.self.inside.len c.self.inside.used c.args.at c.args.at c.self.invariant c.cut-slots.ensures.lower c.cut-slots.ensures.upper
    c.cut-slots.ensures.lower_count c.cut-slots.ensures.upper_count (whole_take c.args.at (live_pairs c.self.inside.slots) (rw (← c.self.view_is) at c.requires)) c.renumber-2.ensures.places c.renumber.ensures.places).1.0

pub returns-clause-lower : goal.returns-clause-lower
returns-clause-lower g c =
    rw (← c.self.view_is) ((sound_cut g.K.Ord.cmp c.self.inside.slots c.cut-slots.new.self c.cut-slots.result c.renumber-2.new.self c.renumber.new.self c.self.inside.len c.self.inside.used c.args.at c.args.at c.self.invariant c.cut-slots.ensures.lower c.cut-slots.ensures.upper
    c.cut-slots.ensures.lower_count c.cut-slots.ensures.upper_count (whole_take c.args.at (live_pairs c.self.inside.slots) (rw (← c.self.view_is) at c.requires)) c.renumber-2.ensures.places c.renumber.ensures.places).0.1 c.self.inside.frozen)

pub returns-clause-upper : goal.returns-clause-upper
returns-clause-upper g c =
    rw (← c.self.view_is) ((sound_cut g.K.Ord.cmp c.self.inside.slots c.cut-slots.new.self c.cut-slots.result c.renumber-2.new.self c.renumber.new.self c.self.inside.len c.self.inside.used c.args.at c.args.at c.self.invariant c.cut-slots.ensures.lower c.cut-slots.ensures.upper
    c.cut-slots.ensures.lower_count c.cut-slots.ensures.upper_count (whole_take c.args.at (live_pairs c.self.inside.slots) (rw (← c.self.view_is) at c.requires)) c.renumber-2.ensures.places c.renumber.ensures.places).1.1 false)

pub renumber-requires : goal.renumber-requires
renumber-requires g c = packed_rear c.args.at c.self.inside.slots c.cut-slots.result c.self.invariant.packed c.cut-slots.ensures.upper

pub renumber-requires-2 : goal.renumber-requires-2
renumber-requires-2 g c = packed_fore c.args.at c.self.inside.slots c.cut-slots.new.self c.self.invariant.packed c.cut-slots.ensures.lower
