use Rattle.std.proofs.Common.{arith}
use Rattle.leaf_array.proofs.SlotLemmas.{slot_pair, slot_some, some_from, uses_one}
use Rattle.leaf_array.proofs.array.Array.entry.Goals as goal

pub returns-clause-pair : goal.returns-clause-pair
returns-clause-pair g c = rw (← c.self.view_is, ← slot_pair c.args.slot 0 c.self.inside.slots c.self.invariant.packed) c.in_slot.ensures

pub returns-clause-used : goal.returns-clause-used
returns-clause-used g c = λ u.
    let here = rw (← c.self.view_is) at u in
    let some = slot_some c.args.slot c.self.inside.slots (omega (arith, c.self.invariant.slots c.args.slot, uses_one c.args.slot here.0 c.self.inside.used here.1 here.2)) in
    some_from _ c.in_slot.result _ c.in_slot.ensures some
