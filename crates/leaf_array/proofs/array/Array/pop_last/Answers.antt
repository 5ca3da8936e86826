use Rattle.std.proofs.Common.{arith, ◌∙◌, ap, ◌-◌, sym}
use Rattle.leaf_slots.specs.Places.{live_pairs}
use Rattle.leaf_array.specs.Cells.{filled_array}
use Rattle.leaf_array.proofs.PackLemmas.{sound_packed, sound_vacated, vacated_some, vacated_pair, take_none}
use Rattle.leaf_array.proofs.SoundLemmas.{live_count}
use Rattle.leaf_array.proofs.array.Array.pop_last.Goals as goal

pub invariant_of-self : goal.invariant_of-self
invariant_of-self g c = (sound_packed g.K.Ord.cmp c.self.inside.slots c.renumber.new.self c.self.inside.len c.self.invariant.packed c.self.invariant.count c.self.invariant.sorted (live_count g.K.Ord.cmp c.self.inside.slots c.self.inside.len c.self.inside.used c.self.invariant) c.self.invariant.live c.renumber.ensures.places).0

pub returns-then-self-eq0-clause-rest : goal.returns-then-self-eq0-clause-rest
returns-then-self-eq0-clause-rest g c =
    rw (← c.self.view_is) ((sound_packed g.K.Ord.cmp c.self.inside.slots c.renumber.new.self c.self.inside.len c.self.invariant.packed c.self.invariant.count c.self.invariant.sorted (live_count g.K.Ord.cmp c.self.inside.slots c.self.inside.len c.self.inside.used c.self.invariant) c.self.invariant.live c.renumber.ensures.places).1 c.self.inside.frozen
    ∙ ap (filled_array c.self.inside.frozen) (sym (take_none (live_pairs c.self.inside.slots) c.self.inside.len c.self.invariant.live c.if-self-eq0.true)))

pub vacate-requires-clause-count : goal.vacate-requires-clause-count
vacate-requires-clause-count g c = c.renumber.ensures.count

pub vacate-requires-clause-live : goal.vacate-requires-clause-live
vacate-requires-clause-live g c = rw c.from.ensures (vacated_some c.self.inside.slots c.renumber.new.self (c.self.inside.len - 1) c.self.invariant.packed c.renumber.ensures.places (omega (arith, c.self.invariant.live, c.if-self-eq0.false)))

pub invariant_of-self-2 : goal.invariant_of-self-2
invariant_of-self-2 g c = (sound_vacated g.K.Ord.cmp c.self.inside.slots c.renumber.new.self c.vacate.new.self (c.self.inside.len - 1) c.self.invariant.packed c.self.invariant.count c.self.invariant.sorted (omega (arith, c.self.invariant.live, c.if-self-eq0.false)) (omega (arith, c.self.invariant.live, c.if-self-eq0.false, live_count g.K.Ord.cmp c.self.inside.slots c.self.inside.len c.self.inside.used c.self.invariant)) c.renumber.ensures.places (rw c.from.ensures at c.vacate.ensures.places)).0

pub returns-clause-pair : goal.returns-clause-pair
returns-clause-pair g c =
    let at = rw c.from.ensures at c.vacate.ensures.pair in
    rw (← c.self.view_is, ← c.self.invariant.live) (at ∙ vacated_pair c.self.inside.slots c.renumber.new.self (c.self.inside.len - 1) c.self.invariant.packed c.renumber.ensures.places)

pub returns-clause-rest : goal.returns-clause-rest
returns-clause-rest g c =
    rw (← c.self.view_is, ← c.self.invariant.live) ((sound_vacated g.K.Ord.cmp c.self.inside.slots c.renumber.new.self c.vacate.new.self (c.self.inside.len - 1) c.self.invariant.packed c.self.invariant.count c.self.invariant.sorted (omega (arith, c.self.invariant.live, c.if-self-eq0.false)) (omega (arith, c.self.invariant.live, c.if-self-eq0.false, live_count g.K.Ord.cmp c.self.inside.slots c.self.inside.len c.self.inside.used c.self.invariant)) c.renumber.ensures.places (rw c.from.ensures at c.vacate.ensures.places)).1 c.self.inside.frozen)
