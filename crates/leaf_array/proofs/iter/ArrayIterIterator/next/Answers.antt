use Rattle.std.proofs.Common.{sym}
use Rattle.leaf_array.proofs.TourLemmas.{higher_falls}
use Rattle.leaf_array.proofs.iter.ArrayIterIterator.next.Goals as goal

pub returns-clause-goes : goal.returns-clause-goes
returns-clause-goes g c =
    let nearer = (higher_falls c.self.inside.rank c.self.inside.array.now.labels (c.in_ok-slot.slot, c.in_ok-slot.rank) (sym c.in_ok-slot.ensures)).1 in
    record { on = λ fin. (tt, tt, rw (← c.self.view_is) nearer); keeps = tt; rests = λ fin. tt }
