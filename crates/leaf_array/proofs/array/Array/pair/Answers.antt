use Rattle.leaf_array.proofs.PackLemmas.{live_get}
use Rattle.leaf_array.proofs.array.Array.pair.Goals as goal

pub returns : goal.returns
returns g c = rw (← c.self.view_is, ← live_get c.args.at c.self.inside.slots c.self.invariant.packed) c.pair.ensures
