use Rattle.leaf_array.proofs.PackLemmas.{sound_packed}
use Rattle.leaf_array.proofs.SoundLemmas.{live_count}
use Rattle.leaf_array.proofs.array.Array.pack.Goals as goal

pub invariant_of-self : goal.invariant_of-self
invariant_of-self g c =
    (sound_packed g.K.Ord.cmp c.self.inside.slots c.renumber.new.self c.self.inside.len c.self.invariant.packed c.self.invariant.count c.self.invariant.sorted (live_count g.K.Ord.cmp c.self.inside.slots c.self.inside.len c.self.inside.used c.self.invariant) c.self.invariant.live c.renumber.ensures.places).0

pub returns : goal.returns
returns g c =
    rw (← c.self.view_is) ((sound_packed g.K.Ord.cmp c.self.inside.slots c.renumber.new.self c.self.inside.len c.self.invariant.packed c.self.invariant.count c.self.invariant.sorted (live_count g.K.Ord.cmp c.self.inside.slots c.self.inside.len c.self.inside.used c.self.invariant) c.self.invariant.live c.renumber.ensures.places).1 c.self.inside.frozen)
