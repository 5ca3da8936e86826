use Rattle.leaf_array.proofs.SoundLemmas.{sound_new}
use Rattle.leaf_array.proofs.array.Array.new_frozen.Goals as goal

pub invariant_of-result-2 : goal.invariant_of-result-2
invariant_of-result-2 g c = rw c.new.ensures (sound_new g.K.Ord.cmp)
