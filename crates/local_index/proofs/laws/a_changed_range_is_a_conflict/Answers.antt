use Rattle.local_index.proofs.ConflictLemmas.{range_differs}
use Rattle.local_index.proofs.laws.a_changed_range_is_a_conflict.Goals as goal

pub returns : goal.returns
returns g c = λ lower upper key old new inside differ. range_differs g.met.K.Ord.total lower upper key inside old new differ
