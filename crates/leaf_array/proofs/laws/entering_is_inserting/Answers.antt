use Rattle.leaf_array.proofs.EntryLemmas.{insert_upserted}
use Rattle.leaf_array.proofs.laws.entering_is_inserting.Goals as goal

pub returns : goal.returns
returns g c = λ key value pairs so absent. rw absent (insert_upserted g.K.Ord.cmp g.met.K.Ord.total key value pairs so absent)
