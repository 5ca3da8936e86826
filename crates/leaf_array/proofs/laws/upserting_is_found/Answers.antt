use Rattle.leaf_array.proofs.ListLemmas.{value_of_key-upserted}
use Rattle.leaf_array.proofs.laws.upserting_is_found.Goals as goal

pub returns : goal.returns
returns g c = value_of_key-upserted g.met.K.Ord.total
