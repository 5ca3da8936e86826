use Rattle.leaf_array.proofs.ListLemmas.{IsAscending-upserted}
use Rattle.leaf_array.proofs.laws.replacing_keeps_ascending.Goals as goal

pub returns : goal.returns
returns g c = IsAscending-upserted g.met.K.Ord.total
