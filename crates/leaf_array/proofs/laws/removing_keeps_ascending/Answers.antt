use Rattle.leaf_array.proofs.ListLemmas.{IsAscending-removed}
use Rattle.leaf_array.proofs.laws.removing_keeps_ascending.Goals as goal

pub returns : goal.returns
returns g c = IsAscending-removed g.met.K.Ord.total
