use Rattle.leaf_array.proofs.EntryLemmas.{remove_removed}
use Rattle.leaf_array.proofs.laws.taking_out_is_removing.Goals as goal

pub returns : goal.returns
returns g c = remove_removed g.K.Ord.cmp g.met.K.Ord.total
