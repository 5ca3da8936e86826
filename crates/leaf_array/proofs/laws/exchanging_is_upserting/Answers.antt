use Rattle.leaf_array.proofs.EntryLemmas.{exchange_upserted}
use Rattle.leaf_array.proofs.laws.exchanging_is_upserting.Goals as goal

pub returns : goal.returns
returns g c = exchange_upserted g.K.Ord.cmp g.met.K.Ord.total
