use Rattle.leaf_array.proofs.TourLemmas.{last_ranked}
use Rattle.leaf_array.proofs.array.Array.under.Goals as goal

pub returns-clause-label : goal.returns-clause-label
returns-clause-label g c = rw (← c.self.view_is) c.under.ensures

pub returns-clause-ranked : goal.returns-clause-ranked
returns-clause-ranked g c = rw c.under.ensures (last_ranked c.args.rank 0 c.self.inside.slots)
