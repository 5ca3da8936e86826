use Rattle.std.proofs.Common.{[]}
use Rattle.leaf_slots.proofs.row.renumber.LastRenumber.renumber.Goals as goal

pub returns : goal.returns
returns g c = c.renumber.ensures.places []
