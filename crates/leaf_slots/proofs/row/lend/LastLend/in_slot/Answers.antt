use Rattle.std.proofs.Common.{[]}
use Rattle.leaf_slots.proofs.row.lend.LastLend.in_slot.Goals as goal

pub returns : goal.returns
returns g c = c.pair_in_slot.ensures []
