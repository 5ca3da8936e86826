use Rattle.std.proofs.Common.{refl}
use Rattle.leaf_slots.proofs.slots.Slots.put.Goals as goal

pub put-requires : goal.put-requires
put-requires g c = c.requires

pub returns-clause-count : goal.returns-clause-count
returns-clause-count g c = refl

pub returns-clause-old : goal.returns-clause-old
returns-clause-old g c = rw (← c.self.view_is) c.put.ensures.old

pub returns-clause-places : goal.returns-clause-places
returns-clause-places g c = rw (← c.self.view_is) c.put.ensures.new
