use Rattle.std.proofs.Common.{arith}
use Rattle.leaf_slots.proofs.PlaceLemmas.{live_within}
use Rattle.leaf_slots.proofs.slots.Slots.vacate.Goals as goal

pub put-requires : goal.put-requires
put-requires g c = omega (arith, c.requires.count, live_within c.args.self.now c.args.at c.requires.live)
