use Rattle.sdd_table.proofs.PlaceLemmas.{place_fresh}
use Rattle.sdd_world.proofs.world.World.new.Goals as goal

pub invariant_of-result : goal.invariant_of-result
invariant_of-result g c = place_fresh c.args.sizes c.in_ok-new.field-0 c.requires.some c.in_ok-new.ensures
