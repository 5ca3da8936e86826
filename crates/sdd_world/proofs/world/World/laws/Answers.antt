use Rattle.std.proofs.Common.{subst}
use Rattle.sdd_table.specs.State.{State}
use Rattle.sdd_table.specs.Place.{IsPlace}
use Rattle.sdd_world.proofs.world.World.laws.Goals as goal

pub returns : goal.returns
returns g c = subst (λ (w : State _). IsPlace w) c.self.view_is c.self.invariant
