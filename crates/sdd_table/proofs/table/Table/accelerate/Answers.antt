use Rattle.std.proofs.Common.{refl}
use Rattle.sdd_table.specs.State.{hastened}
use Rattle.sdd_table.proofs.SlotLemmas.{changed_view, changed_invariant, known_in}
use Rattle.sdd_table.proofs.table.Table.accelerate.Goals as goal

pub accelerate-requires : goal.accelerate-requires
accelerate-requires g c = known_in c.self.inside c.args.self.now _ c.self.view_is c.requires

pub invariant_of-self : goal.invariant_of-self
invariant_of-self g c = changed_invariant c.self.inside c.args.self.now c.args.p hastened c.accelerate.new.self c.self.invariant c.self.view_is c.requires c.accelerate.ensures (λ j. refl)

pub returns : goal.returns
returns g c = changed_view c.self.inside c.args.self.now c.args.p hastened c.accelerate.new.self c.self.view_is c.accelerate.ensures
