use Rattle.std.proofs.Common.{refl}
use Rattle.sdd_table.specs.Steps.{settled_in}
use Rattle.sdd_table.proofs.SlotLemmas.{changed_view, changed_invariant, known_in}
use Rattle.sdd_table.proofs.table.Table.settle.Goals as goal

pub settle-requires : goal.settle-requires
settle-requires g c = known_in c.self.inside c.args.self.now _ c.self.view_is c.requires

pub invariant_of-self : goal.invariant_of-self
invariant_of-self g c = changed_invariant c.self.inside c.args.self.now c.args.p settled_in c.settle.new.self c.self.invariant c.self.view_is c.requires c.settle.ensures (λ j. refl)

pub returns : goal.returns
returns g c = changed_view c.self.inside c.args.self.now c.args.p settled_in c.settle.new.self c.self.view_is c.settle.ensures
