use Rattle.std.proofs.Common.{refl}
use Rattle.sdd_table.specs.State.{concluded_with}
use Rattle.sdd_table.proofs.SlotLemmas.{changed_view, changed_invariant, known_in}
use Rattle.sdd_table.proofs.table.Table.conclude.Goals as goal

pub conclude-requires : goal.conclude-requires
conclude-requires g c = known_in c.self.inside c.args.self.now _ c.self.view_is c.requires

pub invariant_of-self : goal.invariant_of-self
invariant_of-self g c = changed_invariant c.self.inside c.args.self.now c.args.p (concluded_with c.args.closings) c.conclude.new.self c.self.invariant c.self.view_is c.requires c.conclude.ensures (λ j. refl)

pub returns : goal.returns
returns g c = changed_view c.self.inside c.args.self.now c.args.p (concluded_with c.args.closings) c.conclude.new.self c.self.view_is c.conclude.ensures
