use Rattle.std.proofs.Common.{refl}
use Rattle.sdd_table.specs.State.{with_local_state}
use Rattle.sdd_table.proofs.SlotLemmas.{changed_view, changed_invariant, known_in}
use Rattle.sdd_table.proofs.table.Table.set_local.Goals as goal

pub set_local-requires : goal.set_local-requires
set_local-requires g c = known_in c.self.inside c.args.self.now _ c.self.view_is c.requires

pub invariant_of-self : goal.invariant_of-self
invariant_of-self g c = changed_invariant c.self.inside c.args.self.now c.args.p (with_local_state c.args.local) c.set_local.new.self c.self.invariant c.self.view_is c.requires c.set_local.ensures (λ j. refl)

pub returns : goal.returns
returns g c = changed_view c.self.inside c.args.self.now c.args.p (with_local_state c.args.local) c.set_local.new.self c.self.view_is c.set_local.ensures
