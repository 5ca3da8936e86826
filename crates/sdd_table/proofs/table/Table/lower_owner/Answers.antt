use Rattle.std.proofs.Common.{◌-◌, ap, refl, sym}
use Rattle.sdd_table.specs.State.{is_used, weight}
use Rattle.sdd_table.specs.declared.status.Status.TheVariants as status
use Rattle.sdd_table.proofs.SlotLemmas.{status_invariant, is_in}
use Rattle.sdd_table.proofs.BagInvariantLemmas.{inside_by}
use Rattle.sdd_table.proofs.table.Table.lower_owner.Goals as goal

pub invariant_of-self : goal.invariant_of-self
invariant_of-self g c =
    let a = c.self.inside in
    let was = is_in a c.args.self.now c.args.i (status.Shared c.in-Shared.owners) c.self.view_is (sym c.in-Shared.ensures) in
    let inside = inside_by a.states.items c.args.i _ (sym was) (λ e. cc) in
    status_invariant a c.args.i (status.Shared (c.in-Shared.owners - 1)) c.self.invariant inside (ap is_used was) refl (ap weight was)
