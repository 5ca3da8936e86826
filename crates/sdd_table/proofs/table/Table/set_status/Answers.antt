use Rattle.std.proofs.Common.{◌∙◌, arith, sym}
use Rattle.sdd_table.proofs.SlotLemmas.{status_invariant, slot_in, used_in, weight_in}
use Rattle.sdd_table.proofs.table.Table.set_status.Goals as goal

pub invariant_of-self : goal.invariant_of-self
invariant_of-self g c =
    let a = c.self.inside in
    let w = c.args.self.now in
    let light = weight_in a w c.args.i _ c.self.view_is c.requires.waited_not in
    status_invariant a c.args.i c.args.status c.self.invariant (slot_in a w _ c.self.view_is c.requires.slot) (used_in a w c.args.i _ c.self.view_is c.requires.was_used) c.requires.used (light ∙ sym c.requires.waits_not)

pub index_mut-requires : goal.index_mut-requires
index_mut-requires g c = omega (arith, slot_in c.self.inside c.args.self.now _ c.self.view_is c.requires.slot, c.self.inside.states.ok.0)
