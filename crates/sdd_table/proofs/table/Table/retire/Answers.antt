use Rattle.std.proofs.Common.{ap, ◌∙◌, arith}
use Rattle.sdd_table.specs.State.{retired}
use Rattle.sdd_table.specs.declared.status.Status.TheVariants as status
use Rattle.sdd_table.proofs.SlotLemmas.{in_none, waiting_view, retired_invariant, known_in, slot_in, used_in, weight_in}
use Rattle.sdd_table.proofs.table.Table.retire.Goals as goal

pub index_mut-requires : goal.index_mut-requires
index_mut-requires g c = omega (arith, slot_in c.self.inside c.args.self.now _ c.self.view_is c.requires.slot, c.self.inside.states.ok.0)

pub put-requires : goal.put-requires
put-requires g c =
    let a = c.self.inside in
    let w = c.args.self.now in
    let v = c.self.view_is in
    record {
      participant = known_in a w _ v c.requires.participant;
      place = omega (arith, c.self.invariant.links, slot_in a w _ v c.requires.slot);
      none = in_none a c.args.i c.self.invariant (weight_in a w _ _ v c.requires.waits_not);
    }

pub invariant_of-self : goal.invariant_of-self
invariant_of-self g c =
    let v = c.self.view_is in
    let a = c.self.inside in
    let w = c.args.self.now in
    retired_invariant a c.args.p c.args.i c.put.new.self c.self.invariant (known_in a w _ v c.requires.participant) (slot_in a w _ v c.requires.slot) (used_in a w _ _ v c.requires.used) (weight_in a w _ _ v c.requires.waits_not) c.put.ensures

pub returns : goal.returns
returns g c = waiting_view c.self.inside c.args.p c.args.i status.Retired c.put.new.self c.put.ensures ∙ ap (λ s. retired c.args.p c.args.i s) c.self.view_is
