use Rattle.std.proofs.Common.{◌≡◌, Bool, cond, None, get_or, set, sym, ap, ◌∙◌, arith}
use Rattle.std.proofs.lemmas.List.{get_or_default}
use Rattle.std.proofs.lemmas.List.Sums.{get_or-le-sum_by}
use Rattle.sdd_table.specs.State.{State, usage, value_at, slot_freed}
use Rattle.sdd_table.specs.View.{state_of}
use Rattle.sdd_table.specs.declared.status.Status.TheVariants as status
use Rattle.sdd_table.proofs.SlotLemmas.{slot_room, used-job, used-vacancy, slot_in, used_in, weight_in, no_value, removed_invariant, within_values}
use Rattle.sdd_table.proofs.table.Table.remove.Goals as goal

pub keep_name-requires : goal.keep_name-requires
keep_name-requires g c =
    let a = c.self.inside in
    let w = c.args.self.now in
    slot_room a c.args.i c.self.invariant (slot_in a w _ c.self.view_is c.requires.slot) (used-job _ (used_in a w c.args.i _ c.self.view_is c.requires.used)) (used-vacancy _ (used_in a w c.args.i _ c.self.view_is c.requires.used))

pub unreachable-requires : goal.unreachable-requires
unreachable-requires g c =
    let a = c.self.inside in
    let w = c.args.self.now in
    no_value a c.args.i _ c.self.invariant (used_in a w c.args.i _ c.self.view_is c.requires.used) c.index_mut-2.ensures.value (sym c.take.ensures.value ∙ c.in-None.is)

pub invariant_of-self : goal.invariant_of-self
invariant_of-self g c =
    let a = c.self.inside in
    let w = c.args.self.now in
    removed_invariant a c.take.new.self c.args.i c.keep_name.new.stack c.self.invariant (slot_in a w _ c.self.view_is c.requires.slot) (used_in a w c.args.i _ c.self.view_is c.requires.used) (weight_in a w c.args.i _ c.self.view_is c.requires.waits_not) c.take.ensures.after c.keep_name.ensures.items c.keep_name.ensures.room

pub index_mut-requires : goal.index_mut-requires
index_mut-requires g c = omega (arith, slot_in c.self.inside c.args.self.now _ c.self.view_is c.requires.slot, c.self.inside.states.ok.0)

pub index_mut-requires-2 : goal.index_mut-requires-2
index_mut-requires-2 g c = within_values c.self.inside c.args.i c.self.invariant (slot_in c.self.inside c.args.self.now _ c.self.view_is c.requires.slot)

pub returns-clause-value : goal.returns-clause-value
returns-clause-value g c =
    let a = c.self.inside in
    let i = c.args.i in
    let inside = within_values a i c.self.invariant (slot_in a c.args.self.now _ c.self.view_is c.requires.slot) in
    let at = get_or_default a.values.items i c.index_mut-2.result.now None (omega (arith, inside, a.values.ok.0)) in
    sym c.in-Some.is ∙ c.take.ensures.value ∙ c.index_mut-2.ensures.value ∙ at ∙ ap (λ (w : State _). value_at w i) c.self.view_is

pub returns-clause-state : goal.returns-clause-state
returns-clause-state g c =
    let a = c.self.inside in
    let i = c.args.i in
    ap (λ v. record (state_of a) { values = set a.values.items i v; states = set a.states.items i status.Free }) c.take.ensures.after ∙ ap (λ (w : State _). slot_freed i w) c.self.view_is

pub overflow_sub-self : goal.overflow_sub-self
overflow_sub-self g c =
    let a = c.self.inside in
    let i = c.args.i in
    let inside = slot_in a c.args.self.now _ c.self.view_is c.requires.slot in
    let one : usage (get_or a.states.items i status.Free) ≡ 1 = ap (λ (b : Bool). cond b 1 0) (used_in a c.args.self.now i _ c.self.view_is c.requires.used) in
    omega (arith, c.self.invariant.tally, get_or-le-sum_by usage a.states.items i status.Free inside, one)
