use Rattle.std.proofs.Common.{None, refl, sym, ap, ◌∙◌, arith}
use Rattle.std.proofs.lemmas.List.{get_or_default}
use Rattle.sdd_table.specs.State.{State, value_at}
use Rattle.sdd_table.specs.State.{with_value}
use Rattle.sdd_table.proofs.SlotLemmas.{some_value, written_invariant, slot_in, used_in, within_values}
use Rattle.sdd_table.proofs.table.TableStore.item_mut.Goals as goal

pub filled-requires : goal.filled-requires
filled-requires g c =
    some_value c.self.inside c.args.i _ c.self.invariant (used_in c.self.inside c.args.self.now c.args.i _ c.self.view_is c.requires.used) c.index_mut.ensures.value

pub invariant_of-self-lent : goal.invariant_of-self-lent
invariant_of-self-lent g c w =
    written_invariant c.self.inside c.args.i w c.self.invariant (used_in c.self.inside c.args.self.now c.args.i _ c.self.view_is c.requires.used)

pub index_mut-requires : goal.index_mut-requires
index_mut-requires g c =
    within_values c.self.inside c.args.i c.self.invariant (slot_in c.self.inside c.args.self.now _ c.self.view_is c.requires.inside)

pub returns : goal.returns
returns g c =
    let a = c.self.inside in
    let i = c.args.i in
    let inside = within_values a i c.self.invariant (slot_in a c.args.self.now _ c.self.view_is c.requires.inside) in
    let at = get_or_default a.values.items i c.index_mut.result.now None (omega (arith, inside, a.values.ok.0)) in (
      (refl, λ w. ap (λ (s : State _). with_value i w s) c.self.view_is),
      record {
        lends = tt;
        value = ap (λ (s : State _). value_at s i) (sym c.self.view_is) ∙ sym at ∙ sym c.index_mut.ensures.value ∙ c.filled.ensures.value;
      },
    )
