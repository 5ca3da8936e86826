use Rattle.std.proofs.Common.{arith, ap, refl, sym, ◌∙◌, ◌≡◌, ◌<◌, length, ℕ, subst, is_some, Option, set}
use Rattle.sdd_table.specs.State.{State, is_used, status_at, placed, vacancy, NoneFree}
use Rattle.sdd_table.specs.declared.status.Status.TheVariants as status
use Rattle.sdd_table.proofs.SlotLemmas.{a_value, named_slot, none_named, stack_kept, used_room, placed_invariant, within_values}
use Rattle.sdd_table.specs.View.{state_of}
use Rattle.sdd_table.specs.declared.status.Status.{Status}
use Rattle.sdd_table.specs.declared.table.Table.TheInside.{Inside}
use Rattle.sdd_table.proofs.table.Table.place.Goals as goal

abbrev placed_by : {T J : Type 0} (a : Inside T J) (i : ℕ) (x : Option T) (s : Status) → State T
placed_by a i x s = record (state_of a) { values = set a.values.items i x; states = set a.states.items i s }

pub index_mut-requires : goal.index_mut-requires
index_mut-requires g c =
    let r = named_slot c.self.inside c.pop.new.self.items c.in-Some.i c.self.invariant c.in-Some.ensures.items in
    omega (arith, r.0, c.self.inside.states.ok.0)

pub overflow_add-self : goal.overflow_add-self
overflow_add-self g c =
    let r = named_slot c.self.inside c.pop.new.self.items c.in-Some.i c.self.invariant c.in-Some.ensures.items in
    let less = used_room c.self.inside c.in-Some.i c.self.invariant r.0 (ap is_used r.1) in
    omega (arith, less, c.self.inside.states.ok.0)

pub index_mut-requires-2 : goal.index_mut-requires-2
index_mut-requires-2 g c =
    let r = named_slot c.self.inside c.pop.new.self.items c.in-Some.i c.self.invariant c.in-Some.ensures.items in
    within_values c.self.inside c.in-Some.i c.self.invariant r.0

pub unreachable-requires : goal.unreachable-requires
unreachable-requires g c =
    let r = named_slot c.self.inside c.pop.new.self.items c.in-Some.i c.self.invariant c.in-Some.ensures.items in
    a_value c.self.inside c.in-Some.i _ _ c.self.invariant r.0 (ap is_used r.1) c.index_mut-2.ensures.value (sym c.replace.ensures.value ∙ c.in-Some-replace.is)

pub invariant_of-self-2 : goal.invariant_of-self-2
invariant_of-self-2 g c =
    let a = c.self.inside in
    let r = named_slot a c.pop.new.self.items c.in-Some.i c.self.invariant c.in-Some.ensures.items in
    let cap = c.in-Some.ensures.capacity in
    placed_invariant a c.replace.new.dest c.in-Some.i c.args.status c.pop.new.self c.self.invariant r.0 r.1 (ap is_some c.replace.ensures.after) c.requires.used c.requires.waits_not c.in-Some.ensures.items (omega (arith, cap))

pub returns-clause-placed : goal.returns-clause-placed
returns-clause-placed g c =
    let a = c.self.inside in
    let r = named_slot a c.pop.new.self.items c.in-Some.i c.self.invariant c.in-Some.ensures.items in
    (subst (λ (w : State _). (c.in-Some.i < length w.states) × (status_at w c.in-Some.i ≡ status.Free)) c.self.view_is r, ap (λ (z : Option _). placed_by a c.in-Some.i z c.args.status) c.replace.ensures.after ∙ ap (λ (w : State _). placed c.in-Some.i c.args.value c.args.status w) c.self.view_is)

pub invariant_of-self : goal.invariant_of-self
invariant_of-self g c =
    let a = c.self.inside in
    let h = c.self.invariant in
    let e = c.in_default.ensures in
    record {
      filled = h.filled;
      tally = h.tally;
      links = h.links;
      held = h.held;
      small = h.small;
      kinds = h.kinds;
      slots = stack_kept vacancy a.states.items a.slots a.free c.pop.new.self h.slots e.items (omega (arith, e.capacity));
      places = h.places;
      cells = h.cells;
    }

pub returns-in_default-clause-refused : goal.returns-in_default-clause-refused
returns-in_default-clause-refused g c =
    let a = c.self.inside in
    let e = c.in_default.ensures in
    (refl, c.self.view_is, subst NoneFree c.self.view_is (none_named vacancy a.states.items a.free.items status.Free status.Free c.self.invariant.slots.lists (omega (arith, e.cases.0, a.free.ok.0)) refl))
