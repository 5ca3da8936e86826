use Rattle.std.proofs.Common.{◌≡◌, ◌<◌, ◌∙◌, ap, arith, length, length-set, refl, subst}
use Rattle.sdd_table.specs.State.{State, idleness, is_job, status_at, waiting_as, weight, NoneIdle}
use Rattle.sdd_table.specs.declared.status.Status.TheVariants as status
use Rattle.sdd_table.proofs.SlotLemmas.{named_idle, none_named, stack_kept, job_room, in_none, waiting_view, known_in, deferred_invariant}
use Rattle.sdd_table.proofs.table.Table.defer.Goals as goal

pub index_mut-requires : goal.index_mut-requires
index_mut-requires g c =
    let r = named_idle c.self.inside c.pop.new.self.items c.in-Some.i c.self.invariant c.in-Some.ensures.items in
    omega (arith, r.0, c.self.inside.states.ok.0)

pub overflow_sub-i : goal.overflow_sub-i
overflow_sub-i g c =
    let r = named_idle c.self.inside c.pop.new.self.items c.in-Some.i c.self.invariant c.in-Some.ensures.items in
    (job_room c.self.inside c.in-Some.i c.self.invariant (ap is_job r.1)).0

pub index_mut-requires-2 : goal.index_mut-requires-2
index_mut-requires-2 g c =
    let r = named_idle c.self.inside c.pop.new.self.items c.in-Some.i c.self.invariant c.in-Some.ensures.items in
    (job_room c.self.inside c.in-Some.i c.self.invariant (ap is_job r.1)).1

pub put-requires : goal.put-requires
put-requires g c =
    let a = c.self.inside in
    let r = named_idle a c.pop.new.self.items c.in-Some.i c.self.invariant c.in-Some.ensures.items in
    record {
      participant = known_in a c.args.self.now _ c.self.view_is c.requires;
      place = omega (arith, c.self.invariant.links, r.0);
      none = in_none a c.in-Some.i c.self.invariant (ap weight r.1);
    }

pub invariant_of-self-2 : goal.invariant_of-self-2
invariant_of-self-2 g c =
    let a = c.self.inside in
    let r = named_idle a c.pop.new.self.items c.in-Some.i c.self.invariant c.in-Some.ensures.items in
    let cap = c.in-Some.ensures.capacity in
    deferred_invariant a c.args.p c.in-Some.i c.put.new.self _ c.pop.new.self c.self.invariant (known_in a c.args.self.now _ c.self.view_is c.requires) r.0 r.1 (length-set a.jobs.items _ _) c.put.ensures c.in-Some.ensures.items (omega (arith, cap))

pub returns-clause-deferred : goal.returns-clause-deferred
returns-clause-deferred g c =
    let a = c.self.inside in
    let r = named_idle a c.pop.new.self.items c.in-Some.i c.self.invariant c.in-Some.ensures.items in
    let idle = subst (λ (w : State _). (c.in-Some.i < length w.states) × (status_at w c.in-Some.i ≡ status.Idle)) c.self.view_is r in
    (c.in-Some.i, idle, waiting_view a c.args.p c.in-Some.i status.Deferred c.put.new.self c.put.ensures ∙ ap (λ (w : State _). waiting_as status.Deferred c.args.p c.in-Some.i w) c.self.view_is)

pub invariant_of-self : goal.invariant_of-self
invariant_of-self g c =
    let a = c.self.inside in
    let h = c.self.invariant in
    let e = c.in_default.ensures in
    record {
      filled = h.filled;
      tally = h.tally;
      links = h.links;
      held = h.held;
      small = h.small;
      kinds = h.kinds;
      slots = h.slots;
      places = stack_kept idleness a.states.items (length a.jobs.items) a.idle c.pop.new.self h.places e.items (omega (arith, e.capacity));
      cells = h.cells;
    }

pub returns-in_default-clause-refused : goal.returns-in_default-clause-refused
returns-in_default-clause-refused g c =
    let a = c.self.inside in
    let e = c.in_default.ensures in
    (refl, c.self.view_is, subst NoneIdle c.self.view_is (none_named idleness a.states.items a.idle.items status.Free status.Idle c.self.invariant.places.lists (omega (arith, e.cases.0, a.idle.ok.0)) refl))
