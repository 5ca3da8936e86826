use Rattle.std.proofs.Common.{length-set, ap, sym, ◌∙◌, arith, ◌≡◌, subst, get_or, Option, ◌-◌, true, false}
use Rattle.std.proofs.lemmas.List.{get_or_default}
use Rattle.std.proofs.lemmas.List.Sums.{get_or-le-sum_by}
use Rattle.sdd_table.specs.State.{State, participant_at, vacancy, idleness, usage, is_used, is_job, vacated}
use Rattle.sdd_table.specs.View.{IsTable, state_of}
use Rattle.sdd_table.specs.Chains.{Shown}
use Rattle.sdd_table.specs.declared.status.Status.TheVariants as status
use Rattle.sdd_table.proofs.SlotLemmas.{known_in, taken_result, due_waits, within_values, vacated_invariant, run_invariant, slot_room, idle_room, waits_item, waits_job, job_room}
use Rattle.sdd_table.proofs.table.Table.take_due.Goals as goal

pub invariant_of-self : goal.invariant_of-self
invariant_of-self g c = subst (λ (z : Shown). IsTable (record c.self.inside { participants = z })) (sym c.in-None.ensures.none.1) c.self.invariant

pub returns-in-None : goal.returns-in-None
returns-in-None g c =
    let s = c.in-None.ensures.none in
    (ap (λ (w : State _). (participant_at w c.args.p).due) (sym c.self.view_is) ∙ s.0, ap (λ (z : Shown). record (state_of c.self.inside) { participants = z.all }) s.1 ∙ c.self.view_is)

pub index-requires : goal.index-requires
index-requires g c =
    let known = known_in c.self.inside c.args.self.now _ c.self.view_is c.requires.participant in
    let s = c.in-Some.ensures.taken in
    let d = due_waits c.self.inside c.args.self.now c.args.p c.in-Some.i s.0 c.self.view_is s.1 c.requires.waits in
    omega (arith, d.0, c.self.inside.states.ok.0)

pub index_mut-requires : goal.index_mut-requires
index_mut-requires g c =
    let known = known_in c.self.inside c.args.self.now _ c.self.view_is c.requires.participant in
    let s = c.in-Some.ensures.taken in
    let d = due_waits c.self.inside c.args.self.now c.args.p c.in-Some.i s.0 c.self.view_is s.1 c.requires.waits in
    omega (arith, d.0, c.self.inside.states.ok.0)

pub index_mut-requires-in-Some : goal.index_mut-requires-in-Some
index_mut-requires-in-Some g c =
    let known = known_in c.self.inside c.args.self.now _ c.self.view_is c.requires.participant in
    let s = c.in-Some.ensures.taken in
    let d = due_waits c.self.inside c.args.self.now c.args.p c.in-Some.i s.0 c.self.view_is s.1 c.requires.waits in
    omega (arith, d.0, c.self.inside.states.ok.0)

pub overflow_sub-self : goal.overflow_sub-self
overflow_sub-self g c =
    let known = known_in c.self.inside c.args.self.now _ c.self.view_is c.requires.participant in
    let s = c.in-Some.ensures.taken in
    let d = due_waits c.self.inside c.args.self.now c.args.p c.in-Some.i s.0 c.self.view_is s.1 c.requires.waits in
    let at = get_or_default c.self.inside.states.items c.in-Some.i c.index.result.now status.Free d.0 in
    let used : is_used (get_or c.self.inside.states.items c.in-Some.i status.Free) ≡ true = ap is_used (sym at) ∙ ap is_used (sym c.index.ensures) ∙ sym c.has_item.ensures ∙ c.if-has_item.true in
    let was = waits_item _ d.1 used in
    let one : usage (get_or c.self.inside.states.items c.in-Some.i status.Free) ≡ 1 = ap usage was in
    omega (arith, c.self.invariant.tally, get_or-le-sum_by usage c.self.inside.states.items c.in-Some.i status.Free d.0, one)

pub keep_name-requires : goal.keep_name-requires
keep_name-requires g c =
    let known = known_in c.self.inside c.args.self.now _ c.self.view_is c.requires.participant in
    let s = c.in-Some.ensures.taken in
    let d = due_waits c.self.inside c.args.self.now c.args.p c.in-Some.i s.0 c.self.view_is s.1 c.requires.waits in
    let at = get_or_default c.self.inside.states.items c.in-Some.i c.index.result.now status.Free d.0 in
    let used : is_used (get_or c.self.inside.states.items c.in-Some.i status.Free) ≡ true = ap is_used (sym at) ∙ ap is_used (sym c.index.ensures) ∙ sym c.has_item.ensures ∙ c.if-has_item.true in
    let was = waits_item _ d.1 used in
    slot_room c.self.inside c.in-Some.i c.self.invariant d.0 (ap is_job was) (ap vacancy was)

pub index_mut-requires-then-has_item : goal.index_mut-requires-then-has_item
index_mut-requires-then-has_item g c =
    let known = known_in c.self.inside c.args.self.now _ c.self.view_is c.requires.participant in
    let s = c.in-Some.ensures.taken in
    let d = due_waits c.self.inside c.args.self.now c.args.p c.in-Some.i s.0 c.self.view_is s.1 c.requires.waits in
    within_values c.self.inside c.in-Some.i c.self.invariant d.0

pub invariant_of-self-then-has_item : goal.invariant_of-self-then-has_item
invariant_of-self-then-has_item g c =
    let known = known_in c.self.inside c.args.self.now _ c.self.view_is c.requires.participant in
    let s = c.in-Some.ensures.taken in
    let d = due_waits c.self.inside c.args.self.now c.args.p c.in-Some.i s.0 c.self.view_is s.1 c.requires.waits in
    let at = get_or_default c.self.inside.states.items c.in-Some.i c.index.result.now status.Free d.0 in
    let used : is_used (get_or c.self.inside.states.items c.in-Some.i status.Free) ≡ true = ap is_used (sym at) ∙ ap is_used (sym c.index.ensures) ∙ sym c.has_item.ensures ∙ c.if-has_item.true in
    let was = waits_item _ d.1 used in
    vacated_invariant c.self.inside c.take-value.new.self c.args.p c.in-Some.i s.0 c.next.new.self c.keep_name.new.stack c.self.invariant known d.0 was c.take-value.ensures.after s.1 s.2 c.keep_name.ensures.items c.keep_name.ensures.room

pub returns-then-has_item : goal.returns-then-has_item
returns-then-has_item g c =
    let known = known_in c.self.inside c.args.self.now _ c.self.view_is c.requires.participant in
    let s = c.in-Some.ensures.taken in
    let d = due_waits c.self.inside c.args.self.now c.args.p c.in-Some.i s.0 c.self.view_is s.1 c.requires.waits in
    let at = get_or_default c.self.inside.states.items c.in-Some.i c.index.result.now status.Free d.0 in
    let used : is_used (get_or c.self.inside.states.items c.in-Some.i status.Free) ≡ true = ap is_used (sym at) ∙ ap is_used (sym c.index.ensures) ∙ sym c.has_item.ensures ∙ c.if-has_item.true in
    let was = waits_item _ d.1 used in
    let read : c.take-value.result ≡ get_or c.self.inside.values.items c.in-Some.i c.take-value.result = subst (λ (y : Option _). y ≡ get_or c.self.inside.values.items c.in-Some.i y) (sym c.take-value.ensures.value) c.index_mut-then-has_item.ensures.value in
    taken_result c.self.inside c.args.self.now c.args.p c.in-Some.i s.0 c.next.new.self c.take-value.result c.take-value.new.self status.Free (c.self.inside.used - 1) c.keep_name.new.stack c.self.inside.idle c.self.view_is c.self.invariant s.1 s.2 d.0 (sym (ap vacated was)) read c.take-value.ensures.after

pub keep_name-requires-in-Some : goal.keep_name-requires-in-Some
keep_name-requires-in-Some g c =
    let known = known_in c.self.inside c.args.self.now _ c.self.view_is c.requires.participant in
    let s = c.in-Some.ensures.taken in
    let d = due_waits c.self.inside c.args.self.now c.args.p c.in-Some.i s.0 c.self.view_is s.1 c.requires.waits in
    let at = get_or_default c.self.inside.states.items c.in-Some.i c.index.result.now status.Free d.0 in
    let used : is_used (get_or c.self.inside.states.items c.in-Some.i status.Free) ≡ false = ap is_used (sym at) ∙ ap is_used (sym c.index.ensures) ∙ sym c.has_item.ensures ∙ c.if-has_item.false in
    let was = waits_job _ d.1 used in
    idle_room c.self.inside c.in-Some.i c.self.invariant d.0 (ap is_job was) (ap idleness was)

pub overflow_sub-i : goal.overflow_sub-i
overflow_sub-i g c =
    let known = known_in c.self.inside c.args.self.now _ c.self.view_is c.requires.participant in
    let s = c.in-Some.ensures.taken in
    let d = due_waits c.self.inside c.args.self.now c.args.p c.in-Some.i s.0 c.self.view_is s.1 c.requires.waits in
    let at = get_or_default c.self.inside.states.items c.in-Some.i c.index.result.now status.Free d.0 in
    let used : is_used (get_or c.self.inside.states.items c.in-Some.i status.Free) ≡ false = ap is_used (sym at) ∙ ap is_used (sym c.index.ensures) ∙ sym c.has_item.ensures ∙ c.if-has_item.false in
    (job_room c.self.inside c.in-Some.i c.self.invariant (ap is_job (waits_job _ d.1 used))).0

pub index_mut-requires-in-Some-2 : goal.index_mut-requires-in-Some-2
index_mut-requires-in-Some-2 g c =
    let known = known_in c.self.inside c.args.self.now _ c.self.view_is c.requires.participant in
    let s = c.in-Some.ensures.taken in
    let d = due_waits c.self.inside c.args.self.now c.args.p c.in-Some.i s.0 c.self.view_is s.1 c.requires.waits in
    let at = get_or_default c.self.inside.states.items c.in-Some.i c.index.result.now status.Free d.0 in
    let used : is_used (get_or c.self.inside.states.items c.in-Some.i status.Free) ≡ false = ap is_used (sym at) ∙ ap is_used (sym c.index.ensures) ∙ sym c.has_item.ensures ∙ c.if-has_item.false in
    (job_room c.self.inside c.in-Some.i c.self.invariant (ap is_job (waits_job _ d.1 used))).1

pub index_mut-requires-in-Some-3 : goal.index_mut-requires-in-Some-3
index_mut-requires-in-Some-3 g c =
    let known = known_in c.self.inside c.args.self.now _ c.self.view_is c.requires.participant in
    let s = c.in-Some.ensures.taken in
    let d = due_waits c.self.inside c.args.self.now c.args.p c.in-Some.i s.0 c.self.view_is s.1 c.requires.waits in
    within_values c.self.inside c.in-Some.i c.self.invariant d.0

pub invariant_of-self-in-Some : goal.invariant_of-self-in-Some
invariant_of-self-in-Some g c =
    let known = known_in c.self.inside c.args.self.now _ c.self.view_is c.requires.participant in
    let s = c.in-Some.ensures.taken in
    let d = due_waits c.self.inside c.args.self.now c.args.p c.in-Some.i s.0 c.self.view_is s.1 c.requires.waits in
    let at = get_or_default c.self.inside.states.items c.in-Some.i c.index.result.now status.Free d.0 in
    let used : is_used (get_or c.self.inside.states.items c.in-Some.i status.Free) ≡ false = ap is_used (sym at) ∙ ap is_used (sym c.index.ensures) ∙ sym c.has_item.ensures ∙ c.if-has_item.false in
    let was = waits_job _ d.1 used in
    run_invariant c.self.inside c.take-value-in-Some.new.self _ c.args.p c.in-Some.i s.0 c.next.new.self c.keep_name-in-Some.new.stack c.self.invariant (length-set c.self.inside.jobs.items _ _) known d.0 was c.take-value-in-Some.ensures.after s.1 s.2 c.keep_name-in-Some.ensures.items c.keep_name-in-Some.ensures.room

pub returns-else-has_item : goal.returns-else-has_item
returns-else-has_item g c =
    let known = known_in c.self.inside c.args.self.now _ c.self.view_is c.requires.participant in
    let s = c.in-Some.ensures.taken in
    let d = due_waits c.self.inside c.args.self.now c.args.p c.in-Some.i s.0 c.self.view_is s.1 c.requires.waits in
    let at = get_or_default c.self.inside.states.items c.in-Some.i c.index.result.now status.Free d.0 in
    let used : is_used (get_or c.self.inside.states.items c.in-Some.i status.Free) ≡ false = ap is_used (sym at) ∙ ap is_used (sym c.index.ensures) ∙ sym c.has_item.ensures ∙ c.if-has_item.false in
    let was = waits_job _ d.1 used in
    let read : c.take-value-in-Some.result ≡ get_or c.self.inside.values.items c.in-Some.i c.take-value-in-Some.result = subst (λ (y : Option _). y ≡ get_or c.self.inside.values.items c.in-Some.i y) (sym c.take-value-in-Some.ensures.value) c.index_mut-in-Some-3.ensures.value in
    taken_result c.self.inside c.args.self.now c.args.p c.in-Some.i s.0 c.next.new.self c.take-value-in-Some.result c.take-value-in-Some.new.self status.Idle c.self.inside.used c.self.inside.free c.keep_name-in-Some.new.stack c.self.view_is c.self.invariant s.1 s.2 d.0 (sym (ap vacated was)) read c.take-value-in-Some.ensures.after

pub next-requires : goal.next-requires
next-requires g c = known_in c.self.inside c.args.self.now _ c.self.view_is c.requires.participant
