use Rattle.std.proofs.Common.{refl, ap, sym, ◌∙◌, arith, List, ◌++◌, ◌∷◌, [], replicate}
use Rattle.std.proofs.lemmas.List.{append_assoc}
use Rattle.sdd_table.specs.State.{vacancy, idleness}
use Rattle.sdd_table.specs.declared.status.Status.{Status}
use Rattle.sdd_table.specs.declared.status.Status.TheVariants as status
use Rattle.sdd_table.proofs.ListLemmas.{replicate-push, lists_grow, lists_skip}
use Rattle.sdd_table.proofs.table.idle_places.Goals as goal

pub loop-preserved : goal.loop-preserved
loop-preserved c =
    let h = c.loop.invariant in
    let e = c.in_ok-push-2.ensures.items in
    let f = c.in_ok-push.ensures.items in
    let at = c.len.ensures ∙ c.loop.states.ok.0 in
    let other = c.in_ok-push.ensures.capacity in
    record {
      states = e ∙ ap (λ (xs : List Status). xs ++ status.Idle ∷ []) h.states ∙ append_assoc c.args.states.now.items (replicate c.loop.counter status.Idle) (status.Idle ∷ []) ∙ ap (λ (xs : List Status). c.args.states.now.items ++ xs) (sym (replicate-push c.loop.counter status.Idle));
      room = omega (arith, h.room, other);
      free = λ names k. rw e (lists_skip vacancy c.loop.states.items status.Idle names refl (h.free names k));
      idle = rw (e, f) (lists_grow idleness c.loop.states.items status.Idle c.loop.idle.items c.len.result at refl h.idle);
    }
