use Rattle.std.proofs.Common.{refl, ap, sym, ◌∙◌, arith, length, List, ◌++◌, ◌∷◌, []}
use Rattle.std.proofs.lemmas.List.{length-replicate}
use Rattle.sdd_table.specs.State.{vacancy, idleness}
use Rattle.sdd_table.specs.declared.status.Status.{Status}
use Rattle.sdd_table.specs.declared.status.Status.TheVariants as status
use Rattle.sdd_table.proofs.ListLemmas.{replicate-push, lists_grow, lists_skip}
use Rattle.sdd_table.proofs.table.free_slots.Goals as goal

pub loop-i-preserved : goal.loop-i-preserved
loop-i-preserved c =
    let h = c.loop-i.invariant in
    let e = c.in_ok-push.ensures.items in
    let f = c.in_ok-push-2.ensures.items in
    let at = sym (ap length h.states ∙ length-replicate c.loop-i.i status.Free) in
    let more = c.in_ok-push.ensures.capacity in
    let other = c.in_ok-push-2.ensures.capacity in
    record {
      states = e ∙ ap (λ (xs : List Status). xs ++ status.Free ∷ []) h.states ∙ sym (replicate-push c.loop-i.i status.Free);
      capacity = omega (arith, h.capacity, more);
      room = omega (arith, h.room, other);
      free = rw (e, f) (lists_grow vacancy c.loop-i.states.items status.Free c.loop-i.free.items c.loop-i.i at refl h.free);
      idle = rw e (lists_skip idleness c.loop-i.states.items status.Free [] refl h.idle);
    }
