use Rattle.std.proofs.Common.{[], ◌∷◌, ◌++◌, None, length, refl, sym, ap, ◌∙◌, arith}
use Rattle.std.proofs.lemmas.List.{length-replicate}
use Rattle.sdd_world.proofs.ListLemmas.{lists_grow, replicate-push}
use Rattle.local_versions.specs.Store.{gap}
use Rattle.local_versions.proofs.store.readers.free_all.Goals as goal

pub loop-place-preserved : goal.loop-place-preserved
loop-place-preserved g c =
    let h = c.loop-place.invariant in
    let e = c.push_reserved.ensures.items in
    let f = c.push_reserved-in-loop-place.ensures.items in
    let wide = c.push_reserved.ensures.capacity in
    let long = c.push_reserved-in-loop-place.ensures.capacity in
    let at = sym (ap length h.made ∙ length-replicate c.loop-place.place None) in
    record {
      made = e ∙ ap (λ xs. xs ++ None ∷ []) h.made ∙ sym (replicate-push c.loop-place.place None);
      room = omega (arith, h.room, wide);
      listed = rw (e, f) (lists_grow gap c.loop-place.readers.items None c.loop-place.free.items c.loop-place.place at refl h.listed);
      names = omega (arith, h.names, long);
    }
