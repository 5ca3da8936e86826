use Rattle.world_containers.proofs.Names.{◌∙◌, ap, sym, subst, Some, ℕ, State, with_cell, shared_cell, shared_slots, Stays, stays_then, stays_write, stays_released}
use Rattle.sdd_world.specs.declared.tag.Tag.TheVariants as tag
use Rattle.sdd_world.specs.declared.status.Cell.TheVariants as cell
use Rattle.world_containers.proofs.QueueTailLemmas.{was_none, was_some, first_fits, first_appended, last_linked, last_fits, last_shared, last_appended}
use Rattle.world_containers.proofs.world.tail.append.Goals as goal

pub put_first-requires : goal.put_first-requires
put_first-requires g c =
    let r = c.requires.queue in
    let s = c.swap-previous in
    let none = was_none (shared_slots s.result.0) s.result.1 _ c.args.w.now _ r.entries r.queue.newest s.ensures.was (ap shared_slots c.in-None.is) in
    let now = s.ensures.now ∙ ap (λ (m : ℕ). with_cell (shared_cell c.args.newest.now) (cell.OfShared (Some m) tag.None) c.args.w.now) c.requires.last in
    first_fits g.L.LinkedList.link _ _ _ _ _ r.entries r.entry r.queue r.loose r.follows r.at now none

pub returns-in-None-clause-appended : goal.returns-in-None-clause-appended
returns-in-None-clause-appended g c = λ es e q k f at.
    let s = c.swap-previous in
    let none = was_none (shared_slots s.result.0) s.result.1 _ c.args.w.now _ es q.newest s.ensures.was (ap shared_slots c.in-None.is) in
    let now = s.ensures.now ∙ ap (λ (m : ℕ). with_cell (shared_cell c.args.newest.now) (cell.OfShared (Some m) tag.None) c.args.w.now) c.requires.last in
    first_appended g.L.LinkedList.link _ _ _ _ _ es e q k f at now _ none c.requires.two c.put_first.ensures.put

pub link_of-tail-requires : goal.link_of-tail-requires
link_of-tail-requires g c =
    let r = c.requires.queue in
    let s = c.swap-previous in
    let some = was_some (shared_slots s.result.0) s.result.1 _ c.args.w.now _ c.in-Some.previous.slot r.entries r.queue.newest s.ensures.was (ap shared_slots c.in-Some.is) in
    let now = s.ensures.now ∙ ap (λ (m : ℕ). with_cell (shared_cell c.args.newest.now) (cell.OfShared (Some m) tag.None) c.args.w.now) c.requires.last in
    last_linked g.L.LinkedList.link _ _ _ _ _ r.entries r.entry r.queue r.loose r.follows r.at now _ some

pub put_first-requires-in-Some : goal.put_first-requires-in-Some
put_first-requires-in-Some g c =
    let r = c.requires.queue in
    let s = c.swap-previous in
    let some = was_some (shared_slots s.result.0) s.result.1 _ c.args.w.now _ c.in-Some.previous.slot r.entries r.queue.newest s.ensures.was (ap shared_slots c.in-Some.is) in
    let now = s.ensures.now ∙ ap (λ (m : ℕ). with_cell (shared_cell c.args.newest.now) (cell.OfShared (Some m) tag.None) c.args.w.now) c.requires.last in
    last_fits g.L.LinkedList.link _ _ _ _ _ r.entries r.entry r.queue r.loose r.follows r.at now _ some _ _ c.link_of-tail.ensures c.cell.ensures

pub release-requires-clause-live : goal.release-requires-clause-live
release-requires-clause-live g c =
    let r = c.requires.queue in
    let s = c.swap-previous in
    let some = was_some (shared_slots s.result.0) s.result.1 _ c.args.w.now _ c.in-Some.previous.slot r.entries r.queue.newest s.ensures.was (ap shared_slots c.in-Some.is) in
    let now = s.ensures.now ∙ ap (λ (m : ℕ). with_cell (shared_cell c.args.newest.now) (cell.OfShared (Some m) tag.None) c.args.w.now) c.requires.last in
    last_shared g.L.LinkedList.link _ _ _ _ _ r.entries r.entry r.queue r.loose r.follows r.at now _ some _ _ c.link_of-tail.ensures c.cell.ensures _ c.put_first-in-Some.ensures.put

pub returns-in-Some-clause-appended : goal.returns-in-Some-clause-appended
returns-in-Some-clause-appended g c = λ es e q k f at.
    let s = c.swap-previous in
    let some = was_some (shared_slots s.result.0) s.result.1 _ c.args.w.now _ c.in-Some.previous.slot es q.newest s.ensures.was (ap shared_slots c.in-Some.is) in
    let now = s.ensures.now ∙ ap (λ (m : ℕ). with_cell (shared_cell c.args.newest.now) (cell.OfShared (Some m) tag.None) c.args.w.now) c.requires.last in
    last_appended g.L.LinkedList.link _ _ _ _ _ es e q k f at now _ some _ _ c.link_of-tail.ensures c.cell.ensures _ c.put_first-in-Some.ensures.put _ c.requires.two c.release.ensures.released

pub returns-in-Some-clause-stays : goal.returns-in-Some-clause-stays
returns-in-Some-clause-stays g c =
    let at = shared_cell c.args.newest.now in
    let k = cell.OfShared (Some c.args.last.slot) tag.None in
    let one = subst (λ (v : State _). Stays c.args.w.now v) (sym c.swap-previous.ensures.now) (stays_write c.args.w.now at k) in
    stays_then _ _ _ (stays_then _ _ _ one c.put_first-in-Some.ensures.stays) (stays_released 0 c.in-Some.previous.slot _ _ c.release.ensures.released c.release.ensures.keeps c.release.ensures.nests)
