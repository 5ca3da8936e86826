use Rattle.world_containers.proofs.Names.{◌∷◌, ◌∙◌, ap, sym, subst, None, State, IsFreeCell, cell_at, links, slots, Leaves, entry_link, oldest_cell, newest_cell, last_slot, cell_left, free_other, wrote_other, leaves_write}
use Rattle.sdd_world.specs.declared.tag.Tag.TheVariants as tag
use Rattle.sdd_world.specs.declared.status.Cell.TheVariants as cell
use Rattle.world_containers.proofs.QueueLemmas.{newest_live, forgot, emptied_leaves}
use Rattle.world_containers.proofs.world.queue.retire.Goals as goal

pub forget-requires-clause-last : goal.forget-requires-clause-last
forget-requires-clause-last g c = newest_live entry_link c.args.w.now (oldest_cell c.args.queue) (newest_cell c.args.queue) c.requires.list.entries c.requires.list.is

pub clear-requires-clause-list : goal.clear-requires-clause-list
clear-requires-clause-list g c =
    let r = c.requires.list in
    let f = forgot entry_link c.args.p _ _ r.entries _ _ r.is (c.forget.ensures.forgot (last_slot r.entries) r.is.newest) in
    record { tag = tag.None; entries = r.entries; is = f.hung }

pub end-requires : goal.end-requires
end-requires g c =
    let r = c.requires.list in
    let f = forgot entry_link c.args.p _ _ r.entries _ _ r.is (c.forget.ensures.forgot (last_slot r.entries) r.is.newest) in
    (tag.None, c.clear.ensures.cleared tag.None r.entries f.hung)

pub end-requires-2 : goal.end-requires-2
end-requires-2 g c =
    let r = c.requires.list in
    let at = oldest_cell c.args.queue in
    let to = newest_cell c.args.queue in
    let f = forgot entry_link c.args.p _ _ r.entries _ _ r.is (c.forget.ensures.forgot (last_slot r.entries) r.is.newest) in
    let kept = cell_left entry_link (at ∷ links r.entries) (slots r.entries) c.forget.new.w c.clear.new.w to None tag.None (c.clear.ensures.leaves tag.None r.entries f.hung) (r.is.apart, r.is.out) f.newest in
    (tag.None, ap (λ (v : State _). cell_at v to) c.end.ensures.ended ∙ wrote_other c.clear.new.w at to cell.Free r.is.apart ∙ kept)

pub returns-clause-ended : goal.returns-clause-ended
returns-clause-ended g c = (subst (λ (v : State _). IsFreeCell v (oldest_cell c.args.queue)) (sym c.end-2.ensures.ended) (free_other c.end.new.w (oldest_cell c.args.queue) (newest_cell c.args.queue) cell.Free c.end.ensures.free (λ e. c.requires.list.is.apart (sym e))), c.end-2.ensures.free)

pub returns-clause-leaves : goal.returns-clause-leaves
returns-clause-leaves g c = λ es q.
    let at = oldest_cell c.args.queue in
    let to = newest_cell c.args.queue in
    let f = forgot entry_link c.args.p _ _ es _ _ q (c.forget.ensures.forgot (last_slot es) q.newest) in
    let all = at ∷ to ∷ links es in
    let l = emptied_leaves entry_link c.args.w.now c.forget.new.w c.clear.new.w at to es f (c.clear.ensures.leaves tag.None es f.hung) in
    let one = leaves_write all (slots es) c.args.w.now c.clear.new.w at cell.Free (λ j out. out.0) l in
    let first = subst (λ (v : State _). Leaves all (slots es) c.args.w.now v) (sym c.end.ensures.ended) one in
    let two = leaves_write all (slots es) c.args.w.now c.end.new.w to cell.Free (λ j out. out.1.0) first in
    subst (λ (v : State _). Leaves all (slots es) c.args.w.now v) (sym c.end-2.ensures.ended) two
