use Rattle.world_containers.proofs.Names.{[], ◌∙◌, sym, subst, ℕ, false≢true, IsShared, skip, entry_link, oldest_cell, newest_cell, last_slot, item_shared, took_some, took_nothing, some_skipped, none_skipped}
use Rattle.sdd_world.specs.declared.tag.Tag.TheVariants as tag
use Rattle.world_containers.proofs.QueueLemmas.{newest_live, forgot, emptied, emptied_leaves, head3, newest3, live3, settled}
use Rattle.world_containers.proofs.world.queue.pop.Goals as goal

pub forget-requires-clause-last : goal.forget-requires-clause-last
forget-requires-clause-last g c = newest_live entry_link c.args.w.now (oldest_cell c.args.queue.now) (newest_cell c.args.queue.now) c.requires.list.entries c.requires.list.is

pub skip_deleted-requires-clause-list : goal.skip_deleted-requires-clause-list
skip_deleted-requires-clause-list g c =
    let r = c.requires.list in
    let f = forgot entry_link c.args.p _ _ r.entries _ _ r.is (c.forget.ensures.forgot (last_slot r.entries) r.is.newest) in
    record { tag = tag.None; entries = r.entries; is = f.hung }

pub returns-then-is_empty-clause-popped : goal.returns-then-is_empty-clause-popped
returns-then-is_empty-clause-popped g c = λ es q.
    let f = forgot entry_link c.args.p _ _ es _ _ q (c.forget.ensures.forgot (last_slot es) q.newest) in
    let none = (c.is_empty.ensures es q).0 c.if-is_empty.true in
    (none, emptied entry_link c.args.w.now c.forget.new.w c.skip_deleted.new.w _ _ es q f none (c.skip_deleted.ensures.skipped tag.None es f.hung) (c.skip_deleted.ensures.leaves tag.None es f.hung))

pub returns-then-is_empty-clause-list : goal.returns-then-is_empty-clause-list
returns-then-is_empty-clause-list g c = record { entries = []; is = (returns-then-is_empty-clause-popped g c c.requires.list.entries c.requires.list.is).1 }

pub returns-then-is_empty-clause-leaves : goal.returns-then-is_empty-clause-leaves
returns-then-is_empty-clause-leaves g c = λ es q.
    let f = forgot entry_link c.args.p _ _ es _ _ q (c.forget.ensures.forgot (last_slot es) q.newest) in
    emptied_leaves entry_link c.args.w.now c.forget.new.w c.skip_deleted.new.w _ _ es f (c.skip_deleted.ensures.leaves tag.None es f.hung)

pub take_first-requires : goal.take_first-requires
take_first-requires g c = let r = c.requires.list in record { tag = tag.None; entries = skip r.entries; is = c.skip_deleted-2.ensures.skipped tag.None r.entries r.is.hung }

pub unreachable-requires : goal.unreachable-requires
unreachable-requires g c =
    let r = c.requires.list in
    let k = took_nothing entry_link c.skip_deleted-2.new.w c.take_first.new.w (oldest_cell c.args.queue.now) tag.None (skip r.entries) (c.in-None.ensures.took tag.None (skip r.entries) (c.skip_deleted-2.ensures.skipped tag.None r.entries r.is.hung)) in
    false≢true (sym c.if-is_empty.false ∙ (c.is_empty.ensures r.entries r.is).1 (none_skipped r.entries k.0))

pub delete-requires : goal.delete-requires
delete-requires g c =
    let r = c.requires.list in
    let h = c.skip_deleted-2.ensures.skipped tag.None r.entries r.is.hung in
    let k = took_some entry_link c.skip_deleted-2.new.w c.take_first.new.w (oldest_cell c.args.queue.now) c.in-Some.first.slot tag.None (skip r.entries) h (c.in-Some.ensures.took tag.None (skip r.entries) h) in
    (k.entry, k.loose, k.at)

pub settle-requires-clause-oldest : goal.settle-requires-clause-oldest
settle-requires-clause-oldest g c =
    let r = c.requires.list in
    let s = c.skip_deleted-2.ensures in
    let h = s.skipped tag.None r.entries r.is.hung in
    let k = took_some entry_link c.skip_deleted-2.new.w c.take_first.new.w (oldest_cell c.args.queue.now) c.in-Some.first.slot tag.None (skip r.entries) h (c.in-Some.ensures.took tag.None (skip r.entries) h) in
    head3 entry_link c.args.w.now c.skip_deleted-2.new.w c.take_first.new.w c.delete.new.w _ (newest_cell c.args.queue.now) _ c.args.p r.entries r.is (s.same tag.None r.entries r.is.hung) (s.leaves tag.None r.entries r.is.hung) k (c.delete.ensures.deleted k.entry k.loose k.at)

pub settle-requires-clause-newest : goal.settle-requires-clause-newest
settle-requires-clause-newest g c =
    let r = c.requires.list in
    let s = c.skip_deleted-2.ensures in
    let h = s.skipped tag.None r.entries r.is.hung in
    let k = took_some entry_link c.skip_deleted-2.new.w c.take_first.new.w (oldest_cell c.args.queue.now) c.in-Some.first.slot tag.None (skip r.entries) h (c.in-Some.ensures.took tag.None (skip r.entries) h) in
    (last_slot r.entries, newest3 entry_link c.args.w.now c.skip_deleted-2.new.w c.take_first.new.w c.delete.new.w _ (newest_cell c.args.queue.now) _ c.args.p r.entries r.is (s.same tag.None r.entries r.is.hung) (s.leaves tag.None r.entries r.is.hung) k (c.delete.ensures.deleted k.entry k.loose k.at))

pub settle-requires-clause-last : goal.settle-requires-clause-last
settle-requires-clause-last g c =
    let r = c.requires.list in
    let s = c.skip_deleted-2.ensures in
    let h = s.skipped tag.None r.entries r.is.hung in
    let k = took_some entry_link c.skip_deleted-2.new.w c.take_first.new.w (oldest_cell c.args.queue.now) c.in-Some.first.slot tag.None (skip r.entries) h (c.in-Some.ensures.took tag.None (skip r.entries) h) in
    live3 entry_link c.args.w.now c.skip_deleted-2.new.w c.take_first.new.w c.delete.new.w _ (newest_cell c.args.queue.now) _ c.args.p r.entries r.is (s.same tag.None r.entries r.is.hung) (s.leaves tag.None r.entries r.is.hung) k (c.delete.ensures.deleted k.entry k.loose k.at)

pub returns-clause-popped : goal.returns-clause-popped
returns-clause-popped g c = λ es q.
    let s = c.skip_deleted-2.ensures in
    let h = s.skipped tag.None es q.hung in
    let k = took_some entry_link c.skip_deleted-2.new.w c.take_first.new.w (oldest_cell c.args.queue.now) c.in-Some.first.slot tag.None (skip es) h (c.in-Some.ensures.took tag.None (skip es) h) in
    let done = settled entry_link c.args.w.now c.skip_deleted-2.new.w c.take_first.new.w c.delete.new.w _ (newest_cell c.args.queue.now) _ c.args.p es q (s.same tag.None es q.hung) (s.leaves tag.None es q.hung) k (c.delete.ensures.deleted k.entry k.loose k.at) c.settle.new.w c.settle.ensures.some c.settle.ensures.none in
    record { entry = k.entry; rest = k.rest; is = some_skipped k.entry k.rest es k.is; at = k.at; left = done.queue; apart = k.alone; gone = done.gone }

pub returns-clause-live : goal.returns-clause-live
returns-clause-live g c =
    let p = returns-clause-popped g c c.requires.list.entries c.requires.list.is in
    subst (λ (i : ℕ). IsShared c.settle.new.w i) (sym p.at) (item_shared entry_link c.settle.new.w (record p.entry { tag = tag.Second }) p.gone.item)

pub returns-clause-list : goal.returns-clause-list
returns-clause-list g c = let p = returns-clause-popped g c c.requires.list.entries c.requires.list.is in record { entries = p.rest; is = p.left }

pub returns-clause-leaves : goal.returns-clause-leaves
returns-clause-leaves g c = λ es q.
    let s = c.skip_deleted-2.ensures in
    let h = s.skipped tag.None es q.hung in
    let k = took_some entry_link c.skip_deleted-2.new.w c.take_first.new.w (oldest_cell c.args.queue.now) c.in-Some.first.slot tag.None (skip es) h (c.in-Some.ensures.took tag.None (skip es) h) in
    (settled entry_link c.args.w.now c.skip_deleted-2.new.w c.take_first.new.w c.delete.new.w _ (newest_cell c.args.queue.now) _ c.args.p es q (s.same tag.None es q.hung) (s.leaves tag.None es q.hung) k (c.delete.ensures.deleted k.entry k.loose k.at) c.settle.new.w c.settle.ensures.some c.settle.ensures.none).leaves
