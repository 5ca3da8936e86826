use Rattle.world_containers.proofs.Names.{◌∙◌, shared_slot, skip, entry_link, oldest_cell, newest_cell, first_skipped, first_use, more_shared}
use Rattle.sdd_world.specs.declared.tag.Tag.TheVariants as tag
use Rattle.sdd_lists.proofs.FirstLemmas.{skipped_leaves}
use Rattle.world_containers.proofs.QueueLemmas.{skipped_queue, owned_queue, queue_back}
use Rattle.world_containers.proofs.world.queue.share_oldest.Goals as goal

pub share_first-requires : goal.share_first-requires
share_first-requires g c = let r = c.requires.list in record { tag = tag.None; entries = skip r.entries; is = c.skip_deleted.ensures.skipped tag.None r.entries r.is.hung }

pub returns-in-Some-clause-kept : goal.returns-in-Some-clause-kept
returns-in-Some-clause-kept g c = λ es q some.
    let s = c.skip_deleted.ensures in
    let h = s.skipped tag.None es q.hung in
    let k = skipped_queue entry_link c.args.w.now c.skip_deleted.new.w (oldest_cell c.args.queue.now) (newest_cell c.args.queue.now) es q (s.leaves tag.None es q.hung) h (s.same tag.None es q.hung) some in
    owned_queue entry_link c.skip_deleted.new.w c.share_first.new.w (oldest_cell c.args.queue.now) (newest_cell c.args.queue.now) (skip es) k (c.share_first.ensures.leaves tag.None (skip es) h) (c.share_first.ensures.hung tag.None (skip es) h) c.share_first.ensures.owners

pub returns-in-None-clause-kept : goal.returns-in-None-clause-kept
returns-in-None-clause-kept g c = λ es q some.
    let s = c.skip_deleted.ensures in
    let h = s.skipped tag.None es q.hung in
    let k = skipped_queue entry_link c.args.w.now c.skip_deleted.new.w (oldest_cell c.args.queue.now) (newest_cell c.args.queue.now) es q (s.leaves tag.None es q.hung) h (s.same tag.None es q.hung) some in
    owned_queue entry_link c.skip_deleted.new.w c.share_first.new.w (oldest_cell c.args.queue.now) (newest_cell c.args.queue.now) (skip es) k (c.share_first.ensures.leaves tag.None (skip es) h) (c.share_first.ensures.hung tag.None (skip es) h) c.share_first.ensures.owners

pub returns-in-Some-clause-some : goal.returns-in-Some-clause-some
returns-in-Some-clause-some g c = λ es q. c.in-Some.ensures.some tag.None (skip es) (c.skip_deleted.ensures.skipped tag.None es q.hung) ∙ first_skipped es

pub returns-in-None-clause-none : goal.returns-in-None-clause-none
returns-in-None-clause-none g c = λ es q. first_use 4294967295 es c.args.w.now c.skip_deleted.new.w (c.skip_deleted.ensures.same tag.None es q.hung) (c.in-None.ensures.none tag.None (skip es) (c.skip_deleted.ensures.skipped tag.None es q.hung))

pub returns-in-Some-clause-leaves : goal.returns-in-Some-clause-leaves
returns-in-Some-clause-leaves g c = λ es q. skipped_leaves _ _ _ (oldest_cell c.args.queue.now) es (c.skip_deleted.ensures.leaves tag.None es q.hung) (c.share_first.ensures.leaves tag.None (skip es) (c.skip_deleted.ensures.skipped tag.None es q.hung))

pub returns-in-None-clause-leaves : goal.returns-in-None-clause-leaves
returns-in-None-clause-leaves g c = λ es q. skipped_leaves _ _ _ (oldest_cell c.args.queue.now) es (c.skip_deleted.ensures.leaves tag.None es q.hung) (c.share_first.ensures.leaves tag.None (skip es) (c.skip_deleted.ensures.skipped tag.None es q.hung))

pub returns-in-Some-clause-spare : goal.returns-in-Some-clause-spare
returns-in-Some-clause-spare g c = λ p es q some.
    let s = c.skip_deleted.ensures in
    let k = skipped_queue entry_link c.args.w.now c.skip_deleted.new.w (oldest_cell c.args.queue.now) (newest_cell c.args.queue.now) es q (s.leaves tag.None es q.hung) (s.skipped tag.None es q.hung) (s.same tag.None es q.hung) some in
    queue_back entry_link p (shared_slot c.in-Some.owner) (oldest_cell c.args.queue.now) (newest_cell c.args.queue.now) (skip es) c.skip_deleted.new.w c.share_first.new.w c.in-Some.ensures.more k (returns-in-Some-clause-kept g c es q some)

pub returns-in-Some-clause-owner : goal.returns-in-Some-clause-owner
returns-in-Some-clause-owner g c = more_shared c.skip_deleted.new.w c.share_first.new.w (shared_slot c.in-Some.owner) c.in-Some.ensures.more
