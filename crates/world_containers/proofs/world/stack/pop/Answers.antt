use Rattle.world_containers.proofs.Names.{◌∷◌, [], sym, subst, ℕ, refl, shared_cell, IsShared, entry_link, skip, links, slots, item_shared, leaves_then, leaves_more, took_some, took_nothing, popped_left, popped_gone, popped_leaves, some_skipped, none_skipped}
use Rattle.sdd_world.specs.declared.tag.Tag.TheVariants as tag
use Rattle.world_containers.proofs.world.stack.pop.Goals as goal

pub take_first-requires : goal.take_first-requires
take_first-requires g c = record { tag = tag.None; entries = skip c.requires.list.entries; is = c.skip_deleted.ensures.skipped tag.None c.requires.list.entries c.requires.list.is }

pub delete-requires : goal.delete-requires
delete-requires g c =
    let h = c.skip_deleted.ensures.skipped tag.None c.requires.list.entries c.requires.list.is in
    let k = took_some entry_link c.skip_deleted.new.w c.take_first.new.w _ c.in-Some.first.slot tag.None (skip c.requires.list.entries) h (c.in-Some.ensures.took tag.None (skip c.requires.list.entries) h) in
    (k.entry, k.loose, k.at)

pub returns-in-None-clause-popped : goal.returns-in-None-clause-popped
returns-in-None-clause-popped g c = λ es h.
    let k = took_nothing entry_link c.skip_deleted.new.w c.take_first.new.w (shared_cell c.args.stack.now.newest) tag.None (skip es) (c.in-None.ensures.took tag.None (skip es) (c.skip_deleted.ensures.skipped tag.None es h)) in
    (none_skipped es k.0, k.1)

pub returns-in-None-clause-list : goal.returns-in-None-clause-list
returns-in-None-clause-list g c = record { entries = []; is = (returns-in-None-clause-popped g c c.requires.list.entries c.requires.list.is).1 }

pub returns-in-None-clause-leaves : goal.returns-in-None-clause-leaves
returns-in-None-clause-leaves g c = λ es h.
    let k = took_nothing entry_link c.skip_deleted.new.w c.take_first.new.w (shared_cell c.args.stack.now.newest) tag.None (skip es) (c.in-None.ensures.took tag.None (skip es) (c.skip_deleted.ensures.skipped tag.None es h)) in
    leaves_then (shared_cell c.args.stack.now.newest ∷ links es) (slots es) c.args.w.now c.skip_deleted.new.w c.take_first.new.w (c.skip_deleted.ensures.leaves tag.None es h) (leaves_more [] [] (shared_cell c.args.stack.now.newest ∷ links es) (slots es) c.skip_deleted.new.w c.take_first.new.w (λ j out. tt) (λ j out. tt) k.2)

pub returns-in-Some-clause-popped : goal.returns-in-Some-clause-popped
returns-in-Some-clause-popped g c = λ es h.
    let s = c.skip_deleted.ensures.skipped tag.None es h in
    let k = took_some entry_link c.skip_deleted.new.w c.take_first.new.w _ c.in-Some.first.slot tag.None (skip es) s (c.in-Some.ensures.took tag.None (skip es) s) in
    let is = c.delete.ensures.deleted k.entry k.loose k.at in
    record {
      entry = k.entry;
      rest = k.rest;
      is = some_skipped k.entry k.rest es k.is;
      at = k.at;
      left = popped_left entry_link _ _ _ _ _ tag.None (skip es) k is;
      apart = k.alone;
      gone = popped_gone entry_link _ _ _ _ _ tag.None (skip es) k is;
    }

pub returns-in-Some-clause-live : goal.returns-in-Some-clause-live
returns-in-Some-clause-live g c =
    let p = returns-in-Some-clause-popped g c c.requires.list.entries c.requires.list.is in
    subst (λ (i : ℕ). IsShared c.delete.new.w i) (sym p.at) (item_shared entry_link c.delete.new.w (record p.entry { tag = tag.Second }) p.gone.item)

pub returns-in-Some-clause-list : goal.returns-in-Some-clause-list
returns-in-Some-clause-list g c = let p = returns-in-Some-clause-popped g c c.requires.list.entries c.requires.list.is in record { entries = p.rest; is = p.left }

pub returns-in-Some-clause-leaves : goal.returns-in-Some-clause-leaves
returns-in-Some-clause-leaves g c = λ es h.
    let s = c.skip_deleted.ensures.skipped tag.None es h in
    let k = took_some entry_link c.skip_deleted.new.w c.take_first.new.w _ c.in-Some.first.slot tag.None (skip es) s (c.in-Some.ensures.took tag.None (skip es) s) in
    popped_leaves entry_link _ _ _ _ _ tag.None (skip es) k (c.delete.ensures.deleted k.entry k.loose k.at) c.args.w.now es refl (c.skip_deleted.ensures.leaves tag.None es h)
