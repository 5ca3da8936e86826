use Rattle.world_containers.proofs.Names.{ap, shared_cell, entry_link, skip, first_slot, head_cell, skipped_first, first_none}
use Rattle.sdd_world.specs.declared.tag.Tag.TheVariants as tag
use Rattle.world_containers.proofs.world.queue.is_empty.Goals as goal

pub is_null-requires : goal.is_null-requires
is_null-requires g c = let r = c.skip_from.ensures tag.None c.requires.entries c.requires.is.hung in head_cell entry_link c.args.w.now (shared_cell c.skip_from.result.now) r.0 (skip c.requires.entries) r.1

pub returns : goal.returns
returns g c = λ es q. let h = q.hung in
    let r = c.skip_from.ensures tag.None es h in
    let n = c.is_null.ensures _ r.0 (skipped_first entry_link c.args.w.now (shared_cell c.skip_from.result.now) r.0 es r.1) in
    (λ yes. first_none _ (n.0 yes), λ none. n.1 (ap first_slot none))
