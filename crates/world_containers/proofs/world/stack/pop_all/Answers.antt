use Rattle.world_containers.proofs.Names.{[], shared_cell, entry_link, moving_cell, moving_empty, moved_all, moved_from, moved_leaves}
use Rattle.sdd_world.specs.declared.tag.Tag.TheVariants as tag
use Rattle.world_containers.proofs.world.stack.pop_all.Goals as goal

pub take-first-requires : goal.take-first-requires
take-first-requires g c = let m = c.in-Ok.ensures.made in moving_cell entry_link c.args.w.now c.null.new.w (shared_cell c.args.stack.now.newest) (shared_cell c.in-Ok.newest) tag.None tag.None c.requires.entries c.requires.is m.0.1 m.0.0 m.1

pub fill-requires : goal.fill-requires
fill-requires g c = let m = c.in-Ok.ensures.made in (tag.None, moving_empty entry_link c.args.w.now c.null.new.w (shared_cell c.args.stack.now.newest) (shared_cell c.in-Ok.newest) tag.None tag.None c.requires.entries c.requires.is m.0.1 m.0.0 m.1 c.take-first.new.w _ c.take-first.ensures.took)

pub returns-in-Ok-clause-moved : goal.returns-in-Ok-clause-moved
returns-in-Ok-clause-moved g c = λ es h. let m = c.in-Ok.ensures.made in moved_all entry_link c.args.w.now c.null.new.w (shared_cell c.args.stack.now.newest) (shared_cell c.in-Ok.newest) tag.None tag.None es h m.0.1 m.0.0 m.1 c.take-first.new.w _ c.take-first.ensures.took c.fill.new.w c.fill.ensures.filled

pub returns-in-Ok-clause-emptied : goal.returns-in-Ok-clause-emptied
returns-in-Ok-clause-emptied g c = let m = c.in-Ok.ensures.made in moved_from entry_link c.args.w.now c.null.new.w (shared_cell c.args.stack.now.newest) (shared_cell c.in-Ok.newest) tag.None tag.None c.requires.entries c.requires.is m.0.1 m.0.0 m.1 c.take-first.new.w _ c.take-first.ensures.took c.fill.new.w c.fill.ensures.filled

pub returns-in-Ok-clause-list : goal.returns-in-Ok-clause-list
returns-in-Ok-clause-list g c = record { entries = []; is = returns-in-Ok-clause-emptied g c }

pub returns-in-Ok-clause-lists : goal.returns-in-Ok-clause-lists
returns-in-Ok-clause-lists g c = record { entries = c.requires.entries; is = returns-in-Ok-clause-moved g c c.requires.entries c.requires.is }

pub returns-in-Ok-clause-leaves : goal.returns-in-Ok-clause-leaves
returns-in-Ok-clause-leaves g c = let m = c.in-Ok.ensures.made in moved_leaves entry_link c.args.w.now c.null.new.w (shared_cell c.args.stack.now.newest) (shared_cell c.in-Ok.newest) tag.None tag.None c.requires.entries c.requires.is m.0.1 m.0.0 m.1 c.take-first.new.w _ c.take-first.ensures.took c.fill.new.w c.fill.ensures.filled
