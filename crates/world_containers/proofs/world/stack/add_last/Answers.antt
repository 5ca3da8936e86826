use Rattle.world_containers.proofs.Names.{link_cell, shared_cell, shared_slot}
use Rattle.world_containers.proofs.FromIterLemmas.{last_hangs, last_leaves, extends_last}
use Rattle.world_containers.proofs.world.stack.add_last.Goals as goal

pub put_first-requires : goal.put_first-requires
put_first-requires g c =
    let a = c.in-Ok.ensures in
    last_hangs c.args.w.now c.make_one.new.w c.make_one.new.w (link_cell c.args.end.now) (shared_cell c.cell.result.now) (shared_slot c.in-Ok.last) c.in-Some.value c.requires c.cell.ensures a.leaves a.made

pub returns-in-Ok-clause-added : goal.returns-in-Ok-clause-added
returns-in-Ok-clause-added g c =
    let a = c.in-Ok.ensures in
    rw c.in-Some.is (extends_last c.args.w.now c.make_one.new.w c.put_first.new.w (link_cell c.args.end.now) (shared_cell c.cell.result.now) (shared_slot c.in-Ok.last) c.in-Some.value c.requires c.cell.ensures a.leaves a.made c.put_first.ensures.put (link_cell c.link_of-link.result) (c.link_of-link.ensures a.made.entry a.made.loose.item a.made.at))

pub returns-in-Ok-clause-leaves : goal.returns-in-Ok-clause-leaves
returns-in-Ok-clause-leaves g c =
    let a = c.in-Ok.ensures in
    last_leaves c.args.w.now c.make_one.new.w c.put_first.new.w (link_cell c.args.end.now) (shared_cell c.cell.result.now) (shared_slot c.in-Ok.last) c.in-Some.value c.requires c.cell.ensures a.leaves a.made c.put_first.ensures.put
