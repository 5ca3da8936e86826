use Rattle.std.proofs.Common.{[], ◌∷◌}
use Rattle.sdd_world.specs.declared.tag.Tag.TheVariants as tag
use Rattle.world_containers.specs.Chain.{links, slots}
use Rattle.world_containers.specs.Entries.{entry_link}
use Rattle.world_containers.specs.Stacks.{stack_cell}
use Rattle.world_containers.proofs.ChainLemmas.{hung_left, hung_out, free_cell_out, out_of_none}
use Rattle.world_containers.proofs.ReleaseLemmas.{out_of_one}
use Rattle.sdd_tests.proofs.stacks.moved.Goals as goal

pub returns-in-Ok-clause-list : goal.returns-in-Ok-clause-list
returns-in-Ok-clause-list g c =
    let a = c.in-Ok.ensures in
    let r = c.requires.list in
    let from = stack_cell c.args.stack in
    let to = stack_cell c.in-Ok.other in
    let es = r.entries in
    let apart = free_cell_out entry_link c.args.w.now to from tag.None es a.fresh.1 r.is in
    let l = c.retire.ensures.leaves [] a.emptied in
    record { entries = es; is = hung_left entry_link (from ∷ []) [] c.pop_all.new.w c.retire.new.w to tag.None es l (apart.0, tt) (out_of_one (links es) from (hung_out entry_link c.args.w.now from tag.None es r.is)) (out_of_none (slots es)) (a.moved es r.is) }
