use Rattle.world_containers.proofs.Names.{inl, shared_cell}
use Rattle.world_containers.proofs.RowLemmas.{numbered}
use Rattle.world_containers.proofs.BagLemmas.{cells_there, stack_there, bag_leaves, bag_primary, bag_list, row_full}
use Rattle.world_containers.proofs.world.bag.try_push.Goals as goal

pub find-requires : goal.find-requires
find-requires g c = cells_there g.row.ARRAY_LEN c.args.w.now c.args.bag.now.cells.items c.requires

pub put-requires : goal.put-requires
put-requires g c =
    let f = c.in-Some.ensures.some in
    let ts = c.args.bag.now.cells.items in
    stack_there g.row.ARRAY_LEN c.args.w.now ts c.requires c.in-Some.at (shared_cell c.index.result.now) f.1 (numbered ts c.in-Some.at c.index.result.now f.1 c.index.ensures)

pub returns-in-None-clause-full : goal.returns-in-None-clause-full
returns-in-None-clause-full g c = λ ps os b. inl (row_full g.row.ARRAY_LEN c.args.w.now c.args.bag.now.cells.items ps os b c.in-None.ensures.none)

pub returns-in-Some-clause-pushed : goal.returns-in-Some-clause-pushed
returns-in-Some-clause-pushed g c =
    let f = c.in-Some.ensures.some in
    let ts = c.args.bag.now.cells.items in
    bag_primary g.row.ARRAY_LEN c.args.w.now c.put.new.w ts c.args.value c.in-Some.at (shared_cell c.index.result.now) f.1 (numbered ts c.in-Some.at c.index.result.now f.1 c.index.ensures) c.put.ensures.leaves c.put.result c.put.ensures.put f.0 f.2

pub returns-in-Some-clause-list : goal.returns-in-Some-clause-list
returns-in-Some-clause-list g c =
    let f = c.in-Some.ensures.some in
    let ts = c.args.bag.now.cells.items in
    bag_list g.row.ARRAY_LEN c.args.w.now c.put.new.w ts c.args.value c.in-Some.at (shared_cell c.index.result.now) f.1 (numbered ts c.in-Some.at c.index.result.now f.1 c.index.ensures) c.put.ensures.leaves c.put.result c.put.ensures.put c.put.ensures.refused (λ _. f.2) c.requires

pub returns-in-Some-clause-leaves : goal.returns-in-Some-clause-leaves
returns-in-Some-clause-leaves g c =
    let f = c.in-Some.ensures.some in
    let ts = c.args.bag.now.cells.items in
    bag_leaves g.row.ARRAY_LEN c.args.w.now c.put.new.w ts c.args.value c.in-Some.at (shared_cell c.index.result.now) f.1 (numbered ts c.in-Some.at c.index.result.now f.1 c.index.ensures) c.put.ensures.leaves
