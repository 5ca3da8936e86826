use Rattle.world_containers.proofs.Names.{refl, shared_cell}
use Rattle.world_containers.proofs.RowLemmas.{numbered}
use Rattle.world_containers.proofs.BagLemmas.{cells_there, stack_there, bag_leaves, bag_either, bag_overflow, bag_list, some_cell}
use Rattle.world_containers.proofs.world.bag.push.Goals as goal

pub find-requires : goal.find-requires
find-requires g c = cells_there g.row.ARRAY_LEN c.args.w.now c.args.bag.now.cells.items c.requires

pub put-requires : goal.put-requires
put-requires g c =
    let ts = c.args.bag.now.cells.items in
    let lt = some_cell g.row.ARRAY_LEN c.args.w.now ts c.requires in
    stack_there g.row.ARRAY_LEN c.args.w.now ts c.requires 0 (shared_cell c.index.result.now) lt (numbered ts 0 c.index.result.now lt c.index.ensures)

pub put-requires-in-Some : goal.put-requires-in-Some
put-requires-in-Some g c =
    let f = c.in-Some.ensures.some in
    let ts = c.args.bag.now.cells.items in
    stack_there g.row.ARRAY_LEN c.args.w.now ts c.requires c.in-Some.at (shared_cell c.index-in-Some.result.now) f.1 (numbered ts c.in-Some.at c.index-in-Some.result.now f.1 c.index-in-Some.ensures)

pub returns-in-None-clause-pushed : goal.returns-in-None-clause-pushed
returns-in-None-clause-pushed g c =
    let ts = c.args.bag.now.cells.items in
    bag_overflow g.row.ARRAY_LEN c.args.w.now c.put.new.w ts c.args.value (shared_cell c.index.result.now) (numbered ts 0 c.index.result.now (some_cell g.row.ARRAY_LEN c.args.w.now ts c.requires) c.index.ensures) c.put.ensures.leaves c.put.result c.put.ensures.put c.in-None.ensures.none

pub returns-in-None-clause-list : goal.returns-in-None-clause-list
returns-in-None-clause-list g c =
    let ts = c.args.bag.now.cells.items in
    let lt = some_cell g.row.ARRAY_LEN c.args.w.now ts c.requires in
    bag_list g.row.ARRAY_LEN c.args.w.now c.put.new.w ts c.args.value 0 (shared_cell c.index.result.now) lt (numbered ts 0 c.index.result.now lt c.index.ensures) c.put.ensures.leaves c.put.result c.put.ensures.put c.put.ensures.refused (λ no. absurd (no refl)) c.requires

pub returns-in-None-clause-leaves : goal.returns-in-None-clause-leaves
returns-in-None-clause-leaves g c =
    let ts = c.args.bag.now.cells.items in
    let lt = some_cell g.row.ARRAY_LEN c.args.w.now ts c.requires in
    bag_leaves g.row.ARRAY_LEN c.args.w.now c.put.new.w ts c.args.value 0 (shared_cell c.index.result.now) lt (numbered ts 0 c.index.result.now lt c.index.ensures) c.put.ensures.leaves

pub returns-in-Some-clause-pushed : goal.returns-in-Some-clause-pushed
returns-in-Some-clause-pushed g c =
    let f = c.in-Some.ensures.some in
    let ts = c.args.bag.now.cells.items in
    bag_either g.row.ARRAY_LEN c.args.w.now c.put-in-Some.new.w ts c.args.value c.in-Some.at (shared_cell c.index-in-Some.result.now) f.1 (numbered ts c.in-Some.at c.index-in-Some.result.now f.1 c.index-in-Some.ensures) c.put-in-Some.ensures.leaves c.put-in-Some.result c.put-in-Some.ensures.put f.0 f.2

pub returns-in-Some-clause-list : goal.returns-in-Some-clause-list
returns-in-Some-clause-list g c =
    let f = c.in-Some.ensures.some in
    let ts = c.args.bag.now.cells.items in
    bag_list g.row.ARRAY_LEN c.args.w.now c.put-in-Some.new.w ts c.args.value c.in-Some.at (shared_cell c.index-in-Some.result.now) f.1 (numbered ts c.in-Some.at c.index-in-Some.result.now f.1 c.index-in-Some.ensures) c.put-in-Some.ensures.leaves c.put-in-Some.result c.put-in-Some.ensures.put c.put-in-Some.ensures.refused (λ _. f.2) c.requires

pub returns-in-Some-clause-leaves : goal.returns-in-Some-clause-leaves
returns-in-Some-clause-leaves g c =
    let f = c.in-Some.ensures.some in
    let ts = c.args.bag.now.cells.items in
    bag_leaves g.row.ARRAY_LEN c.args.w.now c.put-in-Some.new.w ts c.args.value c.in-Some.at (shared_cell c.index-in-Some.result.now) f.1 (numbered ts c.in-Some.at c.index-in-Some.result.now f.1 c.index-in-Some.ensures) c.put-in-Some.ensures.leaves
