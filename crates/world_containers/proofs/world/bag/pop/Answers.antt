use Rattle.world_containers.proofs.Names.{arith, shared_cell}
use Rattle.world_containers.proofs.RowLemmas.{numbered}
use Rattle.world_containers.proofs.BagLemmas.{cells_there, hangs_there, bag_taken, bag_left, bag_leaves_taken, row_none}
use Rattle.world_containers.proofs.world.bag.pop.Goals as goal

pub find-requires : goal.find-requires
find-requires g c = cells_there g.row.ARRAY_LEN c.args.w.now c.args.bag.now.cells.items c.requires

pub take_first-requires : goal.take_first-requires
take_first-requires g c =
    let f = c.in-Some.ensures.some in
    let ts = c.args.bag.now.cells.items in
    hangs_there g.row.ARRAY_LEN c.args.w.now ts c.requires c.in-Some.at (shared_cell c.index.result.now) f.1 (numbered ts c.in-Some.at c.index.result.now f.1 c.index.ensures)

pub returns-in-None-clause-popped : goal.returns-in-None-clause-popped
returns-in-None-clause-popped g c = λ ps os b. row_none g.row.ARRAY_LEN c.args.w.now c.args.bag.now.cells.items ps os b (λ k lt. c.in-None.ensures.none k (omega arith) lt)

pub returns-in-Some-clause-popped : goal.returns-in-Some-clause-popped
returns-in-Some-clause-popped g c =
    let f = c.in-Some.ensures.some in
    let ts = c.args.bag.now.cells.items in
    bag_taken g.row.ARRAY_LEN c.args.w.now c.take_first.new.w ts c.in-Some.at (shared_cell c.index.result.now) f.1 (numbered ts c.in-Some.at c.index.result.now f.1 c.index.ensures) f.2 (λ k lt. c.in-Some.ensures.before k (omega arith) lt) c.take_first.result c.take_first.ensures.took

pub returns-in-Some-clause-list : goal.returns-in-Some-clause-list
returns-in-Some-clause-list g c =
    let f = c.in-Some.ensures.some in
    let ts = c.args.bag.now.cells.items in
    bag_left g.row.ARRAY_LEN c.args.w.now c.take_first.new.w ts c.in-Some.at (shared_cell c.index.result.now) f.1 (numbered ts c.in-Some.at c.index.result.now f.1 c.index.ensures) f.2 (λ k lt. c.in-Some.ensures.before k (omega arith) lt) c.take_first.result c.take_first.ensures.took c.requires

pub returns-in-Some-clause-leaves : goal.returns-in-Some-clause-leaves
returns-in-Some-clause-leaves g c =
    let f = c.in-Some.ensures.some in
    let ts = c.args.bag.now.cells.items in
    bag_leaves_taken g.row.ARRAY_LEN c.args.w.now c.take_first.new.w ts c.in-Some.at (shared_cell c.index.result.now) f.1 (numbered ts c.in-Some.at c.index.result.now f.1 c.index.ensures) f.2 (λ k lt. c.in-Some.ensures.before k (omega arith) lt) c.take_first.result c.take_first.ensures.took
