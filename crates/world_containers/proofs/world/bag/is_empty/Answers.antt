use Rattle.world_containers.proofs.Names.{arith, refl, false≢true}
use Rattle.world_containers.proofs.BagLemmas.{cells_there, row_none, row_some, both_none}
use Rattle.world_containers.proofs.world.bag.is_empty.Goals as goal

pub find-found-requires : goal.find-found-requires
find-found-requires g c = cells_there g.row.ARRAY_LEN c.args.w.now c.args.bag.now.cells.items c.requires

pub returns-in-None : goal.returns-in-None
returns-in-None g c = λ ps os b.
    let r = row_none g.row.ARRAY_LEN c.args.w.now c.args.bag.now.cells.items ps os b (λ k lt. c.in-None.ensures.none k (omega arith) lt) in
    (λ _. both_none ps os r.0 r.1, λ _. refl)

pub returns-in-Some : goal.returns-in-Some
returns-in-Some g c = λ ps os b.
    let f = c.in-Some.ensures.some in
    (λ yes. absurd (false≢true yes), λ none. absurd (row_some g.row.ARRAY_LEN c.args.w.now c.args.bag.now.cells.items _ ps os f.1 f.2 b none))
