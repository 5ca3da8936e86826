use Rattle.world_containers.proofs.Names.{◌∙◌, ◌∷◌}
use Rattle.world_containers.proofs.BagLemmas.{bag_row, bag_size, bag_undeleted}
use Rattle.world_containers.proofs.world.bag.len.Goals as goal

pub count_all-requires : goal.count_all-requires
count_all-requires g c = bag_row g.row.ARRAY_LEN c.args.w.now _ _ _ c.requires.is

pub returns : goal.returns
returns g c = λ ps os b. c.count_all.ensures (os ∷ b.rows) (bag_size g.row.ARRAY_LEN c.args.w.now c.args.bag.now.cells.items ps os b) b.row ∙ bag_undeleted g.row.ARRAY_LEN c.args.w.now _ ps os b
