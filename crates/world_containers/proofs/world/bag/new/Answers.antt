use Rattle.world_containers.proofs.Names.{map, [], shared_cell}
use Rattle.world_containers.proofs.BagInitLemmas.{claimed_leaves, claimed_free}
use Rattle.world_containers.proofs.BagLemmas.{claimed_bag}
use Rattle.world_containers.proofs.world.bag.new.Goals as goal

pub returns-in-Ok-clause-made : goal.returns-in-Ok-clause-made
returns-in-Ok-clause-made g c = let m = c.in-Ok.ensures.claimed in claimed_bag g.row.ARRAY_LEN c.args.w.now c.claim_all.new.w c.in-Ok.cells.items m.0 m.1

pub returns-in-Ok-clause-list : goal.returns-in-Ok-clause-list
returns-in-Ok-clause-list g c = let m = c.in-Ok.ensures.claimed in record { primary = []; overflow = []; is = claimed_bag g.row.ARRAY_LEN c.args.w.now c.claim_all.new.w c.in-Ok.cells.items m.0 m.1 }

pub returns-in-Ok-clause-fresh : goal.returns-in-Ok-clause-fresh
returns-in-Ok-clause-fresh g c = claimed_free (map shared_cell c.in-Ok.cells.items) c.args.w.now c.claim_all.new.w c.in-Ok.ensures.claimed.1

pub returns-in-Ok-clause-leaves : goal.returns-in-Ok-clause-leaves
returns-in-Ok-clause-leaves g c = claimed_leaves (map shared_cell c.in-Ok.cells.items) c.args.w.now c.claim_all.new.w c.in-Ok.ensures.claimed.1
