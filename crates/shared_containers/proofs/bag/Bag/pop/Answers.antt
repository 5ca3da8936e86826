use Rattle.shared_containers.proofs.TakenLemmas.{bag_taken}
use Rattle.shared_containers.proofs.bag.Bag.pop.Goals as goal

pub returns-in-None-clause-taken : goal.returns-in-None-clause-taken
returns-in-None-clause-taken g c = bag_taken c.args.self.now c.args.local.now c.pop.new.local c.pop_primary.new.local c.pop_primary.result c.pop.ensures.same.0.0 c.pop.ensures.some c.pop_primary.ensures.taken
