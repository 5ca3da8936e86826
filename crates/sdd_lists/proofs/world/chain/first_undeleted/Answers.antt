use Rattle.sdd_world.specs.Tokens.{shared_cell}
use Rattle.sdd_lists.specs.Chain.{skip}
use Rattle.sdd_lists.proofs.ChainLemmas.{head_cell, hung_there}
use Rattle.sdd_lists.proofs.FirstLemmas.{no_item, some_item}
use Rattle.sdd_lists.proofs.world.chain.first_undeleted.Goals as goal

pub as_ref-requires-clause-cell : goal.as_ref-requires-clause-cell
as_ref-requires-clause-cell g c = let r = c.skip_from.ensures c.requires.tag c.requires.entries c.requires.is in head_cell g.L.LinkedList.link c.args.w.now (shared_cell c.skip_from.result.now) r.0 (skip c.requires.entries) r.1

pub as_ref-requires-clause-there : goal.as_ref-requires-clause-there
as_ref-requires-clause-there g c = let r = c.skip_from.ensures c.requires.tag c.requires.entries c.requires.is in hung_there g.L.LinkedList.link c.args.w.now (shared_cell c.skip_from.result.now) r.0 (skip c.requires.entries) r.1

pub returns-in-None : goal.returns-in-None
returns-in-None g c = λ t es h. let r = c.skip_from.ensures t es h in no_item g.L.LinkedList.link c.args.w.now (shared_cell c.skip_from.result.now) r.0 es r.1 c.in-None.ensures.item

pub returns-in-Some : goal.returns-in-Some
returns-in-Some g c = λ t es h. let r = c.skip_from.ensures t es h in some_item g.L.LinkedList.link _ c.args.w.now (shared_cell c.skip_from.result.now) r.0 es c.in-Some.item.now r.1 c.in-Some.ensures.null c.in-Some.ensures.value
