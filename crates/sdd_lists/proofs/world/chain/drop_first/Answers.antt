use Rattle.std.proofs.Common.{◌∷◌}
use Rattle.sdd_world.specs.Tokens.{shared_cell}
use Rattle.sdd_lists.proofs.ChainLemmas.{stays_then}
use Rattle.sdd_lists.proofs.ReleaseLemmas.{dropped_first, stays_released}
use Rattle.sdd_lists.proofs.world.chain.drop_first.Goals as goal

pub returns-in-Some-clause-dropped : goal.returns-in-Some-clause-dropped
returns-in-Some-clause-dropped g c = λ t e es h. dropped_first g.L.LinkedList.link c.args.p c.in-Some.first.slot (shared_cell c.args.cell.now) t e es _ _ _ h (c.in-Some.ensures.took t (e ∷ es) h) c.release.ensures.released

pub returns-in-Some-clause-stays : goal.returns-in-Some-clause-stays
returns-in-Some-clause-stays g c = stays_then _ _ _ c.in-Some.ensures.stays (stays_released c.args.p c.in-Some.first.slot _ _ c.release.ensures.released c.release.ensures.keeps c.release.ensures.nests)
