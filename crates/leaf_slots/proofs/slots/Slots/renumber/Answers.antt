use Rattle.std.proofs.Common.{sym, subst}
use Rattle.leaf_slots.specs.Places.{IsTailed}
use Rattle.leaf_slots.proofs.EditLemmas.{tailed_packed}
use Rattle.leaf_slots.proofs.slots.Slots.renumber.Goals as goal

pub renumber-requires-clause-tailed : goal.renumber-requires-clause-tailed
renumber-requires-clause-tailed g c = subst IsTailed (sym c.self.view_is) (tailed_packed c.args.self.now c.requires)

pub returns-clause-places : goal.returns-clause-places
returns-clause-places g c = rw (← c.self.view_is) c.renumber.ensures
