use Rattle.sdd_table.specs.State.{recalled}
use Rattle.sdd_table.specs.Chains.{participant_in}
use Rattle.sdd_table.proofs.SlotLemmas.{changed_view, changed_invariant, known_in}
use Rattle.sdd_table.proofs.BagInvariantLemmas.{times_recalled}
use Rattle.sdd_table.proofs.table.Table.unretire.Goals as goal

pub unretire-requires : goal.unretire-requires
unretire-requires g c = known_in c.self.inside c.args.self.now _ c.self.view_is c.requires

pub invariant_of-self : goal.invariant_of-self
invariant_of-self g c = changed_invariant c.self.inside c.args.self.now c.args.p recalled c.unretire.new.self c.self.invariant c.self.view_is c.requires c.unretire.ensures (λ j. times_recalled j (participant_in c.self.inside.participants.all c.args.p))

pub returns : goal.returns
returns g c = changed_view c.self.inside c.args.self.now c.args.p recalled c.unretire.new.self c.self.view_is c.unretire.ensures
