use Rattle.std.proofs.Common.{ap, ◌∙◌}
use Rattle.sdd_table.specs.State.{State, participant_at, bags_moved_on}
use Rattle.sdd_table.specs.Chains.{participant_in}
use Rattle.sdd_table.proofs.SlotLemmas.{changed_view, changed_invariant, known_in}
use Rattle.sdd_table.proofs.BagInvariantLemmas.{times_turned}
use Rattle.sdd_table.proofs.table.Table.turn.Goals as goal

pub turn-requires : goal.turn-requires
turn-requires g c = record {
  participant = known_in c.self.inside c.args.self.now _ c.self.view_is c.requires.participant;
  due = ap (λ (w : State _). (participant_at w c.args.p).due) c.self.view_is ∙ c.requires.due;
}

pub invariant_of-self : goal.invariant_of-self
invariant_of-self g c = changed_invariant c.self.inside c.args.self.now c.args.p bags_moved_on c.turn.new.self c.self.invariant c.self.view_is c.requires.participant c.turn.ensures (λ j. times_turned j (participant_in c.self.inside.participants.all c.args.p) (ap (λ (w : State _). (participant_at w c.args.p).due) c.self.view_is ∙ c.requires.due))

pub returns : goal.returns
returns g c = changed_view c.self.inside c.args.self.now c.args.p bags_moved_on c.turn.new.self c.self.view_is c.turn.ensures
