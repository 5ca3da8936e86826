use Rattle.std.proofs.Common.{◌∙◌, set, ap}
use Rattle.sdd_table.specs.State.{bags_moved_on}
use Rattle.sdd_table.specs.Chains.{Shown, participant_in}
use Rattle.sdd_table.proofs.ThreadLemmas.{turn_inside, known_inside}
use Rattle.sdd_table.proofs.bags.Participants.turn.Goals as goal

pub invariant_of-self : goal.invariant_of-self
invariant_of-self c =
    let known = known_inside c.self.inside c.args.self.now c.args.p c.self.view_is c.requires.participant in
    (turn_inside c.self.inside c.args.p c.index_mut-participant.result.now c.self.invariant known c.index_mut-participant.ensures.value (ap (λ (s : Shown). (participant_in s.all c.args.p).due) c.self.view_is ∙ c.requires.due)).0

pub returns : goal.returns
returns c =
    let known = known_inside c.self.inside c.args.self.now c.args.p c.self.view_is c.requires.participant in
    (turn_inside c.self.inside c.args.p c.index_mut-participant.result.now c.self.invariant known c.index_mut-participant.ensures.value (ap (λ (s : Shown). (participant_in s.all c.args.p).due) c.self.view_is ∙ c.requires.due)).1
    ∙ ap (λ (s : Shown). record s { all = set s.all c.args.p (bags_moved_on (participant_in s.all c.args.p)) }) c.self.view_is
