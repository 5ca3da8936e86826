use Rattle.std.proofs.Common.{◌+◌, ◌∙◌, set, ap, arith}
use Rattle.std.specs.List.{sum_by}
use Rattle.sdd_table.specs.State.{put_participant}
use Rattle.sdd_table.specs.Place.{held_times}
use Rattle.sdd_table.specs.Chains.{Shown, participant_in}
use Rattle.sdd_table.proofs.ThreadLemmas.{put_inside, put_room, known_inside}
use Rattle.sdd_table.proofs.bags.Participants.put.Goals as goal

pub overflow_add-participant-2 : goal.overflow_add-participant-2
overflow_add-participant-2 c =
    let a = c.self.inside in
    let known = known_inside a c.args.self.now c.args.p c.self.view_is c.requires.participant in
    let v = c.self.view_is in
    let room = put_room a c.args.p c.index_mut-participant.result.now c.self.invariant known c.index_mut-participant.ensures.value c.args.i (omega (arith, ap (λ (s : Shown). s.places) v, c.requires.place)) (ap (λ (s : Shown). sum_by (held_times c.args.i) s.all) v ∙ c.requires.none) in
    let size = a.links.ok.0 in
    omega (arith, room, size, a.links.ok)

pub invariant_of-self : goal.invariant_of-self
invariant_of-self c =
    let a = c.self.inside in
    let v = c.self.view_is in
    let known = known_inside a c.args.self.now c.args.p v c.requires.participant in
    (put_inside a c.args.p c.index_mut-participant.result.now c.self.invariant known c.index_mut-participant.ensures.value c.args.i (c.args.i + 1) (omega arith) (omega (arith, ap (λ (s : Shown). s.places) v, c.requires.place)) (ap (λ (s : Shown). sum_by (held_times c.args.i) s.all) v ∙ c.requires.none)).0

pub returns : goal.returns
returns c =
    let a = c.self.inside in
    let v = c.self.view_is in
    let known = known_inside a c.args.self.now c.args.p v c.requires.participant in
    (put_inside a c.args.p c.index_mut-participant.result.now c.self.invariant known c.index_mut-participant.ensures.value c.args.i (c.args.i + 1) (omega arith) (omega (arith, ap (λ (s : Shown). s.places) v, c.requires.place)) (ap (λ (s : Shown). sum_by (held_times c.args.i) s.all) v ∙ c.requires.none)).1
    ∙ ap (λ (s : Shown). record s { all = set s.all c.args.p (put_participant c.args.i (participant_in s.all c.args.p)) }) v
