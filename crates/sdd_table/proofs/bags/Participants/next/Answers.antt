use Rattle.std.proofs.Common.{◌-◌, ◌∙◌, set, sym, ap, arith}
use Rattle.std.proofs.lemmas.List.{get_or_default}
use Rattle.sdd_table.specs.State.{left_due}
use Rattle.sdd_table.specs.Chains.{Shown, participant_in}
use Rattle.sdd_table.proofs.ThreadLemmas.{same_inside, none_inside, low_inside, next_inside, known_inside}
use Rattle.sdd_table.proofs.bags.Participants.next.Goals as goal

pub returns-then-participant-eq0-clause-none : goal.returns-then-participant-eq0-clause-none
returns-then-participant-eq0-clause-none c =
    let a = c.self.inside in
    let known = known_inside a c.args.self.now c.args.p c.self.view_is c.requires in
    (ap (λ (s : Shown). (participant_in s.all c.args.p).due) (sym c.self.view_is) ∙ none_inside a c.args.p c.index_mut-participant.result.now c.self.invariant known c.index_mut-participant.ensures.value c.if-participant-eq0.true, (same_inside a c.args.p c.index_mut-participant.result.now c.self.invariant known c.index_mut-participant.ensures.value).1 ∙ c.self.view_is)

pub invariant_of-self : goal.invariant_of-self
invariant_of-self c =
    (same_inside c.self.inside c.args.p c.index_mut-participant.result.now c.self.invariant (known_inside c.self.inside c.args.self.now c.args.p c.self.view_is c.requires) c.index_mut-participant.ensures.value).0

pub index-requires : goal.index-requires
index-requires c =
    let a = c.self.inside in
    let known = known_inside a c.args.self.now c.args.p c.self.view_is c.requires in
    omega (arith, a.links.ok.0, low_inside a c.args.p c.index_mut-participant.result.now c.self.invariant known c.index_mut-participant.ensures.value c.if-participant-eq0.false)

pub invariant_of-self-2 : goal.invariant_of-self-2
invariant_of-self-2 c =
    let a = c.self.inside in
    let q = c.index_mut-participant.result.now in
    let known = known_inside a c.args.self.now c.args.p c.self.view_is c.requires in
    let low = low_inside a c.args.p q c.self.invariant known c.index_mut-participant.ensures.value c.if-participant-eq0.false in
    (next_inside a c.args.p q c.self.invariant known c.index_mut-participant.ensures.value c.if-participant-eq0.false c.index.result.now (c.index.ensures ∙ get_or_default a.links.items (q.due - 1) c.index.result.now 0 low)).0

pub returns-clause-taken : goal.returns-clause-taken
returns-clause-taken c =
    let a = c.self.inside in
    let q = c.index_mut-participant.result.now in
    let known = known_inside a c.args.self.now c.args.p c.self.view_is c.requires in
    let low = low_inside a c.args.p q c.self.invariant known c.index_mut-participant.ensures.value c.if-participant-eq0.false in
    let r = (next_inside a c.args.p q c.self.invariant known c.index_mut-participant.ensures.value c.if-participant-eq0.false c.index.result.now (c.index.ensures ∙ get_or_default a.links.items (q.due - 1) c.index.result.now 0 low)).1 in
    (r.0, ap (λ (s : Shown). (participant_in s.all c.args.p).due) (sym c.self.view_is) ∙ r.1, r.2 ∙ ap (λ (s : Shown). record s { all = set s.all c.args.p (left_due r.0 (participant_in s.all c.args.p)) }) c.self.view_is)
