use Rattle.std.proofs.Common.{◌≡◌, ◌-◌, ◌∙◌, set, subst, sym, ap, arith}
use Rattle.std.proofs.lemmas.List.{get_or_default}
use Rattle.sdd_table.specs.State.{recalled}
use Rattle.sdd_table.specs.Chains.{Shown, participant_in}
use Rattle.sdd_table.proofs.ThreadLemmas.{same_inside, recall_none_inside, recall_low_inside, recall_inside, known_inside, set_same}
use Rattle.sdd_table.proofs.bags.Participants.unretire.Goals as goal

pub invariant_of-self : goal.invariant_of-self
invariant_of-self c =
    (same_inside c.self.inside c.args.p c.index_mut-participant.result.now c.self.invariant (known_inside c.self.inside c.args.self.now c.args.p c.self.view_is c.requires) c.index_mut-participant.ensures.value).0

pub returns-then-participant-eq0 : goal.returns-then-participant-eq0
returns-then-participant-eq0 c =
    let a = c.self.inside in
    let w = c.args.self.now in
    let v = c.self.view_is in
    let q = c.index_mut-participant.result.now in
    let known = known_inside a w c.args.p v c.requires in
    let same : participant_in w.all c.args.p ≡ recalled (participant_in w.all c.args.p) = subst (λ (s : Shown). participant_in s.all c.args.p ≡ recalled (participant_in s.all c.args.p)) v (recall_none_inside a c.args.p q c.self.invariant known c.index_mut-participant.ensures.value c.if-participant-eq0.true) in
    (same_inside a c.args.p q c.self.invariant known c.index_mut-participant.ensures.value).1 ∙ v ∙ (λ j. record w { all = (sym (set_same w.all c.args.p) ∙ ap (set w.all c.args.p) same) j })

pub index_mut-link-requires : goal.index_mut-link-requires
index_mut-link-requires c =
    let a = c.self.inside in
    let known = known_inside a c.args.self.now c.args.p c.self.view_is c.requires in
    omega (arith, a.links.ok.0, (recall_low_inside a c.args.p c.index_mut-participant.result.now c.self.invariant known c.index_mut-participant.ensures.value c.if-participant-eq0.false).0)

pub overflow_sub-participant-2 : goal.overflow_sub-participant-2
overflow_sub-participant-2 c =
    let a = c.self.inside in
    let known = known_inside a c.args.self.now c.args.p c.self.view_is c.requires in
    (recall_low_inside a c.args.p c.index_mut-participant.result.now c.self.invariant known c.index_mut-participant.ensures.value c.if-participant-eq0.false).1

pub invariant_of-self-2 : goal.invariant_of-self-2
invariant_of-self-2 c =
    let a = c.self.inside in
    let q = c.index_mut-participant.result.now in
    let known = known_inside a c.args.self.now c.args.p c.self.view_is c.requires in
    let low = (recall_low_inside a c.args.p q c.self.invariant known c.index_mut-participant.ensures.value c.if-participant-eq0.false).0 in
    (recall_inside a c.args.p q c.self.invariant known c.index_mut-participant.ensures.value c.if-participant-eq0.false c.index_mut-link.result.now (c.index_mut-link.ensures.value ∙ get_or_default a.links.items (q.current - 1) c.index_mut-link.result.now 0 low)).0

pub returns : goal.returns
returns c =
    let a = c.self.inside in
    let v = c.self.view_is in
    let q = c.index_mut-participant.result.now in
    let known = known_inside a c.args.self.now c.args.p v c.requires in
    let low = (recall_low_inside a c.args.p q c.self.invariant known c.index_mut-participant.ensures.value c.if-participant-eq0.false).0 in
    (recall_inside a c.args.p q c.self.invariant known c.index_mut-participant.ensures.value c.if-participant-eq0.false c.index_mut-link.result.now (c.index_mut-link.ensures.value ∙ get_or_default a.links.items (q.current - 1) c.index_mut-link.result.now 0 low)).1
    ∙ ap (λ (s : Shown). record s { all = set s.all c.args.p (recalled (participant_in s.all c.args.p)) }) v
