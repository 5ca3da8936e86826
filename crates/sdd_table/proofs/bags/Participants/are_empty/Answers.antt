use Rattle.std.proofs.Common.{◌==◌, ◌∙◌, sym, ap, eq-eqb, ne_eqb}
use Rattle.std.proofs.lemmas.Bool.{false≢true}
use Rattle.sdd_table.specs.Chains.{Shown, participant_in}
use Rattle.sdd_table.specs.Steps.{bags_empty}
use Rattle.sdd_table.proofs.ThreadLemmas.{empty_inside, known_inside, third, none_first, none_second}
use Rattle.sdd_table.proofs.bags.Participants.are_empty.Goals as goal
use Rattle.sdd_table.proofs.bags.Participants.are_empty.Goals.{then-participant-eq0, else-participant-eq0}

pub returns-then-participant-eq0-2 : goal.returns-then-participant-eq0-2
returns-then-participant-eq0-2 c =
    let q = c.index-participant.result.now in
    let e = empty_inside c.self.inside c.args.p q c.self.invariant (known_inside c.self.inside c.args.self.now c.args.p c.self.view_is c.requires) c.index-participant.ensures in
    let f = ap (λ (s : Shown). bags_empty (participant_in s.all c.args.p)) (sym c.self.view_is) ∙ e in
    elim c.if-participant-eq0.branch [
      | then-participant-eq0 w ↦ third _ (q.current == 0) (q.prior == 0) (q.oldest == 0) f (eq-eqb q.current 0 w.if-participant-eq0.true) (sym w.value-is ∙ c.if-participant-eq0-2.true)
      | else-participant-eq0 w ↦ absurd (false≢true (sym (ne_eqb q.current 0 w.if-participant-eq0.false) ∙ sym w.value-is ∙ c.if-participant-eq0-2.true))
    ]

pub returns-else-participant-eq0-2 : goal.returns-else-participant-eq0-2
returns-else-participant-eq0-2 c =
    let q = c.index-participant.result.now in
    let e = empty_inside c.self.inside c.args.p q c.self.invariant (known_inside c.self.inside c.args.self.now c.args.p c.self.view_is c.requires) c.index-participant.ensures in
    let f = ap (λ (s : Shown). bags_empty (participant_in s.all c.args.p)) (sym c.self.view_is) ∙ e in
    let no = c.if-participant-eq0-2.false in
    elim c.if-participant-eq0.branch [
      | then-participant-eq0 w ↦ no ∙ none_second _ (q.current == 0) (q.prior == 0) (q.oldest == 0) f (sym w.value-is ∙ no)
      | else-participant-eq0 w ↦ no ∙ none_first _ (q.current == 0) (q.prior == 0) (q.oldest == 0) f (sym w.value-is ∙ no)
    ]
