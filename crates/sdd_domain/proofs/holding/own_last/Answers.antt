use Rattle.std.proofs.Common.{append-nil, ap, ◌∙◌}
use Rattle.sdd_domain.specs.Holding.{all_told}
use Rattle.sdd_domain.proofs.Hands.{last_told}
use Rattle.sdd_domain.proofs.holding.own_last.Goals as goal

pub returns-in_err-pop-clause-hand : goal.returns-in_err-pop-clause-hand
returns-in_err-pop-clause-hand g c = c.requires.hand ∙ ap all_told (c.in_err-pop.ensures.items ∙ append-nil c.pop.new.self.items)

pub own-requires-clause-first : goal.own-requires-clause-first
own-requires-clause-first g c =
    let left = c.pop.new.self.items in
    (all_told left, c.requires.hand ∙ (ap all_told c.in_ok-pop.ensures.items ∙ last_told left c.in_ok-pop.field-0))

pub returns-clause-home : goal.returns-clause-home
returns-clause-home g c = c.own.ensures.home

pub returns-clause-last : goal.returns-clause-last
returns-clause-last g c = (c.in_ok-pop.field-0, c.in_ok-pop.ensures.items, c.own.ensures.item)

pub returns-clause-hand : goal.returns-clause-hand
returns-clause-hand g c =
    let left = c.pop.new.self.items in
    c.own.ensures.hand (all_told left) (c.requires.hand ∙ (ap all_told c.in_ok-pop.ensures.items ∙ last_told left c.in_ok-pop.field-0))

pub returns-clause-same : goal.returns-clause-same
returns-clause-same g c = c.own.ensures.same
