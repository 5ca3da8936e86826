use Rattle.std.proofs.Common.{Some, ◌∙◌}
use Rattle.std.proofs.lemmas.Option.{get_or_from_slice_get, slice_get_within}
use Rattle.local_index.specs.Desk.{IsUnknown, IsTicketAt}
use Rattle.local_index.proofs.DeskLemmas.{lent_is, lent_some}
use Rattle.local_index.proofs.desk.ticket_of.Goals as goal

pub returns-in_err-place-clause-some : goal.returns-in_err-place-clause-some
returns-in_err-place-clause-some g c = rw c.from_residual.ensures tt

pub returns-in_err-place-clause-none : goal.returns-in_err-place-clause-none
returns-in_err-place-clause-none g c = rw c.from_residual.ensures c.in_err-place.ensures.none

pub bounds-tickets-place : goal.bounds-tickets-place
bounds-tickets-place g c =
    let shown = c.in_ok-place.ensures.some in
    slice_get_within c.args.tickets.now c.in_ok-place.place (Some shown.0) shown.1.there

pub returns-clause-some : goal.returns-clause-some
returns-clause-some g c =
    let shown = c.in_ok-place.ensures.some in
    let there = get_or_from_slice_get c.args.tickets.now c.in_ok-place.place (Some shown.0) c.index-tickets-place.result shown.1.there in
    lent_is (λ ticket. (place : _) × IsTicketAt c.args.tickets.now c.args.label place ticket) c.as_ref.result shown.0 (c.as_ref.ensures.value ∙ c.index-tickets-place.is ∙ there) (c.in_ok-place.place, shown.1)

pub returns-clause-none : goal.returns-clause-none
returns-clause-none g c =
    let shown = c.in_ok-place.ensures.some in
    let there = get_or_from_slice_get c.args.tickets.now c.in_ok-place.place (Some shown.0) c.index-tickets-place.result shown.1.there in
    lent_some (IsUnknown c.args.tickets.now c.args.label) c.as_ref.result shown.0 (c.as_ref.ensures.value ∙ c.index-tickets-place.is ∙ there)
