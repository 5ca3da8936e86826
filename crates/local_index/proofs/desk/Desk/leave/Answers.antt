use Rattle.std.proofs.Common.{None, Some, refl, set, sym, ap, ◌∙◌, subst, arith}
use Rattle.std.specs.List.{slice_get}
use Rattle.std.proofs.lemmas.Option.{get_or_from_slice_get, slice_get_within}
use Rattle.local_index.specs.Desk.{IsUnknown, IsTicketAt}
use Rattle.local_index.proofs.desk.Desk.leave.Goals as goal

pub returns-in_err-place-clause-some : goal.returns-in_err-place-clause-some
returns-in_err-place-clause-some g c = rw c.from_residual.ensures tt

pub returns-in_err-place-clause-none : goal.returns-in_err-place-clause-none
returns-in_err-place-clause-none g c = rw c.from_residual.ensures (subst (λ desk. IsUnknown desk c.args.label) (c.deref.ensures.value ∙ c.self.view_is) c.in_err-place.ensures.none, refl)

pub index_mut-requires : goal.index_mut-requires
index_mut-requires g c =
    let shown = c.in_ok-place.ensures.some in
    let within = slice_get_within c.deref.result.now c.in_ok-place.place (Some shown.0) shown.1.there in
    omega (arith, within, c.deref.ensures.len)

pub returns-clause-some : goal.returns-clause-some
returns-clause-some g c =
    let place = c.in_ok-place.place in
    let shown = c.in_ok-place.ensures.some in
    let there = ap (λ desk. slice_get desk place) (sym c.deref.ensures.value) ∙ shown.1.there in
    let left = c.replace.ensures.value ∙ c.index_mut.ensures.value ∙ get_or_from_slice_get c.self.inside.tickets.items place (Some shown.0) c.index_mut.result.now there in
    rw left (
      place,
      subst (λ desk. IsTicketAt desk c.args.label place shown.0) (c.deref.ensures.value ∙ c.self.view_is) shown.1,
      ap (λ desk. set desk place c.replace.new.dest) c.self.view_is ∙ ap (λ ticket. set c.args.self.now place ticket) c.replace.ensures.after,
    )

pub returns-clause-none : goal.returns-clause-none
returns-clause-none g c =
    let shown = c.in_ok-place.ensures.some in
    let there = ap (λ desk. slice_get desk c.in_ok-place.place) (sym c.deref.ensures.value) ∙ shown.1.there in
    let left = c.replace.ensures.value ∙ c.index_mut.ensures.value ∙ get_or_from_slice_get c.self.inside.tickets.items c.in_ok-place.place (Some shown.0) c.index_mut.result.now there in
    rw left tt
