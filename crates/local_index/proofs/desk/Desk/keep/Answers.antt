use Rattle.std.proofs.Common.{rules, ◌≡◌, None, Some, sym, ap, ◌∙◌}
use Rattle.std.specs.List.{slice_get}
use Rattle.std.specs.Option.{unwrap_or}
use Rattle.std.proofs.lemmas.Option.{slice_get_within, unwrap_or-slice_get}
use Rattle.local_index.proofs.desk.Desk.keep.Goals as goal

pub index_mut-requires : goal.index_mut-requires
index_mut-requires g c =
    let at : slice_get c.self.inside.tickets.items c.place-place.result ≡ Some None = ap (slice_get c.self.inside.tickets.items) c.place-place.ensures ∙ ap (λ tickets. slice_get tickets c.args.session.place) c.self.view_is ∙ c.requires in
    let within = slice_get_within c.self.inside.tickets.items c.place-place.result None at in
    search rules

pub unreachable-requires : goal.unreachable-requires
unreachable-requires g c =
    let at : slice_get c.self.inside.tickets.items c.place-place.result ≡ Some None = ap (slice_get c.self.inside.tickets.items) c.place-place.ensures ∙ ap (λ tickets. slice_get tickets c.args.session.place) c.self.view_is ∙ c.requires in
    let none : c.index_mut.result.now ≡ None = c.index_mut.ensures.value ∙ sym (unwrap_or-slice_get c.self.inside.tickets.items c.place-place.result c.index_mut.result.now) ∙ ap (λ o. unwrap_or o c.index_mut.result.now) at in
    search rules
