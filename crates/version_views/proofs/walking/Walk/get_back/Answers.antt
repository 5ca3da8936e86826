use Rattle.std.proofs.Common.{sym, ap, ◌∙◌, subst}
use Rattle.std.specs.Borrow.{Bor}
use Rattle.std.specs.Range.Bound.{bound_map}
use Rattle.tree_index.specs.Cursor.{kept_above, pair_at, deref_pair, shown_back}
use Rattle.version_views.specs.Cuts.{pairs_in}
use Rattle.version_views.specs.CursorEnds.{rear_place, StandsRear}
use Rattle.version_views.proofs.CursorEndLemmas.{rear_shown, rear_shows}
use Rattle.version_views.proofs.walking.Walk.get_back.Goals as goal

pub returns-in-Some : goal.returns-in-Some
returns-in-Some g c =
    let cmp = g.K.Ord.cmp in
    let blocks = c.self.inside.version in
    let lower = bound_map (λ (k : Bor g.row.K.Denot). k.now) c.self.inside.lower in
    let stood = subst (StandsRear blocks) c.in-At.is c.self.invariant.backward_stands in
    let shows = ap (λ e. pair_at (pairs_in blocks) (rear_place blocks e)) c.in-At.is ∙ rear_shows cmp blocks c.in-At.position stood ∙ sym c.get_back.ensures ∙ ap deref_pair c.in-Some.is in
    c.above.ensures ∙ sym (ap (kept_above cmp lower) shows) ∙ ap (shown_back cmp) c.self.view_is

pub returns-in-None : goal.returns-in-None
returns-in-None g c =
    let blocks = c.self.inside.version in
    absurd (rear_shown g.K.Ord.cmp blocks c.in-At.position (subst (StandsRear blocks) c.in-At.is c.self.invariant.backward_stands) (sym c.get_back.ensures ∙ ap deref_pair c.in-None.is))
