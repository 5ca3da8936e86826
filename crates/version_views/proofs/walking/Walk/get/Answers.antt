use Rattle.std.proofs.Common.{sym, ap, ◌∙◌, subst}
use Rattle.std.specs.Borrow.{Bor}
use Rattle.std.specs.Range.Bound.{bound_map}
use Rattle.tree_index.specs.Cursor.{kept_below, pair_at, deref_pair, shown_forth}
use Rattle.version_views.specs.Cuts.{pairs_in}
use Rattle.version_views.specs.CursorEnds.{fore_place, StandsFore}
use Rattle.version_views.proofs.CursorEndLemmas.{fore_shown, fore_shows}
use Rattle.version_views.proofs.walking.Walk.get.Goals as goal

pub returns-in-Some : goal.returns-in-Some
returns-in-Some g c =
    let cmp = g.K.Ord.cmp in
    let blocks = c.self.inside.version in
    let upper = bound_map (λ (k : Bor g.row.K.Denot). k.now) c.self.inside.upper in
    let stood = subst (StandsFore blocks) c.in-At.is c.self.invariant.forward_stands in
    let shows = ap (λ e. pair_at (pairs_in blocks) (fore_place blocks e)) c.in-At.is ∙ fore_shows cmp blocks c.in-At.position stood ∙ sym c.get.ensures ∙ ap deref_pair c.in-Some.is in
    c.below.ensures ∙ sym (ap (kept_below cmp upper) shows) ∙ ap (shown_forth cmp) c.self.view_is

pub returns-in-None : goal.returns-in-None
returns-in-None g c =
    let blocks = c.self.inside.version in
    absurd (fore_shown g.K.Ord.cmp blocks c.in-At.position (subst (StandsFore blocks) c.in-At.is c.self.invariant.forward_stands) (sym c.get.ensures ∙ ap deref_pair c.in-None.is))
