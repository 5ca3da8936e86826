use Rattle.std.proofs.Common.{sym, ap, ◌∙◌, subst}
use Rattle.std.specs.Ordering.{is_lt}
use Rattle.tree_index.specs.Cursor.{lies_before, deref_pair}
use Rattle.tree_index.specs.declared.cursor.End.TheVariants.{At}
use Rattle.version_views.specs.Cuts.{pairs_in}
use Rattle.version_views.specs.CursorEnds.{fore_place, StandsFore}
use Rattle.version_views.proofs.CursorEndLemmas.{fore_pair, fore_shown, order_told}
use Rattle.version_views.proofs.view.VersionView.follows.Goals as goal

pub returns-in-Some : goal.returns-in-Some
returns-in-Some g c = λ n at.
    let cmp = g.K.Ord.cmp in
    let blocks = c.args.self.now in
    let stands = subst (StandsFore blocks) c.in-At.is c.requires.stands in
    let pair = fore_pair cmp blocks c.in-At.position stands in
    let other = sym pair.1 ∙ sym c.get.ensures ∙ ap deref_pair c.in-Some.is in
    c.is_lt.ensures ∙ ap is_lt c.cmp.ensures ∙ order_told g.met.K.Ord.total (pairs_in blocks) _ n _ _ c.requires.rising.rising other at ∙ sym (ap (λ e. lies_before (fore_place blocks e) (At n)) c.in-At.is ∙ ap (λ e. lies_before e (At n)) pair.0)

pub returns-in-None : goal.returns-in-None
returns-in-None g c = λ n at.
    let blocks = c.args.self.now in
    absurd (fore_shown g.K.Ord.cmp blocks c.in-At.position (subst (StandsFore blocks) c.in-At.is c.requires.stands) (sym c.get.ensures ∙ ap deref_pair c.in-None.is))
